use Rattle.whole_runs.proofs.Owns.{run_is_own_runs, states_are_their_own}
use Rattle.noted_runs.proofs.run_is_own_runs.Goals as goal

pub returns-clause-runs : goal.returns-clause-runs
returns-clause-runs g c P = run_is_own_runs P

pub returns-clause-states : goal.returns-clause-states
returns-clause-states g c P = states_are_their_own P
