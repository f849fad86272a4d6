use Rattle.whole_runs.proofs.Owns.{own_runs_make_run}
use Rattle.noted_runs.proofs.own_runs_make_run.Goals as goal

pub returns : goal.returns
returns g c P = own_runs_make_run P
