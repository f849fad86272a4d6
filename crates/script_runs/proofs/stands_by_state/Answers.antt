use Rattle.script_runs.proofs.FollowOn.{stands_by_state as law}
use Rattle.script_runs.proofs.stands_by_state.Goals as goal

pub returns : goal.returns
returns g c = λ P. law P
