use Rattle.script_runs.proofs.FollowOn.{run_follows_on as law}
use Rattle.script_runs.proofs.run_follows_on.Goals as goal

pub returns : goal.returns
returns g c = λ P. law P
