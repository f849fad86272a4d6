use Rattle.session_runs.proofs.RunOn.{each_script_can_be_run_on as law}
use Rattle.session_runs.proofs.each_script_can_be_run_on.Goals as goal

pub returns : goal.returns
returns c = law
