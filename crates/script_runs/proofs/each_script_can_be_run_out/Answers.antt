use Rattle.script_runs.proofs.RunOut.{each_script_can_be_run_out as law}
use Rattle.script_runs.proofs.each_script_can_be_run_out.Goals as goal

pub returns : goal.returns
returns g c = λ P. law P
