use Rattle.script_runs.proofs.CutLines.{each_cut_line_can_be_run_out as law}
use Rattle.script_runs.proofs.each_cut_line_can_be_run_out.Goals as goal

pub returns : goal.returns
returns g c = λ P. law P
