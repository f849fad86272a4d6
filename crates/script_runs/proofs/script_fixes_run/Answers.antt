use Rattle.script_runs.proofs.Fixed.{script_fixes_run, script_fixes_run_without_looks, script_without_steps_fixes_run}
use Rattle.script_runs.proofs.script_fixes_run.Goals as goal

pub returns-clause-smooth : goal.returns-clause-smooth
returns-clause-smooth g c = λ P. script_fixes_run P

pub returns-clause-without_looks : goal.returns-clause-without_looks
returns-clause-without_looks g c = λ P. script_fixes_run_without_looks P

pub returns-clause-no_steps : goal.returns-clause-no_steps
returns-clause-no_steps g c = λ P. script_without_steps_fixes_run P
