use Rattle.script_reader.proofs.PublicLaws.{result_spelled, result_complete, result_written, result_first}
use Rattle.script_reader.proofs.script.read_script.Goals as goal

pub returns-clause-spelled : goal.returns-clause-spelled
returns-clause-spelled c = result_spelled c.args.bytes.now c.read_plan.result c.read_plan.ensures

pub returns-clause-complete : goal.returns-clause-complete
returns-clause-complete c = λ plan spells. result_complete c.args.bytes.now plan c.read_plan.result c.read_plan.ensures spells

pub returns-clause-written : goal.returns-clause-written
returns-clause-written c = λ plan is small text. result_written c.args.bytes.now plan c.read_plan.result c.read_plan.ensures is small text

pub returns-clause-first : goal.returns-clause-first
returns-clause-first c = result_first c.args.bytes.now c.read_plan.result c.read_plan.ensures
