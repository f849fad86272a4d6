use Rattle.std.proofs.Common.{◌∙◌, ap}
use Rattle.tect_ids.specs.Paths.{but_last}
use Rattle.program_rules.specs.Served.{last_of}
use Rattle.op_names.proofs.LastNames.{but_last_is, last_is}
use Rattle.op_names.proofs.start.split.Goals as goal

pub returns-clause-way : goal.returns-clause-way
returns-clause-way c = but_last_is _ _ _ c.in_ok-last.ensures.ok ∙ ap but_last c.whole-way.ensures

pub returns-clause-last : goal.returns-clause-last
returns-clause-last c = last_is _ _ _ c.in_ok-last.ensures.ok ∙ ap last_of c.whole-way.ensures
