use Rattle.std.proofs.Common.{arith}
use Rattle.file_rules.proofs.Placed.{rows_none, rows_more}
use Rattle.file_rules.proofs.spread.rows_on.Goals as goal

pub loop-part-init : goal.loop-part-init
loop-part-init c = grind (arith, rows_none)

pub loop-part-preserved : goal.loop-part-preserved
loop-part-preserved c = grind (arith, rows_more)
