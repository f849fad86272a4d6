use Rattle.std.proofs.Common.{◌≡◌}
use Rattle.file_rules.specs.Placing.{rows_on}
use Rattle.file_rules.proofs.spread.rows_on.Given as goal

abbrev pub invariant-loop-part : goal.invariant-loop-part
invariant-loop-part l = l.rows.items ≡ rows_on l.disks l.op l.from 0 l.part
