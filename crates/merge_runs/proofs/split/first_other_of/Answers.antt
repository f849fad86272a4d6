use Rattle.std.proofs.Common.{rules}
use Rattle.merge_runs.specs.Splits.{IsOther}
use Rattle.merge_runs.proofs.Firsts.{first_at}
use Rattle.merge_runs.proofs.split.first_other_of.Goals as goal

pub returns-then-is_other : goal.returns-then-is_other
returns-then-is_other c =
    first_at (IsOther c.args.actor c.args.step c.args.in_pass.now) c.args.history.now c.loop-entry.entry-index c.entry-item.result
    c.loop-entry-test.true c.entry-item.is (c.if-is_other.ensures.0 (search rules)) c.loop-entry.invariant
