use Rattle.std.proofs.Common.{rules, sym}
use Rattle.merge_runs.proofs.Places.{histories_from_stored}
use Rattle.merge_runs.proofs.Known.{not_true}
use Rattle.merge_runs.proofs.Splits.{not_in_histories}
use Rattle.merge_runs.proofs.split.if_stored.Goals as goal

pub returns-then-is_stored : goal.returns-then-is_stored
returns-then-is_stored c =
    (sym c.in-Some.is, histories_from_stored c.args.kepts.now c.in-Some.stored (c.if-is_stored.ensures.0 (search rules)))

pub returns-else-is_stored : goal.returns-else-is_stored
returns-else-is_stored c = not_in_histories c.args.kepts.now c.in-Some.stored c.args.entry.now c.in-Some.is
    (λ w. not_true (c.if-is_stored.ensures.1 w))
