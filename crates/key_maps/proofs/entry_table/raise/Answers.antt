use Rattle.std.proofs.Common.{◌+◌, ◌∙◌, ap, sym, unwrap_or}
use Rattle.key_maps.proofs.Tables.{raised_at, kept_at}
use Rattle.key_maps.proofs.entry_table.raise.Goals as goal

pub returns-in_default-checked_add-clause-unchanged : goal.returns-in_default-checked_add-clause-unchanged
returns-in_default-checked_add-clause-unchanged c =
    kept_at c.args.counts.now c.args.dir c.in-Some.count.now (sym c.in-Some.ensures.value)

pub returns-in-Some-clause-raised : goal.returns-in-Some-clause-raised
returns-in-Some-clause-raised c =
    raised_at c.args.counts.now c.args.dir c.in-Some-checked_add.raised
    (c.in-Some-checked_add.ensures.1 ∙ ap (λ n. unwrap_or n 0 + 1) c.in-Some.ensures.value)

pub returns-in-Ok-clause-raised : goal.returns-in-Ok-clause-raised
returns-in-Ok-clause-raised c =
    rw c.in-Ok.ensures.stored (raised_at c.args.counts.now c.args.dir 1 (ap (λ n. unwrap_or n 0 + 1) c.in_default.ensures.value))
