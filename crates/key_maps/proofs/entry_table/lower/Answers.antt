use Rattle.std.proofs.Common.{◌∙◌, sym}
use Rattle.key_maps.proofs.Tables.{dropped}
use Rattle.key_maps.proofs.entry_table.lower.Goals as goal

pub returns-then-left-eq0 : goal.returns-then-left-eq0
returns-then-left-eq0 c =
    let before = c.lowered-left in
    let none = sym before.ensures.left ∙ c.if-left-eq0.true in
    rw c.take.ensures.others (λ d. dropped before.new.counts c.args.dir none d ∙ before.ensures.lowered d)
