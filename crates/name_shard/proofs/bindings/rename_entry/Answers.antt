use Rattle.std.proofs.Common.{◌≡◌, true, false, None, ap, ◌∙◌, arith}
use Rattle.tect_ids.specs.Keys.{key_eq, dir_eq, name_eq}
use Rattle.map_words.specs.Maps.{set_at}
use Rattle.name_shard.proofs.Renamed.{renamed, renamed_same}
use Rattle.name_shard.proofs.bindings.rename_entry.Goals as goal

pub returns-then-ne-clause-moved : goal.returns-then-ne-clause-moved
unfolding key_eq dir_eq name_eq
returns-then-ne-clause-moved c =
    let apart : key_eq c.args.from.now c.args.to.now ≡ false = grind (arith, c.ne.ensures, c.if-ne.true) in
    c.take.ensures.others ∙ ap (λ m. set_at m c.args.from.now None) c.in_ok-put.ensures.stored
    ∙ renamed c.args.entries.now c.args.from.now c.args.to.now c.args.entry apart

pub returns-else-ne-clause-moved : goal.returns-else-ne-clause-moved
unfolding key_eq dir_eq name_eq
returns-else-ne-clause-moved c =
    let same : key_eq c.args.from.now c.args.to.now ≡ true = grind (arith, c.ne.ensures, c.if-ne.false) in
    c.in_ok-put.ensures.stored ∙ renamed_same c.args.entries.now c.args.from.now c.args.to.now c.args.entry same
