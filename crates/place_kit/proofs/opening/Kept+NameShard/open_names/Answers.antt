use Rattle.std.proofs.Common.{ap, sym, ◌∙◌, Bool, false}
use Rattle.entry_words.specs.declared.entry.Label.{Label}
use Rattle.tect_ids.specs.declared.ids.Layer.TheVariants.{Names}
use Rattle.place_kit.specs.Machines.{has_root, name_opening}
use Rattle.place_kit.proofs.Openings.{opens_so}
use Rattle.place_kit.proofs.opening.Kept+NameShard.open_names.Goals as goal

pub start-requires : goal.start-requires
start-requires c =
    let e = c.in_ok-shard.ensures in
    e ∙ ap name_opening (sym (ap has_root e ∙ opens_so c.args.has_root))

pub returns-clause-label : goal.returns-clause-label
returns-clause-label c =
    let e = c.in_ok-shard.ensures in
    let label : Bool → Label = λ b. record { place = c.args.place; layer = Names; rooted = b; folded = false } in
    c.start.ensures.label ∙ ap label (ap has_root e ∙ opens_so c.args.has_root)
