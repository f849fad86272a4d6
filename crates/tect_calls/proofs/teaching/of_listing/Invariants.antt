use Rattle.std.proofs.Common.{◌≡◌, map, take}
use Rattle.tect_calls.specs.declared.tokens.Fact.TheVariants.{Made}
use Rattle.tect_calls.proofs.teaching.of_listing.Given as goal

abbrev pub invariant-items : goal.invariant-items
invariant-items l = l.facts.items ≡ map (λ item. Made item.node) (take l.item-index l.item-items)
