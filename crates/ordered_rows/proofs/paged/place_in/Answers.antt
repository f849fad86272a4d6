use Rattle.std.proofs.Common.{rules}
use Rattle.std.proofs.lemmas.Fn.{always_returns_same}
use Rattle.map_words.proofs.Finds.{searched}
use Rattle.ordered_rows.proofs.paged.place_in.Goals as goal

-- the closure compares the key of a pair
pub returns : goal.returns
returns g c =
    let R = g.K.Ord.cmp in
    let facts = c.binary_search_by.ensures in
    let by_key = facts.position (λ e. R e.0 c.args.key.now) (always_returns_same _ _ _ (λ a r f' called. search rules)) in
    let found = searched R g.met.K.Ord.total c.args.key.now c.args.page.now c.requires c.binary_search_by.result facts.bound by_key in
    record { found = found.0; absent = found.1 }
