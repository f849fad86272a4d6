use Rattle.std.proofs.Common.{rules}
use Rattle.std.proofs.lemmas.Fn.{always_returns_same}
use Rattle.std.specs.Cmp.Lexicographic.{slice_cmp}
use Rattle.std.specs.Ordering.{is_lt, nat_cmp}
use Rattle.sealed_cache.proofs.Names.{rising_names}
use Rattle.sealed_cache.proofs.listing.do_names_rise.Goals as goal

-- the closure compares the names of two entries
pub returns : goal.returns
returns c =
    let by_names = always_returns_same _ _ _ (λ a r f' called. search rules) in
    let answered = c.is_sorted_by.ensures.cases (λ x y. is_lt (slice_cmp nat_cmp x.name y.name)) by_names in
    rising_names c.args.items.now c.is_sorted_by.result answered
