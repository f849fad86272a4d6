use Rattle.std.proofs.Common.{◌≡◌, true, rules, sym}
use Rattle.std.proofs.lemmas.Fn.{always_returns_same}
use Rattle.std.specs.Cmp.Lexicographic.{slice_cmp}
use Rattle.std.specs.Ordering.{nat_cmp}
use Rattle.sealed_cache.specs.Sealed.{names_rise}
use Rattle.sealed_cache.proofs.Names.{found_at, found_none}
use Rattle.sealed_cache.proofs.listing.SealedListing.find.Goals as goal

-- the closure compares the name of an entry
pub returns-in-Ok : goal.returns-in-Ok
returns-in-Ok c =
    let items = c.as_slice-items.result.now in
    let name = c.args.name.now in
    let facts = c.in-Ok.ensures in
    let by_name = facts.position (λ e. slice_cmp nat_cmp e.name name) (always_returns_same _ _ _ (λ a r f' called. search rules)) in
    let rises : names_rise items ≡ true = rw c.as_slice-items.ensures c.self.invariant in
    let found = found_at items name rises c.in-Ok.at c.index-items-at.result facts.bound by_name in
    rw (← c.self.view_is, ← c.as_slice-items.ensures) (sym found)

pub returns-in-Err : goal.returns-in-Err
returns-in-Err c =
    let items = c.as_slice-items.result.now in
    let name = c.args.name.now in
    let facts = c.in-Err.ensures in
    let by_name = facts.position (λ e. slice_cmp nat_cmp e.name name) (always_returns_same _ _ _ (λ a r f' called. search rules)) in
    let rises : names_rise items ≡ true = rw c.as_slice-items.ensures c.self.invariant in
    rw (← c.self.view_is, ← c.as_slice-items.ensures) (sym (found_none items name rises c.in-Err.field-0 facts.bound by_name))
