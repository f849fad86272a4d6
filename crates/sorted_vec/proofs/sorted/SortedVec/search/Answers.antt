use Rattle.std.proofs.Common.{rules}
use Rattle.std.proofs.lemmas.Fn.{always_returns_same}
use Rattle.map_words.specs.Pairs.{IsRising}
use Rattle.map_words.proofs.Finds.{searched}
use Rattle.sorted_vec.proofs.sorted.SortedVec.search.Goals as goal

-- the closure compares the key of a pair
pub returns : goal.returns
returns g c =
    let R = g.K.Ord.cmp in
    let pairs = c.deref.result.now in
    let facts = c.binary_search_by.ensures in
    let by_key = facts.position (λ e. R e.0 c.args.key.now) (always_returns_same _ _ _ (λ a r f' called. search rules)) in
    let rising : IsRising R pairs = rw c.deref.ensures.value c.self.invariant in
    let found = searched R g.met.K.Ord.total c.args.key.now pairs rising c.binary_search_by.result facts.bound by_key in
    rw (← c.self.view_is, ← c.deref.ensures.value) record { found = found.0; absent = found.1; rising = rising }
