-- Moments that were sorted by their keys are in order.
use Rattle.std.proofs.Common.{◌≡◌, ◌+◌, ◌<◌, Bool, false, List, [], ◌∷◌, ◌∙◌, ap, subst, arith, length, get_or, map}
use Rattle.std.specs.List.{flat_map}
use Rattle.std.specs.List.Sorted.{IsPermutation, IsSortedBy}
use Rattle.std.specs.Ordering.{is_lt}
use Rattle.std.proofs.lemmas.List.{get_or-map, length-map}
use Rattle.std.proofs.lemmas.List.Sorted.{IsPermutation-map}
use Rattle.passes.specs.declared.pass.Pass.{Pass}
use Rattle.merge_runs.specs.declared.keyed.Keyed.{Keyed}
use Rattle.merge_runs.specs.Keyed.{moment_in}
use Rattle.merge_runs.specs.Merged.{moment_cmp, moments_of, IsInOrder, HaveDifferentActors}
use Rattle.merge_runs.proofs.Strict.{order_sorted}

module _ {K X : Type 0} (f : K → X) (lt : X → X → Bool) where
  sorted_map : (ks : List K) → IsSortedBy (λ x y. lt (f x) (f y)) ks → IsSortedBy lt (map f ks)
  sorted_map [] s k d a l = absurd (let n = length-map [] f in omega arith)
  sorted_map (x ∷ xs) s k d a l =
      let n = length-map (x ∷ xs) f in
      let here : k < length (x ∷ xs) = omega arith in
      let next : k + 1 < length (x ∷ xs) = omega arith in
      let p : get_or (map f (x ∷ xs)) k d ≡ f (get_or (x ∷ xs) k x) = get_or-map f (x ∷ xs) k x d here in
      let q : get_or (map f (x ∷ xs)) (k + 1) d ≡ f (get_or (x ∷ xs) (k + 1) x) = get_or-map f (x ∷ xs) (k + 1) x d next in
      let t : lt (f (get_or (x ∷ xs) (k + 1) x)) (f (get_or (x ∷ xs) k x)) ≡ false = s k x a next in
      ap (λ w. lt w (get_or (map f (x ∷ xs)) k d)) q ∙ ap (λ w. lt (f (get_or (x ∷ xs) (k + 1) x)) w) p ∙ t

pub all_sorted : (ps : List Pass) (before after : List Keyed) → map moment_in before ≡ flat_map moments_of ps
    → IsPermutation before after → IsPermutation (flat_map moments_of ps) (map moment_in after)
all_sorted ps before after e p = subst (λ xs. IsPermutation xs (map moment_in after)) e (IsPermutation-map moment_in before after p)

pub order_keyed : (ps : List Pass) (before after : List Keyed) → HaveDifferentActors ps → map moment_in before
    ≡ flat_map moments_of ps → IsPermutation before after
    → IsSortedBy (λ x y. is_lt (moment_cmp (moment_in x) (moment_in y))) after → IsInOrder (map moment_in after)
order_keyed ps before after d e p s =
    order_sorted ps (map moment_in after) d (all_sorted ps before after e p) (sorted_map moment_in (λ x y. is_lt (moment_cmp x y)) after s)
