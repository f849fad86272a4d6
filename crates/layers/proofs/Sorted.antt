-- the keys of several maps, each in one of them, are the keys of all together once they are sorted
use Rattle.std.proofs.Common.{◌≡◌, ℕ, suc, ◌+◌, ◌<◌, Bool, true, false, ◌&&◌, ◌||◌, T, cond, Option}
use Rattle.std.proofs.Common.{Some, None, is_some, List, [], ◌∷◌, ◌++◌, map, length, get_or, refl, sym, ap, ◌∙◌, subst, arith}
use Rattle.std.specs.List.{flat_map, list_any, IsDistinct, AllByRecursion}
use Rattle.std.specs.List.Sorted.{IsPermutation, IsSorted, IsStrictlySortedBy}
use Rattle.std.specs.declared.cmp.Ordering.{Ordering}
use Rattle.std.specs.declared.cmp.Ordering.TheVariants.{Less, Equal, Greater}
use Rattle.std.specs.Ordering.{eq_by_cmp, is_lt, is_eq, ordering_reverse}
use Rattle.std.specs.Cmp.{IsTotalOrder, tied_itself}
use Rattle.std.specs.FinMap.{FinMap, IsAntisymmetric, contains_key, keys, entries, entries_sorted, find, is_sorted, from_entries}
use Rattle.std.specs.FinMap.{get-from_entries, contains_key-keys}
use Rattle.std.specs.FinMap.Entries.{below_all, is_some-find, same_entries}
use Rattle.std.proofs.lemmas.List.{map-append}
use Rattle.std.proofs.lemmas.List.Sorted.{list_any-IsPermutation}
use Rattle.std.proofs.lemmas.Map.Keys.{sorted_head, sorted_tail, sorted_from_all_adjacent, apart_from_distinct, IsDistinct-from_sorted}
use Rattle.std.proofs.lemmas.Map.Keys.{IsDistinct-IsPermutation}
use Rattle.store_shards.proofs.Found.{found_nowhere}

-- ---- lists of keys

pub both : (a b : Bool) → T (a && b) → T a × T b
both true b p = (tt, p)
both false b p = absurd p

join : (a b : Bool) → T a → T b → T (a && b)
join true b p q = q
join false b p q = absurd p

is_less : (r : Ordering) → T (is_lt r) → r ≡ Less
is_less Less p = refl
is_less Equal p = absurd p
is_less Greater p = absurd p

less_is : (r : Ordering) → r ≡ Less → T (is_lt r)
less_is r e = subst (λ (x : Ordering). T (is_lt x)) (sym e) tt

rises : (r s : Ordering) → r ≡ ordering_reverse s → is_eq r ≡ false → is_lt s ≡ false → r ≡ Less
rises r Less e apart last = absurd (grind (arith, last))
rises r Equal e apart last = absurd (grind (arith, e, apart))
rises r Greater e apart last = e

-- keys as entries without values
abbrev tagged : {K : Type 0} → List K → List (K × Unit {0})
tagged xs = map (λ k. (k, tt)) xs

untagged : {K : Type 0} (xs : List K) → map (λ e. e.0) (tagged xs) ≡ xs
untagged [] = refl
untagged {K = K} (x ∷ xs) = ap (λ (ks : List K). x ∷ ks) (untagged xs)

or_found : (b c : Bool) (x : Option (Unit {0})) → x ≡ cond c (Some tt) None → cond b (Some tt) x ≡ cond (b || c) (Some tt) None
or_found true c x e = refl
or_found false c x e = e

module _ {K : Type 0} (R : K → K → Ordering) where
  find_tagged : (q : K) (xs : List K) → find R q (tagged xs) ≡ cond (list_any (eq_by_cmp R q) xs) (Some tt) None
  find_tagged q [] = refl
  find_tagged q (x ∷ xs) = or_found (eq_by_cmp R q x) _ _ (find_tagged q xs)

  below_tagged : (x : K) (xs : List K) → AllByRecursion (λ y. R x y ≡ Less) xs → T (below_all R x (tagged xs))
  below_tagged x [] all = tt
  below_tagged x (y ∷ ys) (first, rest) = join _ _ (less_is _ first) (below_tagged x ys rest)

  sorted_tagged : (xs : List K) → IsStrictlySortedBy R xs → T (is_sorted R (tagged xs))
  sorted_tagged [] is = tt
  sorted_tagged (x ∷ xs) is = join _ _ (below_tagged x xs (sorted_head R x xs is)) (sorted_tagged xs (sorted_tail R x xs is))

module _ {K X : Type 0} (R : K → K → Ordering) where
  below_keys : (x : K) (es : List (K × X)) → below_all R x (tagged (map (λ e. e.0) es)) ≡ below_all R x es
  below_keys x [] = refl
  below_keys x (e ∷ es) = ap (λ (b : Bool). is_lt (R x e.0) && b) (below_keys x es)

  keys_tagged : (es : List (K × X)) → is_sorted R (tagged (map (λ e. e.0) es)) ≡ is_sorted R es
  keys_tagged [] = refl
  keys_tagged (e ∷ es) = ap (λ (b : Bool). b && is_sorted R (tagged (map (λ d. d.0) es))) (below_keys e.0 es) ∙ ap
      (λ (b : Bool). below_all R e.0 es && b) (keys_tagged es)

  all_below : (x : K) (es : List (K × X)) → T (below_all R x es) → AllByRecursion (λ y. R x y ≡ Less) (map (λ e. e.0) es)
  all_below x [] h = tt
  all_below x (e ∷ es) h = let parts = both _ _ h in (is_less _ parts.0, all_below x es parts.1)

  strict_keys : (es : List (K × X)) → T (is_sorted R es) → IsStrictlySortedBy R (map (λ e. e.0) es)
  unfolding IsStrictlySortedBy
  strict_keys [] h = tt
  strict_keys (e ∷ es) h = let parts = both _ _ h in (all_below e.0 es parts.0, strict_keys es parts.1)

-- ---- sorted keys that differ

module _ {K : Type 0} {R : K → K → Ordering} (o : IsTotalOrder R) where
  flips : (x y : K) → eq_by_cmp R x y ≡ eq_by_cmp R y x
  flips x y = grind (arith, o.antisymm x y)

  strict : (xs : List K) (d : K) → IsSorted R xs → IsDistinct (eq_by_cmp R) xs → IsStrictlySortedBy R xs
  strict xs d sorted distinct = sorted_from_all_adjacent o xs d (λ k lt.
      rises _ (R (get_or xs (k + 1) d) (get_or xs k d)) (o.antisymm (get_or xs k d) (get_or xs (k + 1) d))
      (apart_from_distinct (eq_by_cmp R) xs k (k + 1) d distinct (omega arith) lt)
      (sorted k d (omega arith) lt))

module _ {K X : Type 0} {R : K → K → Ordering} (o : IsTotalOrder R) (same : IsAntisymmetric R) where
  -- the keys of a map are the one strictly sorted list of them
  one_list : (xs : List K) (m : FinMap R X) → IsStrictlySortedBy R xs → ((q : K) → list_any (eq_by_cmp R q) xs ≡ contains_key m q)
      → xs ≡ keys m
  one_list xs m is has =
      sym (untagged xs)
      ∙ ap (map (λ e. e.0))
      (same_entries R o same (tagged xs) (tagged (keys m)) (sorted_tagged R xs is)
      (subst T (sym (keys_tagged R (entries m))) (entries_sorted m))
      (λ q. find_tagged R q xs ∙ ap (λ (b : Bool). cond b (Some tt) None) (has q ∙ contains_key-keys m q) ∙ sym (find_tagged R q (keys m))))
      ∙ untagged (keys m)

  -- sorted keys of a list of entries, of which no two have the same
  pub sorted_keys : (es : List (K × X)) (xs : List K) (d : K) → IsDistinct (eq_by_cmp R) (map (λ e. e.0) es)
      → IsPermutation (map (λ e. e.0) es) xs → IsSorted R xs → xs ≡ keys (from_entries {R = R} es)
  sorted_keys es xs d distinct moves sorted =
      one_list xs (from_entries es) (strict o xs d sorted (IsDistinct-IsPermutation (eq_by_cmp R) (flips o) _ xs moves distinct))
      (λ q. sym (list_any-IsPermutation (eq_by_cmp R q) _ xs moves) ∙ sym (is_some-find R q es) ∙ ap is_some
      (sym (get-from_entries o es q)))

-- ---- keys of several maps

pub or_none : (b c : Bool) → (b || c) ≡ false → (b ≡ false) × (c ≡ false)
or_none true c e = absurd (grind (arith, e))
or_none false c e = (refl, e)

no_key : {K : Type 0} (e : K → K → Bool) (x : K) (ys : List K) → list_any (e x) ys ≡ false → AllByRecursion (λ y. e x y ≡ false) ys
no_key e x [] none = tt
no_key e x (y ∷ ys) none = let parts = or_none (e x y) _ none in (parts.0, no_key e x ys parts.1)

all_append : {K : Type 0} (P : K → Type 0) (xs ys : List K) → AllByRecursion P xs → AllByRecursion P ys → AllByRecursion P (xs ++ ys)
all_append P [] ys h k = k
all_append P (x ∷ xs) ys (first, rest) k = (first, all_append P xs ys rest k)

or_true : (a : Bool) → (a || true) ≡ true
or_true true = refl
or_true false = refl

distinct_append : {K : Type 0} (e : K → K → Bool) → ((x : K) → e x x ≡ true) → (xs ys : List K) → IsDistinct e xs → IsDistinct e ys
    → ((q : K) → list_any (e q) xs ≡ true → list_any (e q) ys ≡ false) → IsDistinct e (xs ++ ys)
unfolding IsDistinct
distinct_append e itself [] ys h k apart = k
distinct_append e itself (x ∷ xs) ys (first, rest) k apart = (
  all_append (λ y. e x y ≡ false) xs ys first (no_key e x ys (apart x (ap (λ (b : Bool). b || list_any (e x) xs) (itself x)))),
  distinct_append e itself xs ys rest k (λ q h. apart q (ap (λ (b : Bool). e q x || b) h ∙ or_true (e q x))),
)

pub none_some : {X : Type 0} (o : Option X) → (is_some o ≡ true → ⊥) → o ≡ None
none_some None h = refl
none_some (Some x) h = absurd (h refl)

no_entries : {K : Type 0} (e : K → K → Bool) → IsDistinct e []
unfolding IsDistinct
no_entries e = tt

module _ {S K X : Type 0} {R : K → K → Ordering} (o : IsTotalOrder R) (rows : S → FinMap R X) (home : K → ℕ) (d : S) where
  -- each key is in the map of its home alone
  pub distinct_keys : (ss : List S) (n : ℕ)
      → ((i : ℕ) (q : K) → i < length ss → contains_key (rows (get_or ss i d)) q ≡ true → home q ≡ n + i)
      → IsDistinct (eq_by_cmp R) (map (λ e. e.0) (flat_map (λ s. entries (rows s)) ss))
  distinct_keys [] n at = no_entries (eq_by_cmp R)
  distinct_keys (s ∷ ss) n at =
      subst (IsDistinct (eq_by_cmp R)) (sym (map-append (λ (e : K × X). e.0) (entries (rows s)) (flat_map (λ s. entries (rows s)) ss)))
      (distinct_append (eq_by_cmp R) (λ x. ap is_eq (tied_itself o x)) (keys (rows s)) _
      (IsDistinct-from_sorted R (keys (rows s)) (strict_keys R (entries (rows s)) (entries_sorted (rows s))))
      (distinct_keys ss (n + 1) (λ i q lt h. at (suc i) q (omega (arith, lt)) h ∙ omega arith))
      elsewhere)
    where
      elsewhere : (q : K) → list_any (eq_by_cmp R q) (keys (rows s)) ≡ true
          → list_any (eq_by_cmp R q) (map (λ e. e.0) (flat_map (λ s. entries (rows s)) ss)) ≡ false
      elsewhere q here =
          let first : home q ≡ n + 0 = at 0 q (omega arith) (contains_key-keys (rows s) q ∙ here) in
          sym (is_some-find R q (flat_map (λ s. entries (rows s)) ss))
          ∙ ap is_some (found_nowhere rows q d ss
          (λ i lt. none_some _
          (λ h. let later : home q ≡ n + suc i = at (suc i) q (omega (arith, lt)) h in omega (arith, first, later))))
