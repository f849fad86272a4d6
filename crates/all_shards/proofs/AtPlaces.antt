-- lists of what stands at the places, from the first on
use Rattle.std.proofs.Common.{◌≡◌, ℕ, zero, suc, ◌+◌, ◌<◌, ◌⊎◌, Some, List, [], ◌∷◌, ◌++◌, map, length, get_or, set, refl, subst}
use Rattle.std.proofs.Common.{◌∙◌, inl, inr, arith, length-append}
use Rattle.std.specs.Prelude.{slice_get}

-- the item at an index within a list
pub got_within : {X : Type 0} (xs : List X) (n : ℕ) (d : X) → n < length xs → slice_get xs n ≡ Some (get_or xs n d)
got_within [] n d lt = absurd (omega (arith, lt))
got_within (x ∷ xs) zero d lt = refl
got_within (x ∷ xs) (suc n) d lt = got_within xs n d (omega (arith, lt))

-- what is read of a list with one item more
pub got_of_push : {X : Type 0} (xs : List X) (last x : X) (n : ℕ) → slice_get (xs ++ last ∷ []) n ≡ Some x → (slice_get xs n ≡ Some x)
    ⊎ ((n ≡ length xs) × (last ≡ x))
got_of_push [] last x zero e = inr (refl, cc)
got_of_push [] last x (suc n) e = cc
got_of_push (y ∷ ys) last x zero e = inl e
got_of_push (y ∷ ys) last x (suc n) e = elim (got_of_push ys last x n e) [ inl h ↦ inl h | inr h ↦ inr (omega (arith, h.0), h.1) ]

-- what is read after one was set
pub got_of_set : {X : Type 0} (xs : List X) (i : ℕ) (y : X) (n : ℕ) (x : X) → slice_get (set xs i y) n ≡ Some x → (slice_get xs n ≡ Some x)
    ⊎ ((n ≡ i) × (y ≡ x))
got_of_set [] i y n x e = inl e
got_of_set (z ∷ xs) zero y zero x e = inr (refl, cc)
got_of_set (z ∷ xs) zero y (suc n) x e = inl e
got_of_set (z ∷ xs) (suc i) y zero x e = inl e
got_of_set (z ∷ xs) (suc i) y (suc n) x e = elim (got_of_set xs i y n x e) [ inl h ↦ inl h | inr h ↦ inr (omega (arith, h.0), h.1) ]

-- what is read of the items is read of one of them
pub got_of_map : {X Y : Type 0} (f : X → Y) (xs : List X) (n : ℕ) (y : Y) → slice_get (map f xs) n ≡ Some y
    → (x : X) × (slice_get xs n ≡ Some x) × (f x ≡ y)
got_of_map f [] zero y e = cc
got_of_map f [] (suc n) y e = cc
got_of_map f (x ∷ xs) zero y e = (x, refl, cc)
got_of_map f (x ∷ xs) (suc n) y e = got_of_map f xs n y e

-- that many, and at each place what is to be there
pub record AllAt {X : Type 0} (P : ℕ → X → Type 0) (count : ℕ) (xs : List X) : Type 0 where
  pub number : length xs ≡ count
  pub each : (n : ℕ) (x : X) → slice_get xs n ≡ Some x → P n x

pub none_at : {X : Type 0} (P : ℕ → X → Type 0) → AllAt P 0 []
none_at P = record { number = refl; each = λ n x e. cc }

pub push_at : {X : Type 0} (P : ℕ → X → Type 0) (n : ℕ) (xs : List X) (x : X) → AllAt P n xs → P n x → AllAt P (n + 1) (xs ++ x ∷ [])
push_at {X} P n xs x all is = record {
  number = length-append xs (x ∷ []) ∙ omega (arith, all.number);
  each = λ i y e. elim (got_of_push xs x y i e) [
    | inl h ↦ all.each i y h
    | inr h ↦ subst (λ (z : X). P i z) h.1 (subst (λ (m : ℕ). P m x) (let same : n ≡ i = omega (arith, h.0, all.number) in same) is)
  ];
}
