-- facts of each element of a list, by recursion on it; and filters
use Rattle.std.proofs.Common.{◌≡◌, ℕ, ◌<◌, Bool, true, false, if◌then◌else◌, Some, List, [], ◌∷◌, ◌++◌, length, refl, ap, subst, map, zero}
use Rattle.std.proofs.Common.{suc, eqb, arith}
use Rattle.std.specs.List.{AllByRecursion, All, filter, slice_get, flat_map}
use Rattle.std.proofs.lemmas.List.Elements.{filter_passes, recursion_from_All}
use Rattle.world_runs.proofs.Actors.{same_number}
use Rattle.std.proofs.lemmas.Option.{get_or_from_slice_get, slice_get_within}

pub every-append : {X : Type 0} (P : X → Type 0) (xs ys : List X) → AllByRecursion P xs → AllByRecursion P ys → AllByRecursion P (xs ++ ys)
every-append P [] ys h k = k
every-append P (x ∷ xs) ys h k = (h.0, every-append P xs ys h.1 k)

pub every-front : {X : Type 0} (P : X → Type 0) (xs ys : List X) → AllByRecursion P (xs ++ ys) → AllByRecursion P xs
every-front P [] ys h = tt
every-front P (x ∷ xs) ys h = (h.0, every-front P xs ys h.1)

pub every-rest : {X : Type 0} (P : X → Type 0) (xs ys : List X) → AllByRecursion P (xs ++ ys) → AllByRecursion P ys
every-rest P [] ys h = h
every-rest P (x ∷ xs) ys h = every-rest P xs ys h.1

pub every_weaker : {X : Type 0} (P Q : X → Type 0) → ((x : X) → P x → Q x) → (xs : List X) → AllByRecursion P xs → AllByRecursion Q xs
every_weaker P Q f [] h = tt
every_weaker P Q f (x ∷ xs) h = (f x h.0, every_weaker P Q f xs h.1)

pub every_always : {X : Type 0} (P : X → Type 0) → ((x : X) → P x) → (xs : List X) → AllByRecursion P xs
every_always P f [] = tt
every_always P f (x ∷ xs) = (f x, every_always P f xs)

pub every_cond : {X : Type 0} (P : X → Type 0) (b : Bool) (x : X) (xs : List X) → P x → AllByRecursion P xs
    → AllByRecursion P (if b then x ∷ xs else xs)
every_cond P true x xs h k = (h, k)
every_cond P false x xs h k = k

pub every-filter : {X : Type 0} (P : X → Type 0) (p : X → Bool) (xs : List X) → AllByRecursion P xs → AllByRecursion P (filter p xs)
every-filter P p [] h = tt
every-filter P p (x ∷ xs) h = every_cond P (p x) x (filter p xs) h.0 (every-filter P p xs h.1)

-- ---- filters

pub filter_all : {X : Type 0} (p : X → Bool) (xs : List X) → AllByRecursion (λ x. p x ≡ true) xs → filter p xs ≡ xs
filter_all p [] h = refl
filter_all p (x ∷ xs) h = rw h.0 (ap (λ ys. x ∷ ys) (filter_all p xs h.1))

pub filter_none : {X : Type 0} (p : X → Bool) (xs : List X) → AllByRecursion (λ x. p x ≡ false) xs → filter p xs ≡ []
filter_none p [] h = refl
filter_none p (x ∷ xs) h = rw h.0 (filter_none p xs h.1)

pub passes : {X : Type 0} (p : X → Bool) (xs : List X) → AllByRecursion (λ x. p x ≡ true) (filter p xs)
passes p xs = recursion_from_All (λ x. p x ≡ true) (filter p xs) (filter_passes p xs)

-- ---- by places

pub at_place : {X : Type 0} (P : X → Type 0) (xs : List X) (i : ℕ) (x : X) → All P xs → slice_get xs i ≡ Some x → P x
at_place P xs i x h e = subst P (get_or_from_slice_get xs i x x e) (h i x (slice_get_within xs i x e))

pub mapped_at : {X Y : Type 0} (f : X → Y) (xs : List X) (i : ℕ) (y : Y) → slice_get (map f xs) i ≡ Some y
    → (x : X) × (slice_get xs i ≡ Some x) × (y ≡ f x)
mapped_at f [] i y e = absurd (cc)
mapped_at f (x ∷ xs) zero y e = (x, refl, (cc))
mapped_at f (x ∷ xs) (suc i) y e = mapped_at f xs i y e

pub every_piece : {X Y : Type 0} (P : Y → Type 0) (f : X → List Y) (xs : List X)
    → ((i : ℕ) (x : X) → slice_get xs i ≡ Some x → AllByRecursion P (f x)) → AllByRecursion P (flat_map f xs)
every_piece P f [] h = tt
every_piece P f (x ∷ xs) h = every-append P (f x) (flat_map f xs) (h 0 x refl) (every_piece P f xs (λ i y e. h (suc i) y e))

-- each place of the list has an element
pub has_place : {X : Type 0} (xs : List X) (i : ℕ) → i < length xs → (x : X) × (slice_get xs i ≡ Some x)
has_place [] i h = absurd (omega arith)
has_place (x ∷ xs) zero h = (x, refl)
has_place (x ∷ xs) (suc i) h = has_place xs i (omega arith)

-- what holds of the elements of each kind holds of all, where the kinds are all that there are
every_of_kinds : {X : Type 0} (P : X → Type 0) (b : Bool) (x : X) (xs : List X) → AllByRecursion P (if b then x ∷ xs else xs)
    → AllByRecursion P xs
every_of_kinds P true x xs h = h.1
every_of_kinds P false x xs h = h

first_of_kind : {X : Type 0} (P : X → Type 0) (b : Bool) (x : X) (xs : List X) → b ≡ true → AllByRecursion P (if b then x ∷ xs else xs)
    → P x
first_of_kind P true x xs e h = h.0
first_of_kind P false x xs e h = absurd (cc)

pub every_kind : {X : Type 0} (P : X → Type 0) (kind : X → ℕ) (K : ℕ → Type 0) (xs : List X)
    → ((n : ℕ) → K n → AllByRecursion P (filter (λ x. eqb (kind x) n) xs))
    → AllByRecursion (λ x. K (kind x)) xs → AllByRecursion P xs
every_kind P kind K [] h known = tt
every_kind P kind K (x ∷ xs) h known = (
  first_of_kind P (eqb (kind x) (kind x)) x (filter (λ y. eqb (kind y) (kind x)) xs) (same_number (kind x)) (h (kind x) known.0),
  every_kind P kind K xs (λ n k. every_of_kinds P (eqb (kind x) n) x (filter (λ y. eqb (kind y) n) xs) (h n k)) known.1,
)
