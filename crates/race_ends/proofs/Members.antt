-- elements of a list by their places
use Rattle.std.proofs.Common.{◌≡◌, ℕ, zero, suc, inl, inr, Some, List, [], ◌∷◌, ◌+◌, length, refl, sym, ap, ◌∙◌, subst, arith}
use Rattle.std.specs.List.{All, AllZip, slice_get}
use Rattle.merge_runs.proofs.Order.{In}
use Rattle.merge_runs.proofs.Trails.{in_all}
use Rattle.race_runs.specs.Stories.{Story}
use Rattle.passes.specs.declared.pass.Pass.{Pass}

pub in_from_place : {X : Type 0} (xs : List X) (i : ℕ) (x : X) → slice_get xs i ≡ Some x → In x xs
in_from_place [] i x e = absurd cc
in_from_place (y ∷ ys) zero x e = inl (cc)
in_from_place (y ∷ ys) (suc i) x e = inr (in_from_place ys i x e)

pub place_from_in : {X : Type 0} (xs : List X) (x : X) → In x xs → (i : ℕ) × (slice_get xs i ≡ Some x)
place_from_in [] x h = absurd h
place_from_in (y ∷ ys) x (inl e) = (0, ap (λ z. Some z) e)
place_from_in (y ∷ ys) x (inr h) = let at = place_from_in ys x h in (suc at.0, at.1)

pub all_from_places : {X : Type 0} (P : X → Type 0) (xs : List X) → ((i : ℕ) (x : X) → slice_get xs i ≡ Some x → P x) → All P xs
all_from_places P xs f = in_all P xs (λ x h. let at = place_from_in xs x h in f at.0 x at.1)

-- each element of the second of two lists has its fellow beside it
pub fellow_of_second : {X Y : Type 0} (R : X → Y → Type 0) (xs : List X) (ys : List Y) (y : Y) → AllZip R xs ys → In y ys → (x : X)
    × In x xs × R x y
fellow_of_second R xs [] y z h = absurd h
fellow_of_second R [] (b ∷ ys) y z h = absurd z
fellow_of_second {X} {Y} R (a ∷ xs) (b ∷ ys) y z (inl e) = (a, inl refl, subst (λ (w : Y). R a w) e z.0)
fellow_of_second R (a ∷ xs) (b ∷ ys) y z (inr h) = let f = fellow_of_second R xs ys y z.1 h in (f.0, inr f.1, f.2)

pub zip_length : {X Y : Type 0} (R : X → Y → Type 0) (xs : List X) (ys : List Y) → AllZip R xs ys → length xs ≡ length ys
zip_length R [] [] z = refl
zip_length R [] (y ∷ ys) z = absurd z
zip_length R (x ∷ xs) [] z = absurd z
zip_length R (x ∷ xs) (y ∷ ys) z = ap (λ n. suc n) (zip_length R xs ys z.1)

-- the stories of passes that are numbered are numbered too
pub zip_numbered : (R : Pass → Story → Type 0) → ((p : Pass) (s : Story) → R p s → s.actor ≡ p.actor)
    → (ps : List Pass) (ss : List Story) (low : ℕ) → AllZip R ps ss
    → ((i : ℕ) (p : Pass) → slice_get ps i ≡ Some p → p.actor ≡ low + i + 1) → (i : ℕ) (s : Story) → slice_get ss i ≡ Some s
    → s.actor ≡ low + i + 1
zip_numbered R same ps [] low z own i s e = absurd cc
zip_numbered R same [] (t ∷ ss) low z own i s e = absurd z
zip_numbered R same (p ∷ ps) (t ∷ ss) low z own zero s e = let here : t ≡ s = cc
    in ap (λ (u : Story). u.actor) (sym here) ∙ same p t z.0 ∙ own 0 p refl
zip_numbered R same (p ∷ ps) (t ∷ ss) low z own (suc i) s e =
    let rest = zip_numbered R same ps ss (low + 1) z.1 (λ j q g. omega (arith, own (suc j) q g)) i s e in omega (arith, rest)
