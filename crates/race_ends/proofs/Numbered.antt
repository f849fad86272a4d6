-- passes that are numbered by their actors: no two of them are of one actor
use Rattle.std.proofs.Common.{◌≡◌, ◌⊎◌, inl, inr, ℕ, suc, ◌+◌, ◌≤◌, Bool, true, false, cond, eqb, Some, List, [], ◌∷◌, refl, arith}
use borrow.Author.Tests.{eqb-true}
use Rattle.std.proofs.lemmas.List.Sums.{sum_by-cons}
use Rattle.std.specs.List.{slice_get}
use Rattle.passes.specs.declared.pass.Pass.{Pass}
use Rattle.merge_runs.specs.Merged.{HaveDifferentActors}
use Rattle.merge_runs.proofs.Members.{count_of}
use Rattle.merge_runs.proofs.Strict.{actor_of_pass}

abbrev one_of : ℕ → Pass → ℕ
one_of a p = cond (eqb p.actor a) 1 0

abbrev count : ℕ → List Pass → ℕ
count a ps = count_of actor_of_pass a ps

-- the actors count up
abbrev pub NumberedFrom : ℕ → List Pass → Type 0
NumberedFrom low ps = (i : ℕ) (p : Pass) → slice_get ps i ≡ Some p → p.actor ≡ low + i + 1

rest_numbered : (low : ℕ) (p : Pass) (ps : List Pass) → NumberedFrom low (p ∷ ps) → NumberedFrom (low + 1) ps
rest_numbered low p ps own = λ i q e. omega (arith, own (suc i) q e)

it_or_not : (a : ℕ) (p : Pass) (b : Bool) → eqb p.actor a ≡ b → ((p.actor ≡ a) × (one_of a p ≡ 1)) ⊎ (one_of a p ≡ 0)
it_or_not a p true h = inl (eqb-true p.actor a h, rw h refl)
it_or_not a p false h = inr (rw h refl)

none_below : (low a : ℕ) (ps : List Pass) → NumberedFrom low ps → a ≤ low → count a ps ≡ 0
none_below low a [] own below = refl
none_below low a (p ∷ ps) own below =
    let here : p.actor ≡ low + 0 + 1 = own 0 p refl in
    let rest = none_below (low + 1) a ps (rest_numbered low p ps own) (omega arith) in
    let sum = sum_by-cons (one_of a) p ps in
    elim (it_or_not a p (eqb p.actor a) refl) [ inl it ↦ absurd (omega (arith, here, it.0)) | inr not ↦ omega (arith, sum, rest, not) ]

at_most_one : (low a : ℕ) (ps : List Pass) → NumberedFrom low ps → count a ps ≤ 1
at_most_one low a [] own = omega arith
at_most_one low a (p ∷ ps) own =
    let here : p.actor ≡ low + 0 + 1 = own 0 p refl in
    let sum = sum_by-cons (one_of a) p ps in
    elim (it_or_not a p (eqb p.actor a) refl) [
      | inl it ↦ (let none = none_below (low + 1) a ps (rest_numbered low p ps own) (omega (arith, here, it.0))
          in omega (arith, sum, none, it.1))
      | inr not ↦ (let rest = at_most_one (low + 1) a ps (rest_numbered low p ps own) in omega (arith, sum, rest, not))
    ]

pub actors_differ : (ps : List Pass) → NumberedFrom 0 ps → HaveDifferentActors ps
actors_differ ps own a = at_most_one 0 a ps own
