-- Where an entry has to stand: in the pass of its actor, and in the history of its place.
use Rattle.std.proofs.Common.{◌≡◌, ℕ, ◌<◌, ◌≤◌, Bool, true, false, List, refl, sym, ◌∙◌, subst, length, get_or, ltb}
use Rattle.std.proofs.Common.{nat_lt, IsTrue, ◌↔◌, arith, rules}
use Rattle.std.specs.List.{Contains}
use Rattle.std.proofs.lemmas.List.{get_or_default}
use borrow.Author.Tests.{ltb-true}
use Rattle.place_kit.specs.declared.any.AnyKept.{AnyKept}
use Rattle.entry_words.specs.declared.entry.Entry.{Entry}
use Rattle.passes.specs.declared.pass.Pass.{Pass}
use Rattle.place_kit.specs.Kept.{history_of}
use Rattle.merge_runs.specs.Merged.{HaveDifferentActors, StandInOrder, IsStored}
use Rattle.merge_runs.proofs.Order.{In}
use Rattle.merge_runs.proofs.Members.{one_only}
use Rattle.merge_runs.proofs.Strict.{actor_of_pass}
use Rattle.merge_runs.proofs.Places.{stored_at, place_stored}

-- two passes of one actor are one
pub one_pass : (ps : List Pass) (p q : Pass) → HaveDifferentActors ps → In p ps → In q ps → p.actor ≡ q.actor → p ≡ q
one_pass ps p q d i j h = one_only actor_of_pass q.actor ps p q (d q.actor) i j h refl

pub not_true : IsTrue false → ⊥
not_true t = search rules

not_less_or : (m n : ℕ) (b : Bool) → ltb m n ≡ b → n ≤ m → ltb m n ≡ false
not_less_or m n true h l = let k = ltb-true m n h in absurd (omega arith)
not_less_or m n false h l = h

-- the place of the entry's number has it
pub stored_by : (ks : List AnyKept) (e : Entry) (k : AnyKept) (b : Bool) → StandInOrder 0 ks → e.place.0 < length ks
    → k ≡ get_or ks e.place.0 k → (IsTrue b ↔ Contains (history_of k) e) → IsTrue b ↔ IsStored ks e
stored_by ks e k b s l h f = (
  λ t. stored_at ks e k s l h (f.0 t),
  λ w.
      let q = place_stored ks e s w in
      let same : w.0 ≡ k = sym q.1 ∙ get_or_default ks e.place.0 w.0 k l ∙ sym h in
      f.1 (subst (λ x. Contains (history_of x) e) same w.3),
)

-- there is no place of that number
pub stored_nowhere : (ks : List AnyKept) (e : Entry) → StandInOrder 0 ks → length ks ≤ e.place.0
    → IsTrue (nat_lt e.place.0 (length ks)) ↔ IsStored ks e
stored_nowhere ks e s l =
    let f : ltb e.place.0 (length ks) ≡ false = not_less_or e.place.0 (length ks) (ltb e.place.0 (length ks)) refl l in
    let g : IsTrue false ↔ IsStored ks e = (λ t. absurd (not_true t), λ w. absurd (let q = (place_stored ks e s w).0 in omega arith)) in
    subst (λ b. IsTrue b ↔ IsStored ks e) (sym f) g
