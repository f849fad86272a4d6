-- At the step of an entry that not both have, the pass and the places differ.
use Rattle.std.proofs.Common.{◌≡◌, ◌≢◌, ℕ, ◌+◌, ◌<◌, ◌≤◌, true, inl, inr, List, [], ◌∷◌, refl, sym, ◌∙◌, ap, subst}
use Rattle.std.proofs.Common.{arith, eqb, length, get_or, Option, Some, None}
use Rattle.std.specs.List.{All, Contains}
use Rattle.std.proofs.lemmas.List.Elements.{Contains-get_or}
use borrow.Author.Tests.{eqb-true}
use Rattle.place_kit.specs.declared.any.AnyKept.{AnyKept}
use Rattle.entry_words.specs.declared.entry.Entry.{Entry}
use Rattle.entry_words.specs.declared.entry.Moment.{Moment}
use Rattle.passes.specs.declared.pass.Pass.{Pass}
use Rattle.entry_words.specs.Moments.{steps_count}
use Rattle.merge_runs.specs.Merged.{HaveDifferentActors, moments_of, entries_of, trails, histories, IsStored}
use Rattle.merge_runs.specs.Splits.{IsActOf, IsInPass, IsOther, IsInPlace, IsApart}
use Rattle.merge_runs.proofs.Order.{In, both}
use Rattle.merge_runs.proofs.Members.{in_from_contains, contains_from_in}
use Rattle.merge_runs.proofs.Trails.{all_in, in_all, owner_of, in_trails, trails_in}
use Rattle.merge_runs.proofs.Acts.{act_of_in}
use Rattle.merge_runs.proofs.Places.{stored_from_histories}
use Rattle.merge_runs.proofs.Known.{one_pass}

-- the steps of a pass rise
pub from_step : (first next : ℕ) (es : List Entry) (e : Entry) → steps_count first next es ≡ true → In e es → first ≤ e.step
from_step first next [] e h i = absurd i
from_step first next (x ∷ xs) e h (inl q) =
    let s : x.step ≡ first = eqb-true x.step first (both (eqb x.step first) (steps_count (first + 1) next xs) h).0 in
    let t : x.step ≡ e.step = ap (λ (y : Entry). y.step) q in
    omega arith
from_step first next (x ∷ xs) e h (inr i) =
    let r = from_step (first + 1) next xs e (both (eqb x.step first) (steps_count (first + 1) next xs) h).1 i in
    omega arith

one_step : (first next : ℕ) (es : List Entry) (e f : Entry) → steps_count first next es ≡ true → In e es → In f es → e.step ≡ f.step → e ≡ f
one_step first next [] e f h i j q = absurd i
one_step first next (x ∷ xs) e f h (inl a) (inl b) q = sym a ∙ b
one_step first next (x ∷ xs) e f h (inl a) (inr j) q =
    let w = both (eqb x.step first) (steps_count (first + 1) next xs) h in
    let s : x.step ≡ first = eqb-true x.step first w.0 in
    let t : x.step ≡ e.step = ap (λ (y : Entry). y.step) a in
    let r = from_step (first + 1) next xs f w.1 j in
    absurd (omega arith)
one_step first next (x ∷ xs) e f h (inr i) (inl b) q =
    let w = both (eqb x.step first) (steps_count (first + 1) next xs) h in
    let s : x.step ≡ first = eqb-true x.step first w.0 in
    let t : x.step ≡ f.step = ap (λ (y : Entry). y.step) b in
    let r = from_step (first + 1) next xs e w.1 i in
    absurd (omega arith)
one_step first next (x ∷ xs) e f h (inr i) (inr j) q =
    one_step (first + 1) next xs e f (both (eqb x.step first) (steps_count (first + 1) next xs) h).1 i j q

-- what the search in the pass of the actor shows
pub entry_found : (p : Pass) (i : ℕ) (ms : List Moment) (m : Moment) (e : Entry) → i < length ms → m ≡ get_or ms i m
    → ms ≡ moments_of p → IsActOf e m → Contains (entries_of p) e
entry_found p i ms m e l h q a =
    let at : Contains ms m = subst (λ x. Contains ms x) (sym h) (Contains-get_or ms i m l) in
    let act : Contains (moments_of p) m = subst (λ xs. Contains xs m) q at in
    contains_from_in (entries_of p) e (act_of_in (moments_of p) e m a (in_from_contains (moments_of p) m act))

pub none_in_pass : (ps : List Pass) (p : Pass) (actor step : ℕ) → HaveDifferentActors ps → Contains ps p → p.actor ≡ actor
    → All (λ e. e.step ≢ step) (entries_of p) → IsInPass ps actor step None
none_in_pass ps p actor step d c a all =
    in_all (λ q. q.actor ≡ actor → All (λ e. e.step ≢ step) (entries_of q)) ps
    (λ q i h. subst (λ x. All (λ e. e.step ≢ step) (entries_of x)) (one_pass ps p q d (in_from_contains ps p c) i (a ∙ sym h)) all)

-- no history has an entry that its place lacks
pub not_in_histories : (ks : List AnyKept) (e : Entry) (p : Option Entry) → p ≡ Some e → (¬ IsStored ks e)
    → All (λ x. Some x ≢ p) (histories ks)
not_in_histories ks e p h n =
    in_all (λ x. Some x ≢ p) (histories ks)
    (λ x i q. let s : Some x ≡ Some e = q ∙ h in let same : x ≡ e =
    cc in n (stored_from_histories ks e (subst (λ y. Contains (histories ks) y) same (contains_from_in (histories ks) x i))))

module _ (ks : List AnyKept) (ps : List Pass) (e : Entry) (d : HaveDifferentActors ps) where
  not_there : (ip : Option Entry) → (¬ Contains (trails ps) e) → IsInPass ps e.actor e.step ip → Some e ≢ ip
  not_there None n w q = absurd cc
  not_there (Some x) n w q =
      let same : x ≡ e = cc in
      n (trails_in ps w.0 e (in_from_contains ps w.0 w.1) (subst (λ y. In y (entries_of w.0)) same
      (in_from_contains (entries_of w.0) x w.3)))

  unknown_differs : (ip il : Option Entry) → Contains (histories ks) e → Some e ≢ ip → IsInPlace ks e.actor e.step ip il → ip ≢ il
  unknown_differs ip None c o w q = all_in (λ x. ¬ IsOther e.actor e.step ip x) (histories ks) w.0 e
      (in_from_contains (histories ks) e c) (refl, refl, o)
  unknown_differs ip (Some f) c o (inl w) q = w.3.2 (sym q)
  unknown_differs ip (Some f) c o (inr w) q = all_in (λ x. ¬ IsOther e.actor e.step ip x) (histories ks) w.0 e
      (in_from_contains (histories ks) e c) (refl, refl, o)

  is_there : (ip : Option Entry) → Contains (trails ps) e → IsInPass ps e.actor e.step ip → ip ≡ Some e
  is_there None c w =
      let t = in_trails ps e c in
      let a = all_in (λ p. p.actor ≡ e.actor → All (λ x. x.step ≢ e.step) (entries_of p)) ps w t.0 t.1 (sym (owner_of t.0 e t.2)) in
      absurd (all_in (λ x. x.step ≢ e.step) (entries_of t.0) a e t.2 refl)
  is_there (Some x) c w =
      let t = in_trails ps e c in
      let same : t.0 ≡ w.0 = one_pass ps t.0 w.0 d t.1 (in_from_contains ps w.0 w.1) (sym (owner_of t.0 e t.2) ∙ sym w.2) in
      let here : In e (entries_of w.0) = subst (λ p. In e (entries_of p)) same t.2 in
      ap (λ y. Some y) (one_step 0 w.0.steps (entries_of w.0) x e w.0.known.counted (in_from_contains (entries_of w.0) x w.3) here w.4)

  missing_differs : (ip il : Option Entry) → (¬ Contains (histories ks) e) → ip ≡ Some e → IsInPlace ks e.actor e.step ip il → ip ≢ il
  missing_differs ip None n h w q = let s : Some e ≡ None = sym h ∙ q in absurd cc
  missing_differs ip (Some f) n h (inl w) q = w.3.2 (sym q)
  missing_differs ip (Some f) n h (inr w) q =
      let s : Some f ≡ Some e = w.1 ∙ h in
      let same : f ≡ e = cc in
      n (subst (λ y. Contains (histories ks) y) same w.2)

  pub apart_differs : (ip il : Option Entry) → IsApart ks ps e → IsInPass ps e.actor e.step ip → IsInPlace ks e.actor e.step ip il → ip ≢ il
  apart_differs ip il (inl m) p w = missing_differs ip il m.1 (is_there ip m.0 p) w
  apart_differs ip il (inr u) p w = unknown_differs ip il u.0 (not_there ip u.1 p) w
