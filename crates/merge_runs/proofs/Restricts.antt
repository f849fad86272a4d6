-- The merged list restricts to each trail.
use Rattle.std.proofs.Common.{◌≡◌, ℕ, ◌≤◌, true, inl, inr, List, [], ◌∷◌, refl, sym, ◌∙◌, ap, subst, eqb}
use Rattle.std.specs.List.{flat_map, filter}
use Rattle.std.specs.List.Sorted.{IsPermutation}
use Rattle.std.proofs.lemmas.List.Sorted.{IsPermutation-sym}
use borrow.Author.Tests.{eq-eqb, eqb-true}
use Rattle.entry_words.specs.declared.entry.Entry.{Entry}
use Rattle.entry_words.specs.declared.entry.Moment.{Moment}
use Rattle.place_kit.specs.declared.any.AnyKept.{AnyKept}
use Rattle.passes.specs.declared.pass.Pass.{Pass}
use Rattle.entry_words.specs.Moments.{actor_of, all_of_actor, is_of}
use Rattle.place_kit.specs.Replay.{all_at}
use Rattle.tect_ids.specs.declared.ids.Place.{Place}
use Rattle.place_kit.specs.Kept.{history_of, label_of, place_of}
use Rattle.place_kit.proofs.AllKinds.{kept_placed}
use Rattle.merge_runs.specs.Merged.{IsInOrder, moments_of}
use Rattle.merge_runs.proofs.Order.{In, both, same_order, order_rises}
use Rattle.merge_runs.proofs.Members.{in_permutation, in_filter, filter_in, in_flat, flat_in, order_filter, count_of, one_only}
use Rattle.merge_runs.proofs.Strict.{actor_of_pass}

pub actor_in : (a : ℕ) (ms : List Moment) (z : Moment) → all_of_actor a ms ≡ true → In z ms → actor_of z ≡ a
actor_in a [] z h i = absurd i
actor_in a (m ∷ ms) z h (inl e) = ap actor_of (sym e) ∙ eqb-true (actor_of m) a (both (eqb (actor_of m) a) (all_of_actor a ms) h).0
actor_in a (m ∷ ms) z h (inr i) = actor_in a ms z (both (eqb (actor_of m) a) (all_of_actor a ms) h).1 i

place_in : (p : Place) (es : List Entry) (e : Entry) → all_at p es ≡ true → In e es → e.place.0 ≡ p.0
place_in p [] e h i = absurd i
place_in p (x ∷ es) e h (inl q) = ap (λ (w : Entry). w.place.0) (sym q)
    ∙ eqb-true x.place.0 p.0 (both (eqb x.place.0 p.0) (all_at p es) h).0
place_in p (x ∷ es) e h (inr i) = place_in p es e (both (eqb x.place.0 p.0) (all_at p es) h).1 i

pub restrict_trail : (ps : List Pass) (ms : List Moment) → IsPermutation (flat_map moments_of ps) ms → IsInOrder ms
    → ((a : ℕ) → count_of actor_of_pass a ps ≤ 1)
    → (p : Pass) → In p ps → filter (is_of p.actor) ms ≡ p.moments.items
restrict_trail ps ms perm o c p here =
    let back = IsPermutation-sym (flat_map moments_of ps) ms perm in
    same_order (filter (is_of p.actor) ms) p.moments.items (order_filter (is_of p.actor) ms o)
    (order_rises 0 p.clock p.moments.items p.known.rising)
    (λ z i.
    let f = in_filter (is_of p.actor) ms z i in
    let w = in_flat moments_of ps z (in_permutation ms (flat_map moments_of ps) back z f.0) in
    let a : actor_of z ≡ w.0.actor = actor_in w.0.actor w.0.moments.items z w.0.known.own w.2 in
    let b : actor_of z ≡ p.actor = eqb-true (actor_of z) p.actor f.1 in
    let same : w.0 ≡ p = one_only actor_of_pass p.actor ps w.0 p (c p.actor) w.1 here (sym a ∙ b) refl in
    subst (λ q. In z (moments_of q)) same w.2)
    (λ z i. filter_in (is_of p.actor) ms z (in_permutation (flat_map moments_of ps) ms perm z (flat_in moments_of ps p z here i))
    (eq-eqb (actor_of z) p.actor (actor_in p.actor p.moments.items z p.known.own i)))

pub place_kept : (k : AnyKept) (e : Entry) → In e (history_of k) → e.place.0 ≡ place_of k
place_kept k e i = place_in (label_of k).place (history_of k) e (kept_placed k) i
