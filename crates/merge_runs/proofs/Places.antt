-- Places that are numbered in order: each number is one of them.
use Rattle.std.proofs.Common.{◌≡◌, ℕ, zero, suc, ◌+◌, ◌<◌, ◌≤◌, Bool, true, false, cond, ◌⊎◌, inl, inr, List, [], ◌∷◌}
use Rattle.std.proofs.Common.{refl, sym, ap, subst, arith, eqb, length, get_or, map}
use Rattle.std.specs.List.{Contains}
use Rattle.std.proofs.lemmas.List.{get_or_past}
use Rattle.std.proofs.lemmas.List.Sums.{sum_by-cons}
use Rattle.std.proofs.lemmas.List.Elements.{Contains-get_or}
use borrow.Author.Tests.{eqb-true}
use Rattle.place_kit.specs.declared.any.AnyKept.{AnyKept}
use Rattle.entry_words.specs.declared.entry.Entry.{Entry}
use Rattle.place_kit.specs.Kept.{history_of, place_of}
use Rattle.merge_runs.specs.Merged.{StandInOrder, IsStored, histories}
use Rattle.merge_runs.specs.Walks.{list_at}
use Rattle.merge_runs.proofs.Order.{In}
use Rattle.merge_runs.proofs.Members.{count_of, in_from_contains, contains_from_in, in_flat, flat_in}
use Rattle.merge_runs.proofs.Restricts.{place_kept}

abbrev one_place : ℕ → AnyKept → ℕ
one_place p k = cond (eqb (place_of k) p) 1 0

place_or : (p : ℕ) (k : AnyKept) (b : Bool) → eqb (place_of k) p ≡ b → ((place_of k ≡ p) × (one_place p k ≡ 1)) ⊎ (one_place p k ≡ 0)
place_or p k true h = inl (eqb-true (place_of k) p h, rw h refl)
place_or p k false h = inr (rw h refl)

none_placed : (n p : ℕ) (ks : List AnyKept) → StandInOrder n ks → p < n → count_of place_of p ks ≡ 0
none_placed n p [] s l = refl
none_placed n p (k ∷ ks) s l =
    let i = none_placed (n + 1) p ks s.1 (omega arith) in
    let c = sum_by-cons (one_place p) k ks in
    elim (place_or p k (eqb (place_of k) p) refl) [ inl h ↦ absurd (let a = s.0 in let b = h.0 in omega arith) | inr z ↦ omega arith ]

pub one_placed : (n p : ℕ) (ks : List AnyKept) → StandInOrder n ks → count_of place_of p ks ≤ 1
one_placed n p [] s = omega arith
one_placed n p (k ∷ ks) s =
    let c = sum_by-cons (one_place p) k ks in
    let i = one_placed (n + 1) p ks s.1 in
    elim (place_or p k (eqb (place_of k) p) refl) [
      | inl h ↦ (let z = none_placed (n + 1) p ks s.1 (let a = s.0 in let b = h.0 in omega arith) in let one = h.1 in omega arith)
      | inr z ↦ omega arith
    ]

pub stands_at : (n : ℕ) (ks : List AnyKept) → StandInOrder n ks → (i : ℕ) (d : AnyKept) → i < length ks → place_of (get_or ks i d) ≡ n + i
stands_at n [] s i d l = absurd (omega arith)
stands_at n (k ∷ ks) s zero d l = let a = s.0 in omega arith
stands_at n (k ∷ ks) s (suc i) d l = let r = stands_at (n + 1) ks s.1 i d (omega arith) in omega arith

-- the place at the entry's number has the entry
pub stored_at : (ks : List AnyKept) (e : Entry) (k : AnyKept) → StandInOrder 0 ks → e.place.0 < length ks
    → k ≡ get_or ks e.place.0 k → Contains (history_of k) e → IsStored ks e
stored_at ks e k s l h c =
    let at = stands_at 0 ks s e.place.0 k l in
    let p : place_of (get_or ks e.place.0 k) ≡ e.place.0 = omega arith in
    (k, subst (λ x. Contains ks x) (sym h) (Contains-get_or ks e.place.0 k l), subst (λ x. place_of x ≡ e.place.0) (sym h) p, c)

-- where an entry is stored, its place is in range, and is the one at that number
pub place_stored : (ks : List AnyKept) (e : Entry) → StandInOrder 0 ks → (w : IsStored ks e) → (e.place.0 < length ks)
    × (get_or ks e.place.0 w.0 ≡ w.0)
place_stored ks e s w =
    let k : AnyKept = w.0 in
    let c : Contains ks k = w.1 in
    let at : place_of (get_or ks c.0 k) ≡ 0 + c.0 = stands_at 0 ks s c.0 k c.1 in
    let q : place_of (get_or ks c.0 k) ≡ place_of k = ap place_of c.2 in
    let p : place_of k ≡ e.place.0 = w.2 in
    let i : c.0 ≡ e.place.0 = omega arith in
    (subst (λ n. n < length ks) i c.1, subst (λ n. get_or ks n k ≡ k) i c.2)

-- an entry of the histories is stored, since each history is of its place
pub stored_from_histories : (ks : List AnyKept) (e : Entry) → Contains (histories ks) e → IsStored ks e
stored_from_histories ks e c =
    let w = in_flat history_of ks e (in_from_contains (histories ks) e c) in
    (w.0, contains_from_in ks w.0 w.1, sym (place_kept w.0 e w.2), contains_from_in (history_of w.0) e w.2)

pub histories_from_stored : (ks : List AnyKept) (e : Entry) → IsStored ks e → Contains (histories ks) e
histories_from_stored ks e w =
    contains_from_in (histories ks) e (flat_in history_of ks w.0 e (in_from_contains ks w.0 w.1) (in_from_contains (history_of w.0) e w.3))

-- what the list of a number has is in the history of that place
pub placed_at : (n : ℕ) (ks : List AnyKept) (i : ℕ) (e : Entry) → StandInOrder n ks → In e (list_at (map history_of ks) i)
    → (k : AnyKept) × In k ks × (place_of k ≡ n + i) × In e (history_of k)
placed_at n [] i e s j = absurd (subst (λ es. In e es) (get_or_past {X = List Entry} [] i [] (omega arith)) j)
placed_at n (k ∷ ks) zero e s j = (k, inl refl, (let a = s.0 in omega arith), j)
placed_at n (k ∷ ks) (suc i) e s j = let r = placed_at (n + 1) ks i e s.1 j in (r.0, inr r.1, (let q = r.2 in omega arith), r.3)

above : (n : ℕ) (ks : List AnyKept) (k : AnyKept) → StandInOrder n ks → In k ks → n ≤ place_of k
above n [] k s i = absurd i
above n (x ∷ ks) k s (inl q) = let a : place_of k ≡ n = subst (λ y. place_of y ≡ n) q s.0 in omega arith
above n (x ∷ ks) k s (inr i) = let r = above (n + 1) ks k s.1 i in omega arith

-- the list of a place's number is its history
pub list_of_place : (n : ℕ) (ks : List AnyKept) (k : AnyKept) (i : ℕ) → StandInOrder n ks → In k ks → place_of k ≡ n + i
    → list_at (map history_of ks) i ≡ history_of k
list_of_place n [] k i s j q = absurd j
list_of_place n (x ∷ ks) k zero s (inl h) q = ap history_of h
list_of_place n (x ∷ ks) k (suc i) s (inl h) q = let a : place_of k ≡ n = subst (λ y. place_of y ≡ n) h s.0 in absurd (omega arith)
list_of_place n (x ∷ ks) k zero s (inr j) q = let a = above (n + 1) ks k s.1 j in absurd (omega arith)
list_of_place n (x ∷ ks) k (suc i) s (inr j) q = list_of_place (n + 1) ks k i s.1 j (omega arith)

-- an entry of the histories is in the list of its place
pub histories_at : (ks : List AnyKept) (e : Entry) → StandInOrder 0 ks → In e (histories ks) → In e (list_at (map history_of ks) e.place.0)
histories_at ks e s i =
    let w = in_flat history_of ks e i in
    let p : e.place.0 ≡ place_of w.0 = place_kept w.0 e w.2 in
    let q : place_of w.0 ≡ 0 + e.place.0 = omega arith in
    subst (λ es. In e es) (sym (list_of_place 0 ks w.0 e.place.0 s w.1 q)) w.2

pub at_histories : (ks : List AnyKept) (n : ℕ) (e : Entry) → StandInOrder 0 ks → In e (list_at (map history_of ks) n)
    → In e (histories ks) × (e.place.0 ≡ n)
at_histories ks n e s i =
    let w = placed_at 0 ks n e s i in
    let p : e.place.0 ≡ place_of w.0 = place_kept w.0 e w.3 in
    let q : place_of w.0 ≡ 0 + n = w.2 in
    (flat_in history_of ks w.0 e w.1 w.3, omega arith)
