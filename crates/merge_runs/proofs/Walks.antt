-- A walk along moments in order, which takes each entry from the front of its place's list.
use Rattle.std.proofs.Common.{◌≡◌, ℕ, ◌<◌, inl, inr, List, [], ◌∷◌, ◌++◌, refl, sym, ◌∙◌, ap, subst, arith, map}
use Rattle.place_kit.specs.declared.any.AnyKept.{AnyKept}
use Rattle.entry_words.specs.declared.entry.Entry.{Entry}
use Rattle.entry_words.specs.declared.entry.Moment.{Moment}
use Rattle.entry_words.specs.declared.entry.Moment.TheVariants.{Act, Local}
use Rattle.program_forms.specs.declared.heard.Heard.{Heard}
use Rattle.entry_words.specs.Moments.{stamp_of, trail_of}
use Rattle.place_kit.specs.Kept.{history_of}
use Rattle.merge_runs.specs.Merged.{StandInOrder, IsInOrder, Before, BeforeAll, histories}
use Rattle.merge_runs.specs.Walks.{acted_at, list_at, IsAhead, IsLacking, BlocksMoment, IsApartFrom}
use Rattle.merge_runs.proofs.Order.{In, before_in, one_way, stamp_before}
use Rattle.merge_runs.proofs.Members.{in_append, in_append_right, in_from_contains, contains_from_in}
use Rattle.merge_runs.proofs.Acts.{act_in, entry_in, acted_in, in_acted}
use Rattle.merge_runs.proofs.Places.{histories_at, at_histories}
use Rattle.merge_runs.proofs.Rising.{Rises, front_earlier, not_in_rest, rises_at}

comes_before : (front back : List Moment) (m x : Moment) → IsInOrder (front ++ m ∷ back) → In x front → Before x m
comes_before [] back m x o i = absurd i
comes_before (y ∷ front) back m x o (inl q) =
    before_in x (front ++ m ∷ back) m (subst (λ z. BeforeAll z (front ++ m ∷ back)) q o.0)
    (in_append_right front (m ∷ back) m (inl refl))
comes_before (y ∷ front) back m x o (inr i) = comes_before front back m x o.1 i

comes_after : (front back : List Moment) (m x : Moment) → IsInOrder (front ++ m ∷ back) → In x back → Before m x
comes_after [] back m x o i = before_in m back x o.0 i
comes_after (y ∷ front) back m x o i = comes_after front back m x o.1 i

-- in moments in order an entry stands once
not_before : (front back : List Moment) (e : Entry) (heard : Heard) → IsInOrder (front ++ Act e heard ∷ back) → In e (trail_of front) → ⊥
not_before front back e heard o i =
    let a = act_in front e i in
    let v : Before (Act e a.0) (Act e heard) = comes_before front back (Act e heard) (Act e a.0) o a.1 in
    one_way (Act e a.0) (Act e heard) v v

-- up to here the walk has taken from each history what stands before its list
module _ (ks : List AnyKept) (front : List Moment) (lists : List (List Entry)) (stands : StandInOrder 0 ks)
    (taken : (n : ℕ) → acted_at n front ++ list_at lists n ≡ list_at (map history_of ks) n) where
  rises : (n : ℕ) (es : List Entry) → list_at lists n ≡ es → Rises (acted_at n front ++ es)
  rises n es h = subst (λ xs. Rises xs) (sym (taken n) ∙ ap (λ xs. acted_at n front ++ xs) h) (rises_at ks n)

  first_stored : (n : ℕ) (x : Entry) (rest : List Entry) → list_at lists n ≡ x ∷ rest → In x (histories ks) × (x.place.0 ≡ n)
  first_stored n x rest h =
      at_histories ks n x stands
      (subst (λ es. In x es) (taken n)
      (in_append_right (acted_at n front) (list_at lists n) x (subst (λ es. In x es) (sym h) (inl refl))))

  -- what is first in a list was not met
  not_met : (n : ℕ) (x : Entry) (rest : List Entry) → list_at lists n ≡ x ∷ rest → In x (trail_of front) → ⊥
  not_met n x rest h i =
      let p : x.place.0 ≡ n = (first_stored n x rest h).1 in
      let j : In x (acted_at n front) = subst (λ k. In x (acted_at k front)) p (in_acted front x i) in
      let r = rises n (x ∷ rest) h in
      let l : x.stamp < x.stamp = front_earlier 0 r.0 (acted_at n front) x rest x r.1 j in
      absurd (omega arith)

  -- what is left of a history when all moments were met is not among them
  pub left_apart : (n : ℕ) (x : Entry) (rest : List Entry) → list_at lists n ≡ x ∷ rest → IsApartFrom ks front x
  left_apart n x rest h =
      inr
      (contains_from_in (histories ks) x (first_stored n x rest h).0, λ c. not_met n x rest h (in_from_contains (trail_of front) x c))

  module _ (back : List Moment) (e : Entry) (heard : Heard) (order : IsInOrder (front ++ Act e heard ∷ back)) where
    not_stored : IsLacking (list_at lists e.place.0) e → In e (histories ks) → ⊥
    not_stored l c =
        let here : In e (acted_at e.place.0 front ++ list_at lists e.place.0) =
        subst (λ es. In e es) (sym (taken e.place.0)) (histories_at ks e stands c) in
        let r = rises e.place.0 (list_at lists e.place.0) refl in
        elim (in_append (acted_at e.place.0 front) (list_at lists e.place.0) e here) [
          | inl i ↦ not_before front back e heard order (acted_in e.place.0 front e i).0
          | inr i ↦ not_in_rest r.0 (acted_at e.place.0 front) (list_at lists e.place.0) e r.1 l i
        ]

    not_among : (x : Entry) → IsAhead (list_at lists e.place.0) e x → In x (trail_of (front ++ Act e heard ∷ back)) → ⊥
    not_among x a i =
        let w = act_in (front ++ Act e heard ∷ back) x i in
        let s : x.stamp < e.stamp = a.2 in
        elim (in_append front (Act e heard ∷ back) (Act x w.0) w.1) [
          | inl f ↦ not_met e.place.0 x a.0 a.1 (entry_in front x w.0 f)
          | inr (inl q) ↦ (let t : e.stamp ≡ x.stamp = ap stamp_of q in absurd (omega arith))
          | inr
              (inr b) ↦ one_way (Act e heard) (Act x w.0) (comes_after front back (Act e heard) (Act x w.0) order b)
              (stamp_before (Act x w.0) (Act e heard) s)
        ]

  -- where the list does not go on with the moment's entry, what it names is not in both
  pub blocked_apart : (back : List Moment) (m : Moment) (x : Entry) → IsInOrder (front ++ m ∷ back) → BlocksMoment lists m x
      → IsApartFrom ks (front ++ m ∷ back) x
  blocked_apart back (Act e heard) x o (inl a) =
      inr (
        contains_from_in (histories ks) x (first_stored e.place.0 x a.0 a.1).0,
        λ c. not_among back e heard o x a (in_from_contains (trail_of (front ++ Act e heard ∷ back)) x c),
      )
  blocked_apart back (Act e heard) x o (inr l) =
      subst (λ y. IsApartFrom ks (front ++ Act e heard ∷ back) y) (sym l.0)
      (inl (
        contains_from_in (trail_of (front ++ Act e heard ∷ back)) e
            (entry_in (front ++ Act e heard ∷ back) e heard (in_append_right front (Act e heard ∷ back) (Act e heard) (inl refl))),
        λ c. not_stored back e heard o l.1 (in_from_contains (histories ks) e c),
      ))
  blocked_apart back (Local s a n) x o b = absurd b
