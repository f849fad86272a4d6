-- Lists in which nothing stands twice. Two of them that have the same elements are one list in two orders.
use Rattle.std.proofs.Common.{◌≡◌, ℕ, ◌≤◌, ◌⊎◌, inl, inr, List, [], ◌∷◌, ◌++◌, refl, sym, ◌∙◌, ap, subst, arith, cond, eqb}
use Rattle.std.specs.List.{flat_map}
use Rattle.std.specs.List.Sorted.{IsPermutation}
use Rattle.std.proofs.lemmas.List.Sorted.{IsPermutation-refl, IsPermutation-cons, IsPermutation-sym}
use Rattle.std.proofs.lemmas.List.Sorted.{IsPermutation-trans, IsPermutation-middle}
use Rattle.std.proofs.lemmas.List.Sums.{sum_by-cons}
use Rattle.merge_runs.proofs.Order.{In}
use Rattle.merge_runs.proofs.Members.{in_append, in_append_right, in_flat, count_of, two_in}

abbrev pub Distinct : {X : Type 0} → List X → Type 0
Distinct [] = Unit {0}
Distinct (x ∷ xs) = (In x xs → ⊥) × Distinct xs

module _ {X : Type 0} where
  in_split : (xs : List X) (z : X) → In z xs → (front : List X) × (back : List X) × (xs ≡ front ++ z ∷ back)
  in_split [] z i = absurd i
  in_split (x ∷ xs) z (inl e) = ([], xs, ap (λ w. w ∷ xs) e)
  in_split (x ∷ xs) z (inr i) = let r = in_split xs z i in (x ∷ r.0, r.1, ap (λ w. x ∷ w) r.2)

  into_middle : (us vs : List X) (x z : X) → In z (us ++ vs) → In z (us ++ x ∷ vs)
  into_middle [] vs x z i = inr i
  into_middle (u ∷ us) vs x z (inl e) = inl e
  into_middle (u ∷ us) vs x z (inr i) = inr (into_middle us vs x z i)

  out_of_middle : (us vs : List X) (x z : X) → In z (us ++ x ∷ vs) → (x ≡ z) ⊎ In z (us ++ vs)
  out_of_middle [] vs x z i = i
  out_of_middle (u ∷ us) vs x z (inl e) = inr (inl e)
  out_of_middle (u ∷ us) vs x z (inr i) = elim (out_of_middle us vs x z i) [ inl e ↦ inl e | inr j ↦ inr (inr j) ]

  at_middle : (us vs : List X) (x : X) → In x (us ++ x ∷ vs)
  at_middle us vs x = in_append_right us (x ∷ vs) x (inl refl)

  without_middle : (us vs : List X) (x : X) → Distinct (us ++ x ∷ vs) → Distinct (us ++ vs) × (In x (us ++ vs) → ⊥)
  without_middle [] vs x d = (d.1, d.0)
  without_middle (u ∷ us) vs x d =
      let r = without_middle us vs x d.1 in (
        (λ i. d.0 (into_middle us vs x u i), r.0),
        λ i. elim i [ inl e ↦ d.0 (subst (λ w. In w (us ++ x ∷ vs)) (sym e) (at_middle us vs x)) | inr j ↦ r.1 j ],
      )

  pub same_members : (xs ys : List X) → Distinct xs → Distinct ys → ((z : X) → In z xs → In z ys)
      → ((z : X) → In z ys → In z xs) → IsPermutation xs ys
  same_members [] [] d e f g = IsPermutation-refl []
  same_members [] (y ∷ ys) d e f g = absurd (g y (inl refl))
  same_members (x ∷ xs) ys d e f g =
      let s = in_split ys x (f x (inl refl)) in
      let us : List X = s.0 in
      let vs : List X = s.1 in
      let m = without_middle us vs x (subst (λ zs. Distinct zs) s.2 e) in
      let there : (z : X) → In z xs → In z (us ++ vs) = λ z i.
      elim (out_of_middle us vs x z (subst (λ zs. In z zs) s.2 (f z (inr i))))
      [ inl q ↦ absurd (d.0 (subst (λ w. In w xs) (sym q) i)) | inr j ↦ j ] in
      let back : (z : X) → In z (us ++ vs) → In z xs = λ z i.
      elim (g z (subst (λ zs. In z zs) (sym s.2) (into_middle us vs x z i)))
      [ inl q ↦ absurd (m.1 (subst (λ w. In w (us ++ vs)) (sym q) i)) | inr j ↦ j ] in
      let p : IsPermutation xs (us ++ vs) = same_members xs (us ++ vs) d.1 m.0 there back in
      let t : IsPermutation (x ∷ xs) (us ++ x ∷ vs) =
      IsPermutation-trans (x ∷ xs) (x ∷ (us ++ vs)) (us ++ x ∷ vs) (IsPermutation-cons x xs (us ++ vs) p)
      (IsPermutation-sym (us ++ x ∷ vs) (x ∷ (us ++ vs)) (IsPermutation-middle us x vs)) in
      subst (λ zs. IsPermutation (x ∷ xs) zs) (sym s.2) t

  distinct_append : (xs ys : List X) → Distinct xs → Distinct ys → ((z : X) → In z xs → In z ys → ⊥) → Distinct (xs ++ ys)
  distinct_append [] ys d e f = e
  distinct_append (x ∷ xs) ys d e f =
      (λ i. elim (in_append xs ys x i) [ inl a ↦ d.0 a | inr b ↦ f x (inl refl) b ], distinct_append xs ys d.1 e (λ z i j. f z (inr i) j))

-- lists of owners with different numbers, each of elements with their owner's number
module _ {P X : Type 0} (f : P → List X) (key : P → ℕ) (tag : X → ℕ) (owned : (p : P) (z : X) → In z (f p)
    → tag z ≡ key p) (each : (p : P) → Distinct (f p)) where
  pub distinct_flat : (ps : List P) → ((n : ℕ) → count_of key n ps ≤ 1) → Distinct (flat_map f ps)
  distinct_flat [] c = tt
  distinct_flat (p ∷ ps) c =
      distinct_append (f p) (flat_map f ps) (each p)
      (distinct_flat ps (λ n. let h = c n in omega (arith, sum_by-cons (λ (q : P). cond (eqb (key q) n) 1 0) p ps)))
      (λ z i j. let w = in_flat f ps z j in two_in key (key p) p ps w.0 refl w.1 (sym (owned w.0 z w.2) ∙ owned p z i) (c (key p)))
