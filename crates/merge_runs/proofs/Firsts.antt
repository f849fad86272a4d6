-- The first entry of a list, and of the lists of all places, of which something holds.
use Rattle.std.proofs.Common.{◌≡◌, ℕ, zero, suc, ◌<◌, List, [], ◌∷◌, ◌++◌, sym, ◌∙◌, ap, arith, length, get_or, append_assoc}
use Rattle.std.specs.List.{All, AllWithin, flat_map}
use Rattle.std.proofs.lemmas.List.Elements.{All-nil, All-cons, All-append}
use Rattle.entry_words.specs.declared.entry.Entry.{Entry}
use Rattle.merge_runs.specs.Splits.{IsFirst}

module _ (P : Entry → Type 0) where
  pub first_at : (es : List Entry) (i : ℕ) (e : Entry) → i < length es → e ≡ get_or es i e → P e
      → AllWithin (λ x. ¬ P x) es 0 i → IsFirst P es e
  first_at [] i e l h p a = absurd (omega arith)
  first_at (x ∷ xs) zero e l h p a = ([], xs, ap (λ w. w ∷ xs) (sym h), p, All-nil (λ x. ¬ P x))
  first_at (x ∷ xs) (suc i) e l h p a =
      let r = first_at xs i e (omega arith) h p (λ k d low high. a (suc k) d (omega arith) (omega arith)) in
      (x ∷ r.0, r.1, ap (λ w. x ∷ w) r.2, r.3, All-cons (λ x. ¬ P x) x r.0 (a 0 x (omega arith) (omega arith)) r.4)

  module _ {K : Type 0} (f : K → List Entry) where
    pub first_flat : (ks : List K) (i : ℕ) (k : K) (e : Entry) → i < length ks → k ≡ get_or ks i k → IsFirst P (f k) e
        → AllWithin (λ x. All (λ y. ¬ P y) (f x)) ks 0 i → IsFirst P (flat_map f ks) e
    first_flat [] i k e l h w a = absurd (omega arith)
    first_flat (x ∷ xs) zero k e l h w a =
        let q : f x ≡ w.0 ++ e ∷ w.1 = ap f (sym h) ∙ w.2 in
        (w.0, w.1 ++ flat_map f xs, ap (λ es. es ++ flat_map f xs) q ∙ append_assoc w.0 (e ∷ w.1) (flat_map f xs), w.3, w.4)
    first_flat (x ∷ xs) (suc i) k e l h w a =
        let r = first_flat xs i k e (omega arith) h w (λ j d low high. a (suc j) d (omega arith) (omega arith)) in (
          f x ++ r.0,
          r.1,
          ap (λ es. f x ++ es) r.2 ∙ sym (append_assoc (f x) r.0 (e ∷ r.1)),
          r.3,
          All-append (λ y. ¬ P y) (f x) r.0 (a 0 x (omega arith) (omega arith)) r.4,
        )

    pub none_flat : (ks : List K) → All (λ x. All (λ y. ¬ P y) (f x)) ks → All (λ y. ¬ P y) (flat_map f ks)
    none_flat [] a = All-nil (λ y. ¬ P y)
    none_flat (x ∷ xs) a = All-append (λ y. ¬ P y) (f x) (flat_map f xs) (a 0 x (omega arith))
        (none_flat xs (λ k d l. a (suc k) d (omega arith)))
