-- what is found in the rows of several maps, where each key has one home among them
use Rattle.std.proofs.Common.{◌≡◌, ◌≢◌, ℕ, zero, suc, ◌<◌, Bool, true, false, cond, Option, Some, None, List, [], ◌∷◌, ◌++◌, length}
use Rattle.std.proofs.Common.{get_or, refl, sym, ap, ◌∙◌, arith}
use Rattle.std.specs.List.{flat_map}
use Rattle.std.specs.Option.{option_or}
use Rattle.std.specs.declared.cmp.Ordering.{Ordering}
use Rattle.std.specs.Ordering.{eq_by_cmp}
use Rattle.std.specs.FinMap.{FinMap, get, entries, find, get-entries}

or_none : {X : Type 0} (o : Option X) → option_or o None ≡ o
or_none None = refl
or_none (Some x) = refl

cond_or : {X : Type 0} (b : Bool) (x y z : Option X) → z ≡ option_or x y → (v : X) → cond b (Some v) z ≡ option_or (cond b (Some v) x) y
cond_or true x y z e v = refl
cond_or false x y z e v = e

module _ {K X : Type 0} (R : K → K → Ordering) where
  find_or : (q : K) (xs ys : List (K × X)) → find R q (xs ++ ys) ≡ option_or (find R q xs) (find R q ys)
  find_or q [] ys = refl
  find_or q (x ∷ xs) ys = cond_or (eq_by_cmp R q x.0) _ _ _ (find_or q xs ys) x.1

module _ {S K X : Type 0} {R : K → K → Ordering} (rows : S → FinMap R X) (q : K) (d : S) where
  abbrev pub all_rows : List S → List (K × X)
  all_rows ss = flat_map (λ s. entries (rows s)) ss

  -- the first map and the others
  first_or : (s : S) (ss : List S) → find R q (all_rows (s ∷ ss)) ≡ option_or (get (rows s) q) (find R q (all_rows ss))
  first_or s ss = find_or R q (entries (rows s)) (all_rows ss) ∙ ap (λ (o : Option X). option_or o (find R q (all_rows ss)))
      (sym (get-entries (rows s) q))

  pub found_nowhere : (ss : List S) → ((i : ℕ) → i < length ss → get (rows (get_or ss i d)) q ≡ None) → find R q (all_rows ss) ≡ None
  found_nowhere [] none = refl
  found_nowhere (s ∷ ss) none =
      first_or s ss
      ∙ ap (λ (o : Option X). option_or o (find R q (all_rows ss))) (none 0 (omega arith))
      ∙ found_nowhere ss (λ i lt. none (suc i) (omega (arith, lt)))

  -- what the map at its home has, where the others have nothing
  pub found_at_home : (ss : List S) (home : ℕ) → home < length ss
      → ((i : ℕ) → i < length ss → i ≢ home → get (rows (get_or ss i d)) q ≡ None)
      → find R q (all_rows ss) ≡ get (rows (get_or ss home d)) q
  found_at_home [] home lt others = absurd (omega (arith, lt))
  found_at_home (s ∷ ss) zero lt others =
      first_or s ss
      ∙ ap (option_or (get (rows s) q)) (found_nowhere ss (λ i lt'. others (suc i) (omega (arith, lt')) (λ e. omega (arith, e))))
      ∙ or_none (get (rows s) q)
  found_at_home (s ∷ ss) (suc home) lt others =
      first_or s ss
      ∙ ap (λ (o : Option X). option_or o (find R q (all_rows ss))) (others 0 (omega arith) (λ e. omega (arith, e)))
      ∙ found_at_home ss home (omega (arith, lt)) (λ i lt' apart. others (suc i) (omega (arith, lt')) (λ e. apart (omega (arith, e))))
