-- the map of rising pairs, and what an edit of the pairs makes of it
use Rattle.std.proofs.Common.{◌≡◌, List, [], Bool, true, false, not, cond, Some, None, Option, length, refl, sym, ap, ◌∙◌, arith}
use Rattle.std.specs.declared.cmp.Ordering.{Ordering}
use Rattle.std.specs.Ordering.{eq_by_cmp}
use Rattle.std.specs.Cmp.{IsTotalOrder}
use Rattle.std.specs.FinMap.{FinMap, IsAntisymmetric, empty, get, entries, len, find, put, from_sorted, same_map}
use Rattle.std.specs.FinMap.{get-from_sorted, get-empty, entries-from_sorted, len-entries}
use Rattle.std.specs.FinMap.Entries.{is_sorted-put, is_sorted-where_key, find-put, find-where_key}
use Rattle.map_words.specs.Pairs.{IsRising, without, pairs_after, pairs_past}
use Rattle.map_words.specs.Maps.{set_at, entries_after, entries_past}
use Rattle.map_words.proofs.Maps.{get-set_at}

flip : {A : Type 0} (b : Bool) (x y : A) → cond (not b) x y ≡ cond b y x
flip true x y = refl
flip false x y = refl

module _ {K X : Type 0} (R : K → K → Ordering) where
  pub map_get : (rows : List (K × X)) (k : K) → IsRising R rows → get (from_sorted {R = R} rows) k ≡ find R k rows
  map_get rows k rising = get-from_sorted R rows k rising

  pub map_entries : (rows : List (K × X)) → IsRising R rows → entries (from_sorted {R = R} rows) ≡ rows
  map_entries rows rising = entries-from_sorted R rows rising

  pub map_len : (rows : List (K × X)) → IsRising R rows → len (from_sorted {R = R} rows) ≡ length rows
  map_len rows rising = len-entries (from_sorted {R = R} rows) ∙ ap length (map_entries rows rising)

  pub map_after : (rows : List (K × X)) (k : Option K) → IsRising R rows → entries_after (from_sorted {R = R} rows) k ≡ pairs_after R k rows
  map_after rows k rising = ap (pairs_after R k) (map_entries rows rising)

  pub map_past : (rows : List (K × X)) (p : K → Bool) → IsRising R rows → entries_past (from_sorted {R = R} rows) p ≡ pairs_past p rows
  map_past rows p rising = ap (pairs_past p) (map_entries rows rising)

module _ {K X : Type 0} (R : K → K → Ordering) (o : IsTotalOrder R) (same : IsAntisymmetric R) where
  pub map_new : ◌≡◌ {A = FinMap R X} (from_sorted []) empty
  map_new = same_map o same _ _ (λ q. get-from_sorted R (let none : List (K × X) = [] in none) q tt ∙ sym (get-empty R q))

  pub map_put : (rows : List (K × X)) (k : K) (v : X) → IsRising R rows → from_sorted {R = R} (put R k v rows)
      ≡ set_at (from_sorted rows) k (Some v)
  map_put rows k v rising = same_map o same _ _ (λ q.
      get-from_sorted R (put R k v rows) q (is_sorted-put R o k v rows rising) ∙ find-put R o q k v rows
      ∙ sym (get-set_at o (from_sorted rows) k (Some v) q ∙ ap (cond (eq_by_cmp R q k) (Some v)) (get-from_sorted R rows q rising)))

  pub map_take : (rows : List (K × X)) (k : K) → IsRising R rows → from_sorted {R = R} (without R k rows) ≡ set_at (from_sorted rows) k None
  map_take rows k rising = same_map o same _ _ (λ q.
      get-from_sorted R (without R k rows) q (is_sorted-where_key R (λ x. not (eq_by_cmp R k x)) rows rising)
      ∙ find-where_key R (λ x. not (eq_by_cmp R k x)) q (λ x t. ap (λ (z : K). not (eq_by_cmp R k z)) (sym (same q x t))) rows
      ∙ ap (λ b. cond (not b) (find R q rows) None) (flipped k q)
      ∙ flip (eq_by_cmp R q k) _ _
      ∙ sym (get-set_at o (from_sorted rows) k None q ∙ ap (cond (eq_by_cmp R q k) None) (get-from_sorted R rows q rising)))
    where
      flipped : (a b : K) → eq_by_cmp R a b ≡ eq_by_cmp R b a
      flipped a b = grind (arith, o.antisymm a b)
