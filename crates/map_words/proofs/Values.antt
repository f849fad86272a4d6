-- other values at the same keys
use Rattle.std.proofs.Common.{◌≡◌, List, [], ◌∷◌, T, option_map, refl, sym, ap, ◌∙◌, arith}
use Rattle.std.specs.declared.cmp.Ordering.{Ordering}
use Rattle.std.specs.FinMap.{FinMap, get, len, entries, entries_sorted, find, from_sorted, get-from_sorted, get-entries, len-entries}
use Rattle.std.specs.FinMap.Entries.{below_all}
use Rattle.std.proofs.lemmas.List.{length-map}
use Rattle.map_words.specs.Pairs.{IsRising, with_values}
use Rattle.map_words.proofs.Made.{map_len}

module _ {K V W : Type 0} (R : K → K → Ordering) (f : V → W) where
  below-with_values : (x : K) (rows : List (K × V)) → T (below_all R x rows) → T (below_all R x (with_values f rows))
  below-with_values x [] below = tt
  below-with_values x (e ∷ rows) below = grind (arith, below-with_values x rows)

  pub rising-with_values : (rows : List (K × V)) → IsRising R rows → IsRising R (with_values f rows)
  rising-with_values [] rising = tt
  rising-with_values (e ∷ rows) rising = grind (arith, below-with_values e.0 rows, rising-with_values rows)

  find-with_values : (k : K) (rows : List (K × V)) → find R k (with_values f rows) ≡ option_map f (find R k rows)
  find-with_values k [] = refl
  find-with_values k (e ∷ rows) = grind (arith, find-with_values k rows)

  module _ (m : FinMap R V) where
    rises : IsRising R (with_values f (entries m))
    rises = rising-with_values (entries m) (entries_sorted m)

    pub get-with_values : (k : K) → get (from_sorted {R = R} (with_values f (entries m))) k ≡ option_map f (get m k)
    get-with_values k =
        get-from_sorted R (with_values f (entries m)) k rises ∙ find-with_values k (entries m) ∙ ap (option_map f) (sym (get-entries m k))

    pub len-with_values : len (from_sorted {R = R} (with_values f (entries m))) ≡ len m
    len-with_values =
        map_len R (with_values f (entries m)) rises ∙ length-map (entries m) (λ pair. (pair.0, f pair.1)) ∙ sym (len-entries m)
