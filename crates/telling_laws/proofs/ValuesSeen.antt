-- maps with their values seen through a function
use Rattle.std.proofs.Common.{◌≡◌, ◌&&◌, Bool, true, false, T, cond, List, [], ◌∷◌, length, map, Option, Some, refl, sym, ap, ◌∙◌, arith}
use Rattle.std.specs.Option.{option_map}
use Rattle.std.specs.declared.cmp.Ordering.{Ordering}
use Rattle.std.specs.Ordering.{eq_by_cmp}
use Rattle.std.specs.FinMap.{FinMap, find, is_sorted, entries, entries_sorted, entries-from_sorted, get, get-entries, same_map, len}
use Rattle.std.specs.FinMap.{len-entries}
use Rattle.std.specs.FinMap.Entries.{below_all}
use Rattle.std.proofs.lemmas.List.{length-map}
use Rattle.tect_ids.specs.declared.ids.DirId.{DirId}
use Rattle.tect_ids.specs.declared.ids.FileId.{FileId}
use Rattle.tect_ids.specs.declared.key.Key.{Key}
use Rattle.tect_ids.specs.Keys.{dir_cmp, file_cmp, key_cmp}
use Rattle.tect_ids.proofs.KeyTests.{dir_cmp_total, file_cmp_total, key_cmp_total, dir_antisymmetric, file_antisymmetric, key_antisymmetric}
use Rattle.map_words.specs.Maps.{set_at}
use Rattle.key_words.specs.Maps.{within}
use Rattle.key_words.proofs.Lookups.{maps}
use Rattle.telling_laws.specs.MapValues.{map_values, seen_by}

both_true : (a b c d : Bool) → (T a → T c) → (T b → T d) → T (a && b) → T (c && d)
both_true true b true d f g h = g h
both_true true b false d f g h = absurd (f tt)
both_true false b c d f g h = absurd h

module _ {K X Y : Type 0} (R : K → K → Ordering) (f : X → Y) where
  below_seen : (k : K) (es : List (K × X)) → T (below_all R k es) → T (below_all R k (map (seen_by f) es))
  below_seen k [] h = tt
  below_seen k (e ∷ es) h = both_true _ _ _ _ (λ t. t) (below_seen k es) h

  sorted_seen : (es : List (K × X)) → T (is_sorted R es) → T (is_sorted R (map (seen_by f) es))
  sorted_seen [] h = tt
  sorted_seen (e ∷ es) h = both_true _ _ _ _ (below_seen e.0 es) (sorted_seen es) h

  find_seen : (q : K) (es : List (K × X)) → find R q (map (seen_by f) es) ≡ option_map f (find R q es)
  find_seen q [] = refl
  find_seen q (e ∷ es) = elim (eq_by_cmp R q e.0) as
      (λ b. cond b (Some (f e.1)) (find R q (map (seen_by f) es)) ≡ option_map f (cond b (Some e.1) (find R q es)))
      [ true ↦ refl | false ↦ find_seen q es ]

-- its entries are those of the map, each value seen so
pub entries-map_values : {K X Y : Type 0} {R : K → K → Ordering} (f : X → Y) (m : FinMap R X)
    → entries (map_values f m) ≡ map (seen_by f) (entries m)
unfolding map_values
entries-map_values {R = R} f m = entries-from_sorted R _ (sorted_seen R f (entries m) (entries_sorted m))

-- what is found in it
pub get-map_values : {K X Y : Type 0} {R : K → K → Ordering} (f : X → Y) (m : FinMap R X) (q : K)
    → get (map_values f m) q ≡ option_map f (get m q)
get-map_values {R = R} f m q = get-entries (map_values f m) q ∙ ap (find R q) (entries-map_values f m) ∙ find_seen R f q (entries m) ∙ ap
    (option_map f) (sym (get-entries m q))

-- it has as many entries
pub len-map_values : {K X Y : Type 0} {R : K → K → Ordering} (f : X → Y) (m : FinMap R X) → len (map_values f m) ≡ len m
len-map_values f m = len-entries (map_values f m) ∙ ap length (entries-map_values f m) ∙ length-map (entries m) (seen_by f) ∙ sym
    (len-entries m)

-- what is put is seen put
pub dir_put : {X Y : Type 0} (f : X → Y) (m : FinMap dir_cmp X) (k : DirId) (w : Option X)
    → map_values f (set_at m k w) ≡ set_at (map_values f m) k (option_map f w)
dir_put f m k w = same_map dir_cmp_total dir_antisymmetric _ _ (λ q. grind (arith, maps, get-map_values))

pub file_put : {X Y : Type 0} (f : X → Y) (m : FinMap file_cmp X) (k : FileId) (w : Option X)
    → map_values f (set_at m k w) ≡ set_at (map_values f m) k (option_map f w)
file_put f m k w = same_map file_cmp_total file_antisymmetric _ _ (λ q. grind (arith, maps, get-map_values))

pub key_put : {X Y : Type 0} (f : X → Y) (m : FinMap key_cmp X) (k : Key) (w : Option X)
    → map_values f (set_at m k w) ≡ set_at (map_values f m) k (option_map f w)
key_put f m k w = same_map key_cmp_total key_antisymmetric _ _ (λ q. grind (arith, maps, get-map_values))

-- what looks alike is not seen
pub dir_alike : {X Y : Type 0} (f : X → Y) (m : FinMap dir_cmp X) (k : DirId) (w : Option X) → option_map f w ≡ option_map f (get m k)
    → map_values f (set_at m k w) ≡ map_values f m
dir_alike f m k w e = same_map dir_cmp_total dir_antisymmetric _ _ (λ q. grind (arith, maps, get-map_values))

pub file_alike : {X Y : Type 0} (f : X → Y) (m : FinMap file_cmp X) (k : FileId) (w : Option X) → option_map f w ≡ option_map f (get m k)
    → map_values f (set_at m k w) ≡ map_values f m
file_alike f m k w e = same_map file_cmp_total file_antisymmetric _ _ (λ q. grind (arith, maps, get-map_values))

-- the entries of one directory
pub within_seen : {X Y : Type 0} (f : X → Y) (m : FinMap key_cmp X) (d : DirId) → within (map_values f m) d ≡ map_values f (within m d)
within_seen f m d = same_map key_cmp_total key_antisymmetric _ _ (λ q. grind (arith, maps, get-map_values))

pub len_within_seen : {X Y : Type 0} (f : X → Y) (m : FinMap key_cmp X) (d : DirId) → len (within (map_values f m) d) ≡ len (within m d)
len_within_seen f m d = ap len (within_seen f m d) ∙ len-map_values f (within m d)
