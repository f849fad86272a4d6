-- The dump of a store is that of its layers; and what the shards in a row show of a layer is what the store shows that they are together.
use Rattle.std.proofs.Common.{◌≡◌, ℕ, ◌+◌, ◌<◌, Bool, true, false, T, cond, if◌then◌else◌, Option, Some, None, is_some}
use Rattle.std.proofs.Common.{List, [], ◌∷◌, ◌++◌, map, length, get_or, append-nil, refl, sym, ap, ◌∙◌, subst, arith}
use Rattle.std.specs.Prelude.{option_map}
use Rattle.std.specs.List.{flat_map, AllByRecursion}
use Rattle.std.specs.List.Sorted.{IsPermutation, IsSorted}
use Rattle.std.proofs.lemmas.List.{length-map, map-append}
use Rattle.std.proofs.lemmas.List.Concat.{flat_map_single}
use Rattle.std.proofs.lemmas.List.Folds.{flat_map-map}
use Rattle.std.proofs.lemmas.List.Sorted.{IsPermutation-map}
use Rattle.std.proofs.Math.ListN.{get_or-map}
use Rattle.std.specs.declared.cmp.Ordering.{Ordering}
use Rattle.std.specs.declared.cmp.Ordering.TheVariants.{Less, Equal, Greater}
use Rattle.std.specs.Ordering.{is_lt, is_eq, nat_cmp, ordering_reverse}
use Rattle.std.specs.Cmp.{IsTotalOrder, tied_itself}
use Rattle.std.specs.FinMap.{FinMap, IsAntisymmetric, get, contains_key, keys, entries, entries_sorted, find, from_entries, is_sorted}
use Rattle.std.specs.FinMap.{get-entries, get-from_entries, same_map}
use Rattle.std.specs.FinMap.Entries.{below_all}
use Rattle.tect_ids.specs.declared.ids.BlkId.{BlkId}
use Rattle.tect_ids.specs.declared.ids.Counts.{Counts}
use Rattle.tect_ids.specs.declared.ids.DirId.{DirId}
use Rattle.tect_ids.specs.declared.ids.DiskId.{DiskId}
use Rattle.tect_ids.specs.declared.ids.FileId.{FileId}
use Rattle.tect_ids.specs.declared.ids.Layer.{Layer}
use Rattle.tect_ids.specs.declared.ids.Layer.TheVariants as layers
use Rattle.tect_ids.specs.declared.ids.Place.{Place}
use Rattle.tect_ids.specs.Places.{place_number}
use Rattle.tect_ids.specs.Keys.{blk_cmp, dir_cmp, disk_cmp, file_cmp}
use Rattle.tect_ids.proofs.KeyTests.{num_eq_cases, blk_cmp_total, dir_cmp_total, disk_cmp_total, file_cmp_total}
use Rattle.tect_ids.proofs.KeyTests.{blk_antisymmetric, dir_antisymmetric, disk_antisymmetric, file_antisymmetric}
use Rattle.tect_ids.proofs.Layers.{has_place}
use Rattle.block_maps.specs.Chunks.{on_disk}
use Rattle.key_words.specs.Maps.{within}
use Rattle.store_rules.specs.declared.blocks.Block.{Block}
use Rattle.store_rules.specs.declared.files.File.{File}
use Rattle.store_rules.specs.declared.names.Directory.{Directory}
use Rattle.store_rules.specs.Alone.{no_store}
use Rattle.store_rules.specs.Disks.{Chunks}
use Rattle.store_rules.specs.Names.{Names}
use Rattle.store_rules.specs.Dumps.{block_line, chunk_line, dir_lines, file_line}
use Rattle.store_rules.specs.Dumps.{blocks_dump, chunks_dump, files_dump, names_dump, store_dump}
use Rattle.store_rules.specs.Store.{Store}
use Rattle.store_shards.specs.Rows.{AreShards, blocks_together, chunks_together, files_together, names_together, together}
use Rattle.store_shards.specs.Shards.{blk_place, dir_place, disk_place, file_place, place_eq}
use Rattle.store_shards.proofs.Found.{found_at_home}
use Rattle.store_shards.proofs.Names.{same_within}
use Rattle.store_shards.proofs.Rows.{chosen, place_own}
use Rattle.name_shard.specs.DirDumps.{lines_of_dir, dir_dump}
use Rattle.layers.specs.Dumps.{ids_of, layer_dump, lines_of, maybe_line}
use Rattle.disk_store.specs.Dumps.{disks_of, used_disks}
use Rattle.layers.specs.declared.machine.TheConstants.{LAYERS}
use Rattle.disk_store.proofs.ByDisk.{disks_shown, same_used}
use Rattle.layers.proofs.ByDisk.{same_there, used_here}
use Rattle.layers.proofs.Sorted.{both, sorted_keys, distinct_keys, none_some}

-- ---- the entries of a map, one after another

not_tied : (r s : Ordering) → s ≡ ordering_reverse r → T (is_lt r) → is_eq s ≡ false
not_tied Less s e p = ap is_eq e
not_tied Equal s e p = absurd p
not_tied Greater s e p = absurd p

module _ {K X : Type 0} {R : K → K → Ordering} (o : IsTotalOrder R) where
  found_behind : (first : K × X) (es fs : List (K × X)) → T (below_all R first.0 fs) → AllByRecursion (λ e. find R e.0 es ≡ Some e.1) fs
      → AllByRecursion (λ e. find R e.0 (first ∷ es) ≡ Some e.1) fs
  found_behind first es [] below all = tt
  found_behind first es (f ∷ fs) below (here, rest) =
      let parts = both _ _ below in (
        ap (λ (b : Bool). cond b (Some first.1) (find R f.0 es)) (not_tied (R first.0 f.0) (R f.0 first.0) (o.antisymm f.0 first.0) parts.0)
            ∙ here,
        found_behind first es fs parts.1 rest,
      )

  -- each entry is found by its key
  found_each : (es : List (K × X)) → T (is_sorted R es) → AllByRecursion (λ e. find R e.0 es ≡ Some e.1) es
  found_each [] sorted = tt
  found_each (e ∷ es) sorted =
      let parts = both _ _ sorted in (
        ap (λ (r : Ordering). cond (is_eq r) (Some e.1) (find R e.0 es)) (tied_itself o e.0),
        found_behind e es es parts.0
            (found_each es parts.1),
      )

  by_keys : {A : Type 0} (look : K → Option X) (g : K → Option X → List A) (h : K × X → List A)
      → ((k : K) (x : X) → g k (Some x) ≡ h (k, x)) → (es : List (K × X)) → AllByRecursion (λ e. look e.0 ≡ Some e.1) es
      → flat_map (λ k. g k (look k)) (map (λ e. e.0) es) ≡ flat_map h es
  by_keys look g h is [] all = refl
  by_keys {A = A} look g h is (e ∷ es) (first, rest) =
      ap (λ (xs : List A). xs ++ flat_map (λ k. g k (look k)) (map (λ d. d.0) es)) (ap (g e.0) first ∙ is e.0 e.1) ∙ ap
      (λ (xs : List A). h e ++ xs) (by_keys look g h is es rest)

  -- to go over the keys and look each up is to go over the entries
  pub over_keys : {A : Type 0} (m : FinMap R X) (g : K → Option X → List A) (h : K × X → List A)
      → ((k : K) (x : X) → g k (Some x) ≡ h (k, x)) → flat_map (λ k. g k (get m k)) (keys m) ≡ flat_map h (entries m)
  over_keys m g h is = by_keys (get m) g h is (entries m)
      (subst (λ (f : K → Option X). AllByRecursion (λ e. f e.0 ≡ Some e.1) (entries m)) (λ i k. sym (get-entries m k) i)
      (found_each (entries m) (entries_sorted m)))

-- ---- the layers of one store

names_shown : (s : Store) → layer_dump s layers.Names ≡ names_dump s.names
names_shown s =
    flat_map-map (lines_of layers.Names s) (λ (d : DirId). d.0) (keys s.names.dirs)
    ∙ over_keys dir_cmp_total s.names.dirs (lines_of_dir s.names) (dir_lines s.names) (λ d x. refl)

files_shown : (s : Store) → layer_dump s layers.Files ≡ files_dump s.files
files_shown s =
    flat_map-map (lines_of layers.Files s) (λ (f : FileId). f.0) (keys s.files)
    ∙ over_keys file_cmp_total s.files (λ (f : FileId) (x : Option File). maybe_line (option_map (λ row. file_line (f, row)) x))
    (λ e. file_line e ∷ []) (λ f x. refl)
    ∙ flat_map_single file_line (entries s.files)

blocks_shown : (s : Store) → layer_dump s layers.Blocks ≡ blocks_dump s.blocks
blocks_shown s =
    flat_map-map (lines_of layers.Blocks s) (λ (b : BlkId). b.0) (keys s.blocks)
    ∙ over_keys blk_cmp_total s.blocks (λ (b : BlkId) (x : Option Block). maybe_line (option_map (λ row. block_line (b, row)) x))
    (λ e. block_line e ∷ []) (λ b x. refl)
    ∙ flat_map_single block_line (entries s.blocks)

chunks_shown : (s : Store) → layer_dump s layers.Disks ≡ chunks_dump s.chunks
chunks_shown s = flat_map-map (lines_of layers.Disks s) (λ (d : DiskId). d.0) (disks_of s.chunks) ∙ disks_shown s.chunks

-- a dump of the store shows its layers in their order
pub all_layers : (s : Store) → flat_map (layer_dump s) LAYERS ≡ store_dump s
all_layers s =
    let last = append-nil (layer_dump s layers.Disks) ∙ chunks_shown s in
    λ i. names_shown s i ++ (files_shown s i ++ (blocks_shown s i ++ last i))

-- ---- what is read in the one shard of an id

is_chosen : {X : Type 0} (b : Bool) (x : Option X) → is_some (if b then x else None) ≡ true → b ≡ true
is_chosen true x h = refl
is_chosen false x h = absurd (grind (arith, h))

zero_plus : (i : ℕ) → 0 + i ≡ i
zero_plus i = omega arith

same_place : (p q : Place) → place_eq p q ≡ true → p.0 ≡ q.0
same_place p q e = grind (arith, num_eq_cases p.0 q.0)

own_dump : (s w : Names) (d : DirId) → get s.dirs d ≡ get w.dirs d → within s.entries d ≡ within w.entries d → dir_dump s d ≡ dir_dump w d
own_dump s w d dir inner = ap (lines_of_dir s d) dir ∙ by_dir (get w.dirs d)
  where
    by_dir : (x : Option Directory) → lines_of_dir s d x ≡ lines_of_dir w d x
    by_dir None = refl
    by_dir (Some x) = rw inner

-- ---- the ids of all shards, sorted

module _ {K X : Type 0} {R : K → K → Ordering} (o : IsTotalOrder R) (same : IsAntisymmetric R) (number : K → ℕ) (make : ℕ → K)
    (back : (k : K) → make (number k) ≡ k) (forth : (n : ℕ) → number (make n) ≡ n)
    (order : (m n : ℕ) → is_lt (R (make m) (make n)) ≡ is_lt (nat_cmp m n)) (rows : Store → FinMap R X) (home : K → ℕ) where
  made : (ks : List K) → map make (map number ks) ≡ ks
  made [] = refl
  made (k ∷ ks) = let first = back k in let rest = made ks in λ i. first i ∷ rest i

  numbered : (ns : List ℕ) → ns ≡ map number (map make ns)
  numbered [] = refl
  numbered (n ∷ ns) = let first = sym (forth n) in let rest = numbered ns in λ i. first i ∷ rest i

  keys_of_all : (row : List Store)
      → map make (flat_map (λ s. map number (keys (rows s))) row) ≡ map (λ e. e.0) (flat_map (λ s. entries (rows s)) row)
  keys_of_all [] = refl
  keys_of_all (s ∷ row) =
      map-append make (map number (keys (rows s))) (flat_map (λ s. map number (keys (rows s))) row)
      ∙ ap (λ (ks : List K). ks ++ map make (flat_map (λ s. map number (keys (rows s))) row)) (made (keys (rows s)))
      ∙ ap (λ (ks : List K). keys (rows s) ++ ks) (keys_of_all row)
      ∙ sym (map-append (λ (e : K × X). e.0) (entries (rows s)) (flat_map (λ s. entries (rows s)) row))

  made_sorted : (xs : List ℕ) → IsSorted nat_cmp xs → IsSorted R (map make xs)
  made_sorted xs sorted = λ k d low high.
      let n : ℕ = number d in
      let at : (j : ℕ) → get_or (map make xs) j d ≡ make (get_or xs j n) =
      λ j. ap (λ (x : K). get_or (map make xs) j x) (sym (back d)) ∙ get_or-map make xs j n in
      let next = at (k + 1) in
      let here = at k in
      let lt : is_lt (R (get_or (map make xs) (k + 1) d) (get_or (map make xs) k d)) ≡
      is_lt (R (make (get_or xs (k + 1) n)) (make (get_or xs k n))) = λ i. is_lt (R (next i) (here i)) in
      lt ∙ order (get_or xs (k + 1) n) (get_or xs k n) ∙ sorted k n low (omega (arith, high, length-map xs make))

  ids_sorted : (row : List Store)
      → ((i : ℕ) (q : K) → i < length row → contains_key (rows (get_or row i no_store)) q ≡ true → home q ≡ i)
      → (collected xs : List ℕ) → collected ≡ flat_map (λ s. map number (keys (rows s))) row → IsPermutation collected xs
      → IsSorted nat_cmp xs → xs ≡ map number (keys (from_entries {R = R} (flat_map (λ s. entries (rows s)) row)))
  ids_sorted row at collected xs all moves sorted =
      numbered xs
      ∙ ap (map number)
      (sorted_keys o same (flat_map (λ s. entries (rows s)) row) (map make xs) (make 0)
      (distinct_keys o rows home no_store row 0 (λ i q lt has. at i q lt has ∙ sym (zero_plus i)))
      (subst (λ (ks : List K). IsPermutation ks (map make xs)) (ap (map make) all ∙ keys_of_all row)
      (IsPermutation-map make collected xs moves))
      (made_sorted xs sorted))

dir_order : (m n : ℕ) → is_lt (dir_cmp (record { 0 = m }) (record { 0 = n })) ≡ is_lt (nat_cmp m n)
dir_order m n = grind arith

file_order : (m n : ℕ) → is_lt (file_cmp (record { 0 = m }) (record { 0 = n })) ≡ is_lt (nat_cmp m n)
file_order m n = grind arith

blk_order : (m n : ℕ) → is_lt (blk_cmp (record { 0 = m }) (record { 0 = n })) ≡ is_lt (nat_cmp m n)
blk_order m n = grind arith

disk_order : (m n : ℕ) → is_lt (disk_cmp (record { 0 = m }) (record { 0 = n })) ≡ is_lt (nat_cmp m n)
disk_order m n = grind arith

module _ (c : Counts) (row : List Store) (is : AreShards c row) where
  dir_home : (i : ℕ) (d : DirId) → contains_key (get_or row i no_store).names.dirs d ≡ true → (dir_place c d).0 ≡ i
  dir_home i d has = sym (same_place (record { 0 = i }) (dir_place c d)
      (is_chosen _ _ (ap is_some (sym ((is.whole.names (record { 0 = i })).dirs d)) ∙ has)))

  file_home : (i : ℕ) (f : FileId) → contains_key (get_or row i no_store).files f ≡ true → (file_place c f).0 ≡ i
  file_home i f has = sym (same_place (record { 0 = i }) (file_place c f)
      (is_chosen _ _ (ap is_some (sym (is.whole.files (record { 0 = i }) f)) ∙ has)))

  blk_home : (i : ℕ) (b : BlkId) → contains_key (get_or row i no_store).blocks b ≡ true → (blk_place c b).0 ≡ i
  blk_home i b has = sym (same_place (record { 0 = i }) (blk_place c b)
      (is_chosen _ _ (ap is_some (sym (is.whole.blocks (record { 0 = i }) b)) ∙ has)))

  disk_home : (i : ℕ) (d : DiskId) → contains_key (used_disks (get_or row i no_store).chunks) d ≡ true → (disk_place c d).0 ≡ i
  disk_home i d has = sym (same_place (record { 0 = i }) (disk_place c d)
      (used_here (λ o. place_eq (record { 0 = i }) (disk_place c o)) _ _ (is.whole.chunks (record { 0 = i })) d has))

  -- the disk of an id has its chunks in the shard of its place
  at_home : (d : DiskId) → on_disk (get_or row (disk_place c d).0 no_store).chunks d ≡ on_disk (chunks_together row) d
  at_home d =
      same_there (λ o. place_eq (disk_place c d) (disk_place c o)) _ _ (is.whole.chunks (disk_place c d)) d (place_own (disk_place c d))

  all_dirs : (collected xs : List ℕ) → collected ≡ flat_map (ids_of layers.Names) row → IsPermutation collected xs → IsSorted nat_cmp xs
      → xs ≡ map (λ d. d.0) (keys (names_together row).dirs)
  unfolding names_together
  all_dirs = ids_sorted dir_cmp_total dir_antisymmetric (λ d. d.0) (λ n. record { 0 = n }) (λ d. refl) (λ n. refl) dir_order
      (λ s. s.names.dirs) (λ d. (dir_place c d).0) row (λ i d lt has. dir_home i d has)

  all_files : (collected xs : List ℕ) → collected ≡ flat_map (ids_of layers.Files) row → IsPermutation collected xs → IsSorted nat_cmp xs
      → xs ≡ map (λ f. f.0) (keys (files_together row))
  unfolding files_together
  all_files = ids_sorted file_cmp_total file_antisymmetric (λ f. f.0) (λ n. record { 0 = n }) (λ f. refl) (λ n. refl) file_order
      (λ s. s.files) (λ f. (file_place c f).0) row (λ i f lt has. file_home i f has)

  all_blocks : (collected xs : List ℕ) → collected ≡ flat_map (ids_of layers.Blocks) row → IsPermutation collected xs → IsSorted nat_cmp xs
      → xs ≡ map (λ b. b.0) (keys (blocks_together row))
  unfolding blocks_together
  all_blocks = ids_sorted blk_cmp_total blk_antisymmetric (λ b. b.0) (λ n. record { 0 = n }) (λ b. refl) (λ n. refl) blk_order
      (λ s. s.blocks) (λ b. (blk_place c b).0) row (λ i b lt has. blk_home i b has)

  -- the disks that have chunks in any shard are those that have some in the store
  used_together : from_entries {R = disk_cmp} (flat_map (λ s. entries (used_disks s.chunks)) row) ≡ used_disks (chunks_together row)
  used_together = same_map disk_cmp_total disk_antisymmetric _ _ (λ d.
      get-from_entries disk_cmp_total _ d
      ∙ found_at_home (λ (s : Store). used_disks s.chunks) d no_store row (disk_place c d).0
      (subst (λ n. (disk_place c d).0 < n) (sym is.number) (has_place c layers.Disks d.0 is.places))
      (λ i lt apart. none_some _ (λ has. apart (sym (disk_home i d has))))
      ∙ same_used _ (chunks_together row) d (at_home d))

  all_disks : (collected xs : List ℕ) → collected ≡ flat_map (ids_of layers.Disks) row → IsPermutation collected xs → IsSorted nat_cmp xs
      → xs ≡ map (λ d. d.0) (disks_of (chunks_together row))
  all_disks collected xs all moves sorted =
      ids_sorted disk_cmp_total disk_antisymmetric (λ d. d.0) (λ n. record { 0 = n }) (λ d. refl) (λ n. refl) disk_order
      (λ s. used_disks s.chunks) (λ d. (disk_place c d).0) row (λ i d lt has. disk_home i d has) collected xs all moves sorted
      ∙ ap (λ (m : FinMap disk_cmp (Unit {0})). map (λ d. d.0) (keys m)) used_together

  -- the ids of all shards, sorted, are those of the store
  pub row_ids : (l : Layer) → (collected xs : List ℕ) → collected ≡ flat_map (ids_of l) row
      → IsPermutation collected xs → IsSorted nat_cmp xs → xs ≡ ids_of l (together row)
  row_ids layers.Names collected xs all moves sorted = all_dirs collected xs all moves sorted
  row_ids layers.Files collected xs all moves sorted = all_files collected xs all moves sorted
  row_ids layers.Blocks collected xs all moves sorted = all_blocks collected xs all moves sorted
  row_ids layers.Disks collected xs all moves sorted = all_disks collected xs all moves sorted

  -- the shard of its place shows it as the store would
  pub row_lines : (l : Layer) (id : ℕ) → lines_of l (get_or row (place_number c l id) no_store) id ≡ lines_of l (together row) id
  row_lines layers.Names id =
      let d : DirId = record { 0 = id } in
      own_dump _ (names_together row) d ((is.whole.names (dir_place c d)).dirs d ∙ chosen _ _ (place_own (dir_place c d)))
      (same_within (λ e. place_eq (dir_place c d) (dir_place c e)) _ _ (is.whole.names (dir_place c d)) d (place_own (dir_place c d)))
  row_lines layers.Files id =
      let f : FileId = record { 0 = id } in
      ap (λ (x : Option File). maybe_line (option_map (λ row. file_line (f, row)) x))
      (is.whole.files (file_place c f) f ∙ chosen _ _ (place_own (file_place c f)))
  row_lines layers.Blocks id =
      let b : BlkId = record { 0 = id } in
      ap (λ (x : Option Block). maybe_line (option_map (λ row. block_line (b, row)) x))
      (is.whole.blocks (blk_place c b) b ∙ chosen _ _ (place_own (blk_place c b)))
  row_lines layers.Disks id = ap (λ (m : Chunks). map chunk_line (entries m)) (at_home (record { 0 = id }))
