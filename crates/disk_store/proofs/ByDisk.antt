-- the chunks of the disks that have some, disk by disk, are all chunks
use Rattle.std.proofs.Common.{◌≡◌, ℕ, Bool, true, false, ◌&&◌, ◌||◌, T, cond, Option, Some, None, is_some, List, [], ◌∷◌, ◌++◌, map}
use Rattle.std.proofs.Common.{refl, sym, ap, ◌∙◌, subst, arith}
use Rattle.std.specs.List.{filter, flat_map, list_any, AllByRecursion}
use Rattle.std.specs.declared.cmp.Ordering.{Ordering}
use Rattle.std.specs.declared.cmp.Ordering.TheVariants.{Less, Equal, Greater}
use Rattle.std.specs.Ordering.{eq_by_cmp, is_lt, is_eq}
use Rattle.std.specs.Cmp.{tied_itself}
use Rattle.std.proofs.lemmas.List.{map-append}
use Rattle.std.specs.FinMap.{get, contains_key}
use Rattle.std.specs.FinMap.{entries, entries_sorted, from_entries, find, is_sorted, get-entries, get-from_entries}
use Rattle.std.specs.FinMap.Entries.{below_all}
use Rattle.tect_ids.specs.declared.ids.DiskId.{DiskId}
use Rattle.tect_ids.specs.declared.key.ChunkKey.{ChunkKey}
use Rattle.tect_ids.specs.declared.dump.DumpLine.{DumpLine}
use Rattle.tect_ids.specs.Keys.{disk_eq, disk_cmp, chunk_cmp}
use Rattle.tect_ids.proofs.KeyTests.{disk_eq_cases, disk_cmp_total, disk_ties, chunk_cmp_total, chunk_antisymmetric}
use Rattle.map_words.proofs.Entries.{some_passes, same_retained}
use Rattle.block_maps.specs.Chunks.{on_disk}
use Rattle.block_maps.proofs.ChunkFront.{entries-on_disk}
use Rattle.store_rules.specs.Disks.{Chunks}
use Rattle.store_rules.specs.Dumps.{chunk_line, chunks_dump}
use Rattle.disk_store.specs.Dumps.{disk_dump, used_disks, disks_of}

pub both : (a b : Bool) → T (a && b) → T a × T b
both true b p = (tt, p)
both false b p = absurd p

pub is_less : (r : Ordering) → T (is_lt r) → r ≡ Less
is_less Less p = refl
is_less Equal p = absurd p
is_less Greater p = absurd p

-- a chunk behind one whose disk is past d is not of d
other_disk : (d : DiskId) (b c : ChunkKey) → disk_cmp d b.disk ≡ Less → chunk_cmp b c ≡ Less → disk_eq c.disk d ≡ false
unfolding disk_eq
other_disk d b c less later = grind arith

apart : (a b : DiskId) → disk_cmp a b ≡ Less → disk_eq a b ≡ false
unfolding disk_eq
apart a b less = grind arith

-- what stands in a rising list behind a disk is past it
found_past : (q d : DiskId) (ds : List (DiskId × Unit {0})) → T (below_all disk_cmp d ds) → is_some (find disk_cmp q ds) ≡ true
    → disk_cmp d q ≡ Less
found_past q d [] below found = absurd (grind (arith, found))
found_past q d (x ∷ ds) below found =
    let parts : T (is_lt (disk_cmp d x.0)) × T (below_all disk_cmp d ds) = both _ _ below in
    let less : disk_cmp d x.0 ≡ Less = is_less _ parts.0 in
    grind (arith, disk_eq_cases q x.0, disk_ties q x.0, found, less, found_past q d ds parts.1)

-- the chunks of a disk, in a list
abbrev of_disk : {X : Type 0} → List (ChunkKey × X) → DiskId → List (ChunkKey × X)
of_disk rows d = filter (λ e. disk_eq e.0.disk d) rows

module _ {X : Type 0} where
  none_of : (d : DiskId) (b : ChunkKey) (rows : List (ChunkKey × X)) → disk_cmp d b.disk ≡ Less → T (below_all chunk_cmp b rows)
      → of_disk rows d ≡ []
  none_of d b [] less below = refl
  none_of d b (e ∷ rows) less below =
      let parts = both _ _ below in
      ap (λ (t : Bool). cond t (e ∷ of_disk rows d) (of_disk rows d)) (other_disk d b e.0 less (is_less _ parts.0))
      ∙ none_of d b rows less parts.1

  -- a chunk is none of those of disks past its own
  passed : (e : ChunkKey × X) (rows : List (ChunkKey × X)) (ds : List (DiskId × Unit {0})) → T (below_all disk_cmp e.0.disk ds)
      → flat_map (of_disk (e ∷ rows)) (map (λ x. x.0) ds) ≡ flat_map (of_disk rows) (map (λ x. x.0) ds)
  passed e rows [] below = refl
  passed e rows (x ∷ ds) below =
      let parts = both _ _ below in
      let other : disk_eq e.0.disk x.0 ≡ false = apart e.0.disk x.0 (is_less _ parts.0) in
      let first : of_disk (e ∷ rows) x.0 ≡ of_disk rows x.0 = ap (λ (t : Bool). cond t (e ∷ of_disk rows x.0) (of_disk rows x.0)) other in
      let rest = passed e rows ds parts.1 in
      λ i. first i ++ rest i

  -- a chunk in front of others that are behind it comes first where its disk is among those that are gone over
  first_of_all : (e : ChunkKey × X) (rows : List (ChunkKey × X)) (ds : List (DiskId × Unit {0})) → T (is_sorted disk_cmp ds)
      → is_some (find disk_cmp e.0.disk ds) ≡ true → T (below_all chunk_cmp e.0 rows)
      → flat_map (of_disk (e ∷ rows)) (map (λ x. x.0) ds) ≡ e ∷ flat_map (of_disk rows) (map (λ x. x.0) ds)
  first_of_all e rows [] sorted found below = absurd (grind (arith, found))
  first_of_all e rows (x ∷ ds) sorted found below = by_test (disk_eq e.0.disk x.0) refl (first_of_all e rows ds (both _ _ sorted).1)
    where
      parts : T (below_all disk_cmp x.0 ds) × T (is_sorted disk_cmp ds)
      parts = both _ _ sorted

      by_test : (t : Bool) → disk_eq e.0.disk x.0 ≡ t
          → (is_some (find disk_cmp e.0.disk ds) ≡ true → T (below_all chunk_cmp e.0 rows)
          → flat_map (of_disk (e ∷ rows)) (map (λ x. x.0) ds) ≡ e ∷ flat_map (of_disk rows) (map (λ x. x.0) ds))
          → flat_map (of_disk (e ∷ rows)) (map (λ x. x.0) (x ∷ ds)) ≡ e ∷ flat_map (of_disk rows) (map (λ x. x.0) (x ∷ ds))
      by_test true own behind =
          let same : x.0 ≡ e.0.disk = grind (arith, disk_eq_cases e.0.disk x.0, own) in
          let others = passed e rows ds (subst (λ (d : DiskId). T (below_all disk_cmp d ds)) same parts.0) in
          let first : of_disk (e ∷ rows) x.0 ≡ e ∷ of_disk rows x.0 =
          ap (λ (t : Bool). cond t (e ∷ of_disk rows x.0) (of_disk rows x.0)) own in
          λ i. first i ++ others i
      by_test false other behind =
          let later : is_some (find disk_cmp e.0.disk ds) ≡ true = grind (arith, disk_ties e.0.disk x.0, other, found) in
          let none : of_disk rows x.0 ≡ [] = none_of x.0 e.0 rows (found_past e.0.disk x.0 ds parts.0 later) below in
          let skipped : of_disk (e ∷ rows) x.0 ≡ of_disk rows x.0 =
          ap (λ (t : Bool). cond t (e ∷ of_disk rows x.0) (of_disk rows x.0)) other in
          ap (λ (es : List (ChunkKey × X)). es ++ flat_map (of_disk (e ∷ rows)) (map (λ x. x.0) ds)) (skipped ∙ none)
          ∙ behind later below
          ∙ ap (λ (es : List (ChunkKey × X)). e ∷ (es ++ flat_map (of_disk rows) (map (λ x. x.0) ds))) (sym none)

  nothing : (ds : List (DiskId × Unit {0})) → flat_map (of_disk (let rows : List (ChunkKey × X) = [] in rows)) (map (λ x. x.0) ds) ≡ []
  nothing [] = refl
  nothing (x ∷ ds) = nothing ds

  -- all chunks come, in their order, where each one's disk is among those that are gone over
  all_rows : (rows : List (ChunkKey × X)) (ds : List (DiskId × Unit {0})) → T (is_sorted chunk_cmp rows) → T (is_sorted disk_cmp ds)
      → AllByRecursion (λ e. is_some (find disk_cmp e.0.disk ds) ≡ true) rows → flat_map (of_disk rows) (map (λ x. x.0) ds) ≡ rows
  all_rows [] ds rising sorted found = nothing ds
  all_rows (e ∷ rows) ds rising sorted (here, found) =
      let parts = both _ _ rising in
      first_of_all e rows ds sorted here parts.0
      ∙ ap (λ (es : List (ChunkKey × X)). e ∷ es) (all_rows rows ds parts.1 sorted found)

  -- the disk of each chunk
  abbrev pub disks_tagged : List (ChunkKey × X) → List (DiskId × Unit {0})
  disks_tagged rows = map (λ e. (e.0.disk, tt)) rows

  found_behind : (d : DiskId) (fs es : List (ChunkKey × X))
      → AllByRecursion (λ e. is_some (find disk_cmp e.0.disk (disks_tagged es)) ≡ true) fs
      → AllByRecursion (λ e. is_some (find disk_cmp e.0.disk ((d, tt) ∷ disks_tagged es)) ≡ true) fs
  found_behind d [] es all = tt
  found_behind d (f ∷ fs) es (here, all) = (more _ (eq_by_cmp disk_cmp f.0.disk d) here, found_behind d fs es all)
    where
      more : (o : Option (Unit {0})) (t : Bool) → is_some o ≡ true → is_some (cond t (Some tt) o) ≡ true
      more o true some = refl
      more o false some = some

  each_found : (es : List (ChunkKey × X)) → AllByRecursion (λ e. is_some (find disk_cmp e.0.disk (disks_tagged es)) ≡ true) es
  each_found [] = tt
  each_found (e ∷ es) = (
    ap (λ (t : Ordering). is_some (cond (is_eq t) (Some tt) (find disk_cmp e.0.disk (disks_tagged es)))) (tied_itself disk_cmp_total e.0.disk),
    found_behind e.0.disk es es (each_found es),
  )

  map_all : {P Q : ChunkKey × X → Type 0} (es : List (ChunkKey × X)) → ((e : ChunkKey × X) → P e → Q e) → AllByRecursion P es
      → AllByRecursion Q es
  map_all [] step all = tt
  map_all (e ∷ es) step (here, all) = (step e here, map_all es step all)

lines_of_each : {A B C : Type 0} (f : B → C) (g : A → List B) (ds : List A) → flat_map (λ d. map f (g d)) ds ≡ map f (flat_map g ds)
lines_of_each f g [] = refl
lines_of_each {C = C} f g (d ∷ ds) =
    ap (λ (cs : List C). map f (g d) ++ cs) (lines_of_each f g ds) ∙ sym (map-append f (g d) (flat_map g ds))

used_found : (s : Chunks) (d : DiskId) → find disk_cmp d (entries (used_disks s)) ≡ find disk_cmp d (disks_tagged (entries s))
used_found s d = sym (get-entries (used_disks s) d) ∙ get-from_entries disk_cmp_total (disks_tagged (entries s)) d

each_used : (s : Chunks) → AllByRecursion (λ e. is_some (find disk_cmp e.0.disk (entries (used_disks s))) ≡ true) (entries s)
each_used s = map_all (entries s) (λ e here. ap is_some (used_found s e.0.disk) ∙ here) (each_found (entries s))

over_each : (s : Chunks) (ds : List DiskId)
    → flat_map (disk_dump s) ds ≡ flat_map (λ d. map chunk_line (of_disk (entries s) d)) ds
over_each s [] = refl
over_each s (d ∷ ds) =
    let first = ap (map chunk_line) (entries-on_disk s d) in
    let rest = over_each s ds in
    λ i. first i ++ rest i

-- the lines of each disk that has chunks, one disk after another, are those of all chunks
pub disks_shown : (s : Chunks) → flat_map (disk_dump s) (disks_of s) ≡ chunks_dump s
disks_shown s =
    over_each s (disks_of s)
    ∙ lines_of_each chunk_line (of_disk (entries s)) (disks_of s)
    ∙ ap (map chunk_line) (all_rows (entries s) (entries (used_disks s)) (entries_sorted s) (entries_sorted (used_disks s)) (each_used s))

-- ---- which disks have chunks

found_any : {X : Type 0} (d : DiskId) (rows : List (ChunkKey × X))
    → is_some (find disk_cmp d (disks_tagged rows)) ≡ list_any (λ e. disk_eq e.0.disk d) rows
found_any d [] = refl
found_any d (e ∷ rows) = by_test (eq_by_cmp disk_cmp d e.0.disk) (disk_eq e.0.disk d) (alike d e.0.disk) (found_any d rows)
  where
    alike : (a b : DiskId) → eq_by_cmp disk_cmp a b ≡ disk_eq b a
    alike a b = grind (arith, disk_ties a b, disk_eq_cases a b, disk_eq_cases b a)

    by_test : (t u : Bool) → t ≡ u → is_some (find disk_cmp d (disks_tagged rows)) ≡ list_any (λ x. disk_eq x.0.disk d) rows
        → is_some (cond t (Some tt) (find disk_cmp d (disks_tagged rows))) ≡ (u || list_any (λ x. disk_eq x.0.disk d) rows)
    by_test true u same rest = ap (λ (b : Bool). b || list_any (λ x. disk_eq x.0.disk d) rows) same
    by_test false u same rest = rest ∙ ap (λ (b : Bool). b || list_any (λ x. disk_eq x.0.disk d) rows) same

-- a disk is used where some chunk is on it
pub used_is : (s : Chunks) (d : DiskId) → contains_key (used_disks s) d ≡ list_any (λ e. disk_eq e.0.disk d) (entries s)
used_is s d = ap is_some (get-from_entries disk_cmp_total (disks_tagged (entries s)) d) ∙ found_any d (entries s)

pub chunk_of_used : (s : Chunks) (d : DiskId) → contains_key (used_disks s) d ≡ true
    → (e : ChunkKey × List ℕ) × (get s e.0 ≡ Some e.1) × (disk_eq e.0.disk d ≡ true)
chunk_of_used s d used = some_passes chunk_cmp chunk_cmp_total s (λ e. disk_eq e.0.disk d) (sym (used_is s d) ∙ used)

any_kept : {A : Type 0} (p : A → Bool) (xs : List A) → list_any p xs ≡ list_any p (filter p xs)
any_kept p [] = refl
any_kept {A = A} p (x ∷ xs) = by_test (p x) refl (any_kept p xs)
  where
    by_test : (t : Bool) → p x ≡ t → list_any p xs ≡ list_any p (filter p xs)
        → (t || list_any p xs) ≡ list_any p (cond t (x ∷ filter p xs) (filter p xs))
    by_test true passes rest = ap (λ (b : Bool). b || list_any p (filter p xs)) (sym passes)
    by_test false fails rest = rest

same_unit : (x y : Option (Unit {0})) → is_some x ≡ is_some y → x ≡ y
same_unit None None same = refl
same_unit None (Some y) same = absurd (grind (arith, same))
same_unit (Some x) None same = absurd (grind (arith, same))
same_unit (Some x) (Some y) same = refl

-- what is on a disk says whether it is used
pub same_used : (s t : Chunks) (d : DiskId) → on_disk s d ≡ on_disk t d → get (used_disks s) d ≡ get (used_disks t) d
same_used s t d same = same_unit _ _
    (used_is s d ∙ any_kept (λ e. disk_eq e.0.disk d) (entries s)
    ∙ ap (list_any (λ e. disk_eq e.0.disk d)) (sym (entries-on_disk s d) ∙ ap entries same ∙ entries-on_disk t d)
    ∙ sym (used_is t d ∙ any_kept (λ e. disk_eq e.0.disk d) (entries t)))

-- maps that answer alike at the chunks of a disk have the same on it
pub same_on_disk : (s t : Chunks) (d : DiskId) → ((c : ChunkKey) → disk_eq c.disk d ≡ true → get s c ≡ get t c)
    → on_disk s d ≡ on_disk t d
unfolding on_disk
same_on_disk s t d alike = same_retained chunk_cmp chunk_cmp_total chunk_antisymmetric s t (λ c. disk_eq c.disk d) alike
