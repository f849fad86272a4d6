-- the rows that a block is made with, as a map by disk, and once all are placed
use Rattle.std.proofs.Common.{◌≡◌, ◌≤◌, is_some, length, List, [], ◌∷◌, T, Bool, true, false, cond, if◌then◌else◌, map, Option, Some, None}
use Rattle.std.proofs.Common.{refl, sym, ap, ◌∙◌, arith}
use Rattle.std.specs.Ordering.{eq_by_cmp}
use Rattle.std.specs.FinMap.{FinMap, get, get-empty, get-entries, get-from_sorted, entries, entries_sorted, find, is_sorted}
use Rattle.std.specs.FinMap.Entries.{below_all}
use Rattle.tect_ids.specs.declared.ids.DiskId.{DiskId}
use Rattle.tect_ids.specs.declared.ids.Tag.{Tag}
use Rattle.tect_ids.specs.declared.values.BlockRow.{BlockRow}
use Rattle.tect_ids.specs.declared.values.NewRow.{NewRow}
use Rattle.tect_ids.specs.Keys.{disk_eq, tag_eq, disk_cmp}
use Rattle.tect_ids.proofs.KeyTests.{block_keys}
use Rattle.small_maps.specs.RowsOfBlocks.{placed_row, all_placed}
use Rattle.store_rules.specs.Blocks.{rows_from, shown_row}
use Rattle.store_pasts.specs.Contents.{tag_at, disk_at, Apart}
use Rattle.key_words.proofs.BlockLookups.{get-disk_at}
use Rattle.store_world.proofs.BlockMaps.{block_maps}

-- ---- the rows that a block is made with

abbrev pub unplaced : Option Tag → Option BlockRow
unplaced None = None
unplaced (Some t) = Some record { tag = t; placed = false }

pub get-rows_from : (rs : List NewRow) (d : DiskId) → get (rows_from rs) d ≡ unplaced (tag_at rs d)
unfolding rows_from tag_at
get-rows_from [] d = get-empty disk_cmp d
get-rows_from (r ∷ rs) d =
    get-disk_at (rows_from rs) r.disk (Some record { tag = r.tag; placed = false }) d ∙ split (get-rows_from rs d) (disk_eq d r.disk)
  where
    split : get (rows_from rs) d ≡ unplaced (tag_at rs d) → (b : Bool)
        → (if b then Some record { tag = r.tag; placed = false } else get (rows_from rs) d)
        ≡ unplaced (if b then Some r.tag else tag_at rs d)
    split e true = refl
    split e false = e

-- the first is found at its disk
pub tag_first : (r : NewRow) (rs : List NewRow) → tag_at (r ∷ rs) r.disk ≡ Some r.tag
unfolding tag_at
tag_first r rs = grind (arith, block_keys)

-- where no disk and no tag stands twice, each row is found by its tag
pub found_by_tag : (rs : List NewRow) → Apart rs → (d : DiskId) (t : Tag) → tag_at rs d ≡ Some t → disk_at rs t ≡ Some d
unfolding tag_at disk_at Apart
found_by_tag [] apart d t e = cc
found_by_tag (r ∷ rs) apart d t e =
    split (λ at. found_by_tag rs apart.2 d t at) (disk_eq d r.disk) refl (tag_eq t r.tag) refl
  where
    split : (tag_at rs d ≡ Some t → disk_at rs t ≡ Some d) → (b : Bool) → disk_eq d r.disk ≡ b → (c : Bool) → tag_eq t r.tag ≡ c
        → (if tag_eq t r.tag then Some r.disk else disk_at rs t) ≡ Some d
    split ih true b true c = grind (arith, block_keys)
    split ih true b false c = grind (arith, block_keys)
    split ih false b true c =
        let at : tag_at rs d ≡ Some t = grind arith in let is : disk_at rs t ≡ Some d = ih at in grind (arith, block_keys)
    split ih false b false c =
        let at : tag_at rs d ≡ Some t = grind arith in let is : disk_at rs t ≡ Some d = ih at in grind (arith, block_keys)

-- and each is found by its disk
pub found_by_disk : (rs : List NewRow) → Apart rs → (d : DiskId) (t : Tag) → disk_at rs t ≡ Some d → tag_at rs d ≡ Some t
unfolding tag_at disk_at Apart
found_by_disk [] apart d t e = cc
found_by_disk (r ∷ rs) apart d t e =
    split (λ at. found_by_disk rs apart.2 d t at) (disk_eq d r.disk) refl (tag_eq t r.tag) refl
  where
    split : (disk_at rs t ≡ Some d → tag_at rs d ≡ Some t) → (b : Bool) → disk_eq d r.disk ≡ b → (c : Bool) → tag_eq t r.tag ≡ c
        → (if disk_eq d r.disk then Some r.tag else tag_at rs d) ≡ Some t
    split ih true b true c = grind (arith, block_keys)
    split ih true b false c =
        let at : disk_at rs t ≡ Some d = grind arith in let is : tag_at rs d ≡ Some t = ih at in grind (arith, block_keys)
    split ih false b true c = grind (arith, block_keys)
    split ih false b false c =
        let at : disk_at rs t ≡ Some d = grind arith in let is : tag_at rs d ≡ Some t = ih at in grind (arith, block_keys)

-- ---- all rows placed

abbrev all_rows : List (DiskId × BlockRow) → List (DiskId × BlockRow)
all_rows = map (λ e. (e.0, placed_row e.1))

below_all_rows : (k : DiskId) (es : List (DiskId × BlockRow)) → T (below_all disk_cmp k es) → T (below_all disk_cmp k (all_rows es))
below_all_rows k [] h = h
below_all_rows k (e ∷ es) h =
    let later : T (below_all disk_cmp k es) = grind arith in
    let rest : T (below_all disk_cmp k (all_rows es)) = below_all_rows k es later in
    grind arith

sorted_all_rows : (es : List (DiskId × BlockRow)) → T (is_sorted disk_cmp es) → T (is_sorted disk_cmp (all_rows es))
sorted_all_rows [] h = h
sorted_all_rows (e ∷ es) h =
    let parts : T (below_all disk_cmp e.0 es) × T (is_sorted disk_cmp es) = grind arith in
    let below : T (below_all disk_cmp e.0 (all_rows es)) = below_all_rows e.0 es parts.0 in
    let rest : T (is_sorted disk_cmp (all_rows es)) = sorted_all_rows es parts.1 in
    grind arith

abbrev pub placed_at : Option BlockRow → Option BlockRow
placed_at None = None
placed_at (Some r) = Some (placed_row r)

find-all_rows : (es : List (DiskId × BlockRow)) (d : DiskId) → find disk_cmp d (all_rows es) ≡ placed_at (find disk_cmp d es)
find-all_rows [] d = refl
find-all_rows (e ∷ es) d =
    elim (eq_by_cmp disk_cmp d e.0) as
    (λ b. cond b (Some (placed_row e.1)) (find disk_cmp d (all_rows es)) ≡ placed_at (cond b (Some e.1) (find disk_cmp d es)))
    [ true ↦ refl | false ↦ find-all_rows es d ]

pub get-all_placed : (m : FinMap disk_cmp BlockRow) (d : DiskId) → get (all_placed m) d ≡ placed_at (get m d)
unfolding all_placed
get-all_placed m d =
    get-from_sorted disk_cmp (all_rows (entries m)) d (sorted_all_rows (entries m) (entries_sorted m))
    ∙ find-all_rows (entries m) d ∙ ap placed_at (sym (get-entries m d))

-- ---- rows as they are shown

none_found : (es : List (DiskId × BlockRow)) (d : DiskId) → is_some (find disk_cmp d es) ≡ true → 1 ≤ length (map shown_row es)
none_found [] d is = absurd (let k : false ≡ true = is in cc)
none_found (e ∷ es) d is = omega arith

-- where one is found there are some
pub more_than_none : (m : FinMap disk_cmp BlockRow) (d : DiskId) → is_some (get m d) ≡ true → 1 ≤ length (map shown_row (entries m))
more_than_none m d is = none_found (entries m) d (rw (← get-entries m d) is)

-- all that is needed to read the rows of a block
pub ruleset new_rows = (block_maps, get-rows_from, get-all_placed)
