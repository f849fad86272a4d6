-- the disks of the rows that a block is made with
use Rattle.std.proofs.Common.{◌≡◌, ℕ, ◌+◌, ◌<◌, false, ◌||◌, List, [], ◌∷◌, ◌++◌, Option, Some, None, is_some, if◌then◌else◌, Bor}
use Rattle.std.proofs.Common.{map, reverse, take, drop, length, get_or, ap, ◌∙◌, arith}
use Rattle.std.proofs.lemmas.List.{take_more, take-append-drop, reverse-append, map-append}
use Rattle.std.specs.FinMap.{FinMap, get}
use Rattle.tect_ids.specs.declared.ids.BlkId.{BlkId}
use Rattle.tect_ids.specs.declared.ids.DiskId.{DiskId}
use Rattle.tect_ids.specs.declared.values.NewRow.{NewRow}
use Rattle.tect_ids.specs.Keys.{disk_eq}
use Rattle.tect_ids.proofs.KeyTests.{blk_eq_cases}
use Rattle.map_words.specs.Maps.{set_at}
use Rattle.block_maps.specs.declared.disk_blk.DiskBlk.{DiskBlk}
use Rattle.block_maps.specs.DiskIndexes.{disk_blk_cmp, disk_blk_eq}
use Rattle.key_words.proofs.BlockLookups.{block_maps}
use Rattle.block_maps.proofs.DiskIndexes.{get-disk_blk_at}
use Rattle.store_rules.specs.Blocks.{rows_from}
use Rattle.block_shard.specs.Index.{pair, is_row_of}

-- a disk has a row of two lists where it has one of either
pub made-append : (xs ys : List NewRow) (d : DiskId) → is_some (get (rows_from (xs ++ ys)) d)
    ≡ (is_some (get (rows_from xs) d) || is_some (get (rows_from ys) d))
unfolding rows_from
made-append [] ys d = grind (arith, block_maps)
made-append (x ∷ xs) ys d = grind (arith, block_maps, made-append xs ys d)

made-one : (x : NewRow) (d : DiskId) → is_some (get (rows_from (x ∷ [])) d) ≡ disk_eq d x.disk
unfolding rows_from
made-one x d = grind (arith, block_maps)

-- one row more
pub made_more : (rs : List NewRow) (i : ℕ) (r : NewRow) (d : DiskId) → i < length rs
    → is_some (get (rows_from (take (i + 1) rs)) d) ≡ (is_some (get (rows_from (take i rs)) d) || disk_eq d (get_or rs i r).disk)
made_more rs i r d within =
    ap (λ (xs : List NewRow). is_some (get (rows_from xs) d)) (take_more rs i r within)
    ∙ made-append (take i rs) (get_or rs i r ∷ []) d
    ∙ ap (λ b. is_some (get (rows_from (take i rs)) d) || b) (made-one (get_or rs i r) d)

-- what some of the rows have, all have
pub made_within : (rs : List NewRow) (i : ℕ) (d : DiskId) → is_some (get (rows_from rs) d) ≡ false → is_some (get (rows_from (take i rs)) d) ≡ false
made_within rs i d none =
    let whole = made-append (take i rs) (drop i rs) d in
    let same = ap (λ (xs : List NewRow). is_some (get (rows_from xs) d)) (take-append-drop i rs) in
    grind (arith, whole, same, none)

abbrev Pairs : Type 0
Pairs = FinMap disk_blk_cmp (Unit {0})

module _ (b : BlkId) (rs : List NewRow) where
  row_more : (i : ℕ) (r : NewRow) (at : DiskBlk) → i < length rs
      → is_row_of b (take (i + 1) rs) at ≡ (is_row_of b (take i rs) at || disk_blk_eq at (pair (get_or rs i r).disk b))
  unfolding disk_blk_eq
  row_more i r at within = grind (arith, made_more rs i r at.disk within)

  -- one pair more is put or taken
  pub rows_more : (i : ℕ) (r : NewRow) (w : Option (Unit {0})) (old now : Pairs) → i < length rs
      → ((at : DiskBlk) → get now at ≡ (if is_row_of b (take i rs) at then w else get old at)) → (at : DiskBlk)
      → get (set_at now (pair (get_or rs i r).disk b) w) at ≡ (if is_row_of b (take (i + 1) rs) at then w else get old at)
  rows_more i r w old now within before at =
      grind (arith, get-disk_blk_at now (pair (get_or rs i r).disk b) w at, before at, row_more i r at within)

  -- what is put for some of the rows is a pair of one of them
  pub others_stay : (i : ℕ) (w : Option (Unit {0})) (old now : Pairs)
      → ((at : DiskBlk) → get now at ≡ (if is_row_of b (take i rs) at then w else get old at)) → (at : DiskBlk)
      → is_row_of b rs at ≡ false → get now at ≡ get old at
  others_stay i w old now before at other = grind (arith, before at, other, made_within rs i at.disk)

  -- what was put is taken back, of a block that was listed nowhere
  pub taken_back : (old put now : Pairs) → ((d : DiskId) → get old (pair d b) ≡ None)
      → ((at : DiskBlk) → is_row_of b rs at ≡ false → get put at ≡ get old at)
      → ((at : DiskBlk) → get now at ≡ (if is_row_of b rs at then None else get put at)) → (at : DiskBlk) → get now at ≡ get old at
  taken_back old put now free others takes at =
      let none : at.blk ≡ b → get old at ≡ None = λ same. ap (λ (x : BlkId). get old (pair at.disk x)) same ∙ free at.disk in
      grind (arith, others at, takes at, none, blk_eq_cases at.blk b)

-- no pair is of no rows
pub no_rows : (b : BlkId) (w : Option (Unit {0})) (old : Pairs) (at : DiskBlk) → get old at ≡ (if is_row_of b [] at then w else get old at)
unfolding rows_from
no_rows b w old at = grind (arith, block_maps)

-- the rows in the order from the last to the first
pub made_next : (rows : List (Bor NewRow)) (row : Bor NewRow) → set_at (rows_from (reverse (map (λ r. r.now) rows))) row.now.disk
    (Some record { tag = row.now.tag; placed = false }) ≡ rows_from (reverse (map (λ r. r.now) (rows ++ row ∷ [])))
unfolding rows_from
made_next rows row = simp (map-append, reverse-append)
