-- the blocks that the index has on a disk are those with a row there
use Rattle.std.proofs.Common.{◌≡◌, Bool, true, false, if◌then◌else◌, List, [], ◌∷◌, map, Option, Some, None, is_some, T, refl, sym, ap, ◌∙◌, arith}
use Rattle.std.specs.List.{filter}
use Rattle.std.specs.FinMap.{FinMap, get, entries, find, entries_sorted, get-entries}
use Rattle.std.specs.FinMap.Entries.{below_all, same_entries}
use Rattle.tect_ids.specs.declared.ids.BlkId.{BlkId}
use Rattle.tect_ids.specs.declared.ids.DiskId.{DiskId}
use Rattle.tect_ids.specs.Keys.{disk_eq, blk_cmp}
use Rattle.tect_ids.proofs.KeyTests.{block_keys, blk_ties, blk_cmp_total, blk_antisymmetric}
use Rattle.map_words.specs.Pairs.{IsRising}
use Rattle.block_maps.specs.declared.disk_blk.DiskBlk.{DiskBlk}
use Rattle.block_maps.specs.DiskIndexes.{disk_blk_cmp, disk_blk_eq, blks_on}
use Rattle.block_maps.proofs.DiskIndexes.{disk_blk_ties}
use Rattle.store_rules.specs.declared.blocks.Block.{Block}
use Rattle.store_rules.specs.Blocks.{Blocks}
use Rattle.block_shard.specs.Index.{IsIndexOf, pair, block_row, blocks_on}

abbrev Listed : Type 0
Listed = List (BlkId × Unit {0})

-- the blocks of pairs of one disk
listed : DiskId → List (DiskBlk × Unit {0}) → Listed
listed d [] = []
listed d (e ∷ es) = if disk_eq e.0.disk d then (e.0.blk, tt) ∷ listed d es else listed d es

listed-below : (d : DiskId) (k : DiskBlk) (es : List (DiskBlk × Unit {0})) → disk_eq k.disk d ≡ true
    → T (below_all disk_blk_cmp k es) → T (below_all blk_cmp k.blk (listed d es))
unfolding listed disk_eq
listed-below d k [] on below = tt
listed-below d k (e ∷ es) on below =
    let later : T (below_all disk_blk_cmp k es) = grind arith in
    let rest : T (below_all blk_cmp k.blk (listed d es)) = listed-below d k es on later in
    grind (arith, on)

listed-rising : (d : DiskId) (es : List (DiskBlk × Unit {0})) → IsRising disk_blk_cmp es → IsRising blk_cmp (listed d es)
unfolding listed
listed-rising d [] rising = tt
listed-rising d (e ∷ es) rising =
    let parts : T (below_all disk_blk_cmp e.0 es) × IsRising disk_blk_cmp es = grind arith in
    let rest : IsRising blk_cmp (listed d es) = listed-rising d es parts.1 in
    split rest (disk_eq e.0.disk d) refl (λ on. listed-below d e.0 es on parts.0)
  where
    split : IsRising blk_cmp (listed d es) → (b : Bool) → disk_eq e.0.disk d ≡ b
        → (disk_eq e.0.disk d ≡ true → T (below_all blk_cmp e.0.blk (listed d es)))
        → IsRising blk_cmp (if b then (e.0.blk, tt) ∷ listed d es else listed d es)
    split rest true on below = let first = below on in grind arith
    split rest false off below = rest

find-listed : (d : DiskId) (es : List (DiskBlk × Unit {0})) (b : BlkId) → find blk_cmp b (listed d es) ≡ find disk_blk_cmp (pair d b) es
unfolding listed disk_blk_eq
find-listed d [] b = refl
find-listed d (e ∷ es) b =
    grind (arith, find-listed d es b, blk_ties b e.0.blk, disk_blk_ties (pair d b) e.0, block_keys)

map-listed : (d : DiskId) (es : List (DiskBlk × Unit {0})) → map (λ e. e.0) (listed d es) ≡ map (λ e. e.0.blk) (filter (λ e. disk_eq e.0.disk d) es)
unfolding listed
map-listed d [] = refl
map-listed d (e ∷ es) = split (map-listed d es) (disk_eq e.0.disk d)
  where
    split : map (λ e. e.0) (listed d es) ≡ map (λ e. e.0.blk) (filter (λ e. disk_eq e.0.disk d) es) → (b : Bool)
        → map (λ x. x.0) (if b then (e.0.blk, tt) ∷ listed d es else listed d es)
        ≡ map (λ x. x.0.blk) (if b then e ∷ filter (λ e. disk_eq e.0.disk d) es else filter (λ e. disk_eq e.0.disk d) es)
    split rest true = ap (λ bs. e.0.blk ∷ bs) rest
    split rest false = rest

-- the blocks with a row on the disk
rowed : DiskId → List (BlkId × Block) → Listed
rowed d [] = []
rowed d (e ∷ es) = if is_some (get e.1.rows d) then (e.0, tt) ∷ rowed d es else rowed d es

rowed-below : (d : DiskId) (k : BlkId) (es : List (BlkId × Block)) → T (below_all blk_cmp k es) → T (below_all blk_cmp k (rowed d es))
unfolding rowed
rowed-below d k [] below = tt
rowed-below d k (e ∷ es) below =
    let later : T (below_all blk_cmp k es) = grind arith in
    let rest : T (below_all blk_cmp k (rowed d es)) = rowed-below d k es later in
    grind arith

rowed-rising : (d : DiskId) (es : List (BlkId × Block)) → IsRising blk_cmp es → IsRising blk_cmp (rowed d es)
unfolding rowed
rowed-rising d [] rising = tt
rowed-rising d (e ∷ es) rising =
    let parts : T (below_all blk_cmp e.0 es) × IsRising blk_cmp es = grind arith in
    let rest : IsRising blk_cmp (rowed d es) = rowed-rising d es parts.1 in
    let below : T (below_all blk_cmp e.0 (rowed d es)) = rowed-below d e.0 es parts.0 in
    grind arith

none-below : (k : BlkId) (es : Listed) → T (below_all blk_cmp k es) → find blk_cmp k es ≡ None
none-below k [] below = refl
none-below k (e ∷ es) below =
    let later : T (below_all blk_cmp k es) = grind arith in
    let rest : find blk_cmp k es ≡ None = none-below k es later in
    grind arith

abbrev has_row : DiskId → Option Block → Option (Unit {0})
has_row d x = if is_some (block_row x d) then Some tt else None

find-rowed : (d : DiskId) (es : List (BlkId × Block)) (b : BlkId) → IsRising blk_cmp es → find blk_cmp b (rowed d es) ≡ has_row d (find blk_cmp b es)
unfolding rowed
find-rowed d [] b rising = refl
find-rowed d (e ∷ es) b rising =
    let parts : T (below_all blk_cmp e.0 es) × IsRising blk_cmp es = grind arith in
    let rest : find blk_cmp b (rowed d es) ≡ has_row d (find blk_cmp b es) = find-rowed d es b parts.1 in
    let none : find blk_cmp e.0 (rowed d es) ≡ None = none-below e.0 (rowed d es) (rowed-below d e.0 es parts.0) in
    grind (arith, rest, none, blk_ties b e.0, block_keys)

map-rowed : (d : DiskId) (es : List (BlkId × Block)) → map (λ e. e.0) (rowed d es) ≡ map (λ e. e.0) (filter (λ e. is_some (get e.1.rows d)) es)
unfolding rowed
map-rowed d [] = refl
map-rowed d (e ∷ es) = split (map-rowed d es) (is_some (get e.1.rows d))
  where
    split : map (λ e. e.0) (rowed d es) ≡ map (λ e. e.0) (filter (λ e. is_some (get e.1.rows d)) es) → (b : Bool)
        → map (λ x. x.0) (if b then (e.0, tt) ∷ rowed d es else rowed d es)
        ≡ map (λ x. x.0) (if b then e ∷ filter (λ e. is_some (get e.1.rows d)) es else filter (λ e. is_some (get e.1.rows d)) es)
    split rest true = ap (λ bs. e.0 ∷ bs) rest
    split rest false = rest

module _ (index : FinMap disk_blk_cmp (Unit {0})) (s : Blocks) (indexed : IsIndexOf index s) (d : DiskId) where
  some_unit : (x : Option (Unit {0})) (b : Bool) → is_some x ≡ b → x ≡ (if b then Some tt else None)
  some_unit None true is = cc
  some_unit None false is = refl
  some_unit (Some x) true is = refl
  some_unit (Some x) false is = cc

  same_listed : listed d (entries index) ≡ rowed d (entries s)
  same_listed = same_entries blk_cmp blk_cmp_total blk_antisymmetric _ _ (listed-rising d (entries index) (entries_sorted index))
      (rowed-rising d (entries s) (entries_sorted s)) (λ b.
      find-listed d (entries index) b ∙ sym (get-entries index (pair d b))
      ∙ some_unit (get index (pair d b)) (is_some (block_row (get s b) d)) (indexed.same (pair d b))
      ∙ ap (has_row d) (get-entries s b) ∙ sym (find-rowed d (entries s) b (entries_sorted s)))

  pub blks_on_disk : blks_on index d ≡ blocks_on s d
  blks_on_disk = sym (map-listed d (entries index)) ∙ ap (map (λ e. e.0)) same_listed ∙ map-rowed d (entries s)
