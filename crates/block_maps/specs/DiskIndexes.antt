-- Which blocks have a row on which disk: the order of such pairs, and the blocks of one disk.
use Rattle.std.specs.Prelude.{Bool, ◌&&◌, List, map, take_while, refl}
use Rattle.std.specs.List.{filter}
use Rattle.std.specs.declared.cmp.Ordering.{Ordering}
use Rattle.std.specs.Coded.{Coded, code_by, coded×, coded_ℕ}
use Rattle.std.specs.Prelude.{ℕ}
use Rattle.std.specs.FinMap.{FinMap, entries}
use Rattle.tect_ids.specs.declared.ids.BlkId.{BlkId}
use Rattle.tect_ids.specs.declared.ids.DiskId.{DiskId}
use Rattle.tect_ids.specs.Codes.{blk_code, disk_code}
use Rattle.tect_ids.specs.Keys.{blk_eq, disk_eq}
use Rattle.block_maps.specs.contracts.disk_blk.DiskBlkOrd.TheImpl as disk_blk_ord
use Rattle.block_maps.specs.declared.disk_blk.DiskBlk.{DiskBlk}

abbrev pub disk_blk_cmp : DiskBlk → DiskBlk → Ordering
disk_blk_cmp = (disk_blk_ord.ghosts).cmp

unfoldable pub disk_blk_eq : DiskBlk → DiskBlk → Bool
disk_blk_eq a b = disk_eq a.disk b.disk && blk_eq a.blk b.blk

-- how a pair is stored as plain data, and how what stands at it is
abbrev pub disk_blk_code : Coded DiskBlk
disk_blk_code = code_by (DiskId × BlkId) (coded× disk_code blk_code) (λ k. (k.disk, k.blk)) (λ p. record { disk = p.0; blk = p.1 }) (λ _. refl)

abbrev pub unit_code : Coded (Unit {0})
unit_code = code_by ℕ coded_ℕ (λ _. 0) (λ _. tt) (λ _. refl)

-- the blocks of the pairs at the front of a list that are of one disk
unfoldable pub blks_of_front : DiskId → List (DiskBlk × Unit {0}) → List BlkId
blks_of_front d rows = map (λ e. e.0.blk) (take_while (λ e. disk_eq e.0.disk d) rows)

-- the blocks of one disk, in their order
abbrev pub blks_on : FinMap disk_blk_cmp (Unit {0}) → DiskId → List BlkId
blks_on m d = map (λ e. e.0.blk) (filter (λ e. disk_eq e.0.disk d) (entries m))

-- the blocks that a cursor has left
abbrev pub blks_left : List BlkId → List BlkId
blks_left rest = rest
