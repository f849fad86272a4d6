-- The blocks by disk: which have a row there, and an index that lists them.
use Rattle.std.specs.Prelude.{◌≡◌, Bool, ◌&&◌, List, map, Option, None, Some, is_some}
use Rattle.std.specs.List.{filter}
use Rattle.std.specs.FinMap.{FinMap, get, entries}
use Rattle.tect_ids.specs.declared.ids.BlkId.{BlkId}
use Rattle.tect_ids.specs.declared.ids.DiskId.{DiskId}
use Rattle.tect_ids.specs.declared.values.BlockRow.{BlockRow}
use Rattle.tect_ids.specs.declared.values.NewRow.{NewRow}
use Rattle.tect_ids.specs.Keys.{blk_eq}
use Rattle.block_maps.specs.declared.disk_blk.DiskBlk.{DiskBlk}
use Rattle.block_maps.specs.DiskIndexes.{disk_blk_cmp}
use Rattle.store_rules.specs.declared.blocks.Block.{Block}
use Rattle.store_rules.specs.Blocks.{Blocks, rows_from}

abbrev pub pair : DiskId → BlkId → DiskBlk
pair d b = record { disk = d; blk = b }

-- the row of a block on a disk
abbrev pub block_row : Option Block → DiskId → Option BlockRow
block_row None d = None
block_row (Some x) d = get x.rows d

-- the blocks that have a row on the disk, in the order of their identifiers
abbrev pub blocks_on : Blocks → DiskId → List BlkId
blocks_on s d = map (λ e. e.0) (filter (λ e. is_some (get e.1.rows d)) (entries s))

-- it has an entry for just each row of each block
pub record IsIndexOf (index : FinMap disk_blk_cmp (Unit {0})) (s : Blocks) : Type 0 where
  pub same : (at : DiskBlk) → is_some (get index at) ≡ is_some (block_row (get s at.blk) at.disk)

-- the pair is of that block, and of the disk of one of these rows
abbrev pub is_row_of : BlkId → List NewRow → DiskBlk → Bool
is_row_of b rs at = blk_eq at.blk b && is_some (get (rows_from rs) at.disk)
