use Rattle.std.proofs.Common.{◌≡◌, Some, take, if◌then◌else◌}
use Rattle.std.specs.FinMap.{get}
use Rattle.block_maps.specs.declared.disk_blk.DiskBlk.{DiskBlk}
use Rattle.block_shard.specs.Index.{is_row_of}
use Rattle.block_shard.proofs.indexed.put_rows.Given as goal

abbrev pub invariant-loop-row : goal.invariant-loop-row
invariant-loop-row l = (at : DiskBlk) → get l.index at ≡ (if is_row_of l.fn.blk (take l.row-index l.rows) at then Some tt else get l.fn.index at)
