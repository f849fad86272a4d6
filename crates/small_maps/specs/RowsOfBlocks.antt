-- The rows of a block, by disk.
use Rattle.std.specs.Prelude.{true}
use Rattle.std.specs.FinMap.{FinMap, entries, from_sorted}
use Rattle.tect_ids.specs.declared.values.BlockRow.{BlockRow}
use Rattle.tect_ids.specs.Keys.{disk_cmp}
use Rattle.map_words.specs.Pairs.{with_values}

-- the row once its chunk is known to stand on the disk
abbrev pub placed_row : BlockRow → BlockRow
placed_row r = record { tag = r.tag; placed = true }

-- the rows once all their chunks are
unfoldable pub all_placed : FinMap disk_cmp BlockRow → FinMap disk_cmp BlockRow
all_placed m = from_sorted (with_values placed_row (entries m))
