-- the rows of a block as a map
use Rattle.std.proofs.Common.{◌≡◌, List, [], Some, None, option_map, length, sym, ap}
use Rattle.std.specs.FinMap.{FinMap, empty, get, len, entries, find, put, from_sorted}
use Rattle.map_words.specs.Pairs.{IsRising, without, with_values}
use Rattle.map_words.specs.Maps.{set_at}
use Rattle.map_words.proofs.Made.{map_new, map_get, map_put, map_take, map_len, map_entries}
use Rattle.map_words.proofs.Values.{get-with_values, len-with_values}
use Rattle.tect_ids.specs.declared.ids.DiskId.{DiskId}
use Rattle.tect_ids.specs.declared.values.BlockRow.{BlockRow}
use Rattle.tect_ids.specs.Keys.{disk_cmp}
use Rattle.tect_ids.proofs.KeyTests.{disk_cmp_total, disk_antisymmetric}
use Rattle.small_maps.specs.RowsOfBlocks.{all_placed, placed_row}

pub block_rows_new : ◌≡◌ {A = FinMap disk_cmp BlockRow} (from_sorted []) empty
block_rows_new = map_new disk_cmp disk_cmp_total disk_antisymmetric

module _ (rows : List (DiskId × BlockRow)) where
  pub block_rows_len : IsRising disk_cmp rows → len (from_sorted {R = disk_cmp} rows) ≡ length rows
  block_rows_len rising = map_len disk_cmp rows rising

  pub block_rows_entries : IsRising disk_cmp rows → entries (from_sorted {R = disk_cmp} rows) ≡ rows
  block_rows_entries rising = map_entries disk_cmp rows rising

  pub block_rows_get : (disk : DiskId) → IsRising disk_cmp rows → get (from_sorted {R = disk_cmp} rows) disk ≡ find disk_cmp disk rows
  block_rows_get disk rising = map_get disk_cmp rows disk rising

  pub block_rows_put : (disk : DiskId) (row : BlockRow) → IsRising disk_cmp rows → from_sorted {R = disk_cmp} (put disk_cmp disk row rows)
      ≡ set_at (from_sorted rows) disk (Some row)
  block_rows_put disk row rising = map_put disk_cmp disk_cmp_total disk_antisymmetric rows disk row rising

  pub block_rows_take : (disk : DiskId) → IsRising disk_cmp rows → from_sorted {R = disk_cmp} (without disk_cmp disk rows)
      ≡ set_at (from_sorted rows) disk None
  block_rows_take disk rising = map_take disk_cmp disk_cmp_total disk_antisymmetric rows disk rising

  pub block_rows_placed : IsRising disk_cmp rows → from_sorted {R = disk_cmp} (with_values placed_row rows) ≡ all_placed (from_sorted rows)
  unfolding all_placed
  block_rows_placed rising = ap (λ p. from_sorted {R = disk_cmp} (with_values placed_row p)) (sym (map_entries disk_cmp rows rising))

pub ruleset block_rows =
    (block_rows_new, block_rows_len, block_rows_entries, block_rows_get, block_rows_put, block_rows_take, block_rows_placed)

-- what is found among rows that are placed all at once, and how many they are
pub get-all_placed : (m : FinMap disk_cmp BlockRow) (disk : DiskId) → get (all_placed m) disk ≡ option_map placed_row (get m disk)
unfolding all_placed
get-all_placed m disk = get-with_values disk_cmp placed_row m disk

pub len-all_placed : (m : FinMap disk_cmp BlockRow) → len (all_placed m) ≡ len m
unfolding all_placed
len-all_placed m = len-with_values disk_cmp placed_row m
