-- rows of blocks and of chunks, as maps
use Rattle.std.proofs.Common.{◌≡◌, List, [], Some, None, length}
use Rattle.std.specs.FinMap.{FinMap, empty, get, len, entries, find, put, from_sorted}
use Rattle.tect_ids.specs.declared.ids.BlkId.{BlkId}
use Rattle.tect_ids.specs.declared.key.ChunkKey.{ChunkKey}
use Rattle.tect_ids.specs.Keys.{blk_cmp, chunk_cmp}
use Rattle.tect_ids.proofs.KeyTests.{blk_cmp_total, blk_antisymmetric}
use Rattle.tect_ids.proofs.KeyTests.{chunk_cmp_total, chunk_antisymmetric}
use Rattle.ordered_rows.specs.Pairs.{pairs, set_value}
use Rattle.map_words.specs.Pairs.{IsRising, without}
use Rattle.map_words.specs.Maps.{set_at}
use Rattle.ordered_rows.proofs.Made.{map_set_value}
use Rattle.map_words.proofs.Made.{map_new, map_get, map_put, map_take, map_len, map_entries}

pub blk_rows_new : {X : Type 0} → ◌≡◌ {A = FinMap blk_cmp X} (from_sorted []) empty
blk_rows_new = map_new blk_cmp blk_cmp_total blk_antisymmetric

module _ {X : Type 0} (rows : List (BlkId × X)) where
  pub blk_rows_len : IsRising blk_cmp rows → len (from_sorted {R = blk_cmp} rows) ≡ length rows
  blk_rows_len rising = map_len blk_cmp rows rising

  pub blk_rows_get : (k : BlkId) → IsRising blk_cmp rows → get (from_sorted {R = blk_cmp} rows) k ≡ find blk_cmp k rows
  blk_rows_get k rising = map_get blk_cmp rows k rising

  pub blk_rows_entries : IsRising blk_cmp rows → entries (from_sorted {R = blk_cmp} rows) ≡ rows
  blk_rows_entries rising = map_entries blk_cmp rows rising

  pub blk_rows_put : (k : BlkId) (v : X) → IsRising blk_cmp rows → from_sorted {R = blk_cmp} (put blk_cmp k v rows)
      ≡ set_at (from_sorted rows) k (Some v)
  blk_rows_put k v rising = map_put blk_cmp blk_cmp_total blk_antisymmetric rows k v rising

  pub blk_rows_take : (k : BlkId) → IsRising blk_cmp rows → from_sorted {R = blk_cmp} (without blk_cmp k rows)
      ≡ set_at (from_sorted rows) k None
  blk_rows_take k rising = map_take blk_cmp blk_cmp_total blk_antisymmetric rows k rising

pub blk_rows_set : {X : Type 0} (rows : List (List (BlkId × X))) (k : BlkId) (v : X) → IsRising blk_cmp (pairs rows)
    → from_sorted {R = blk_cmp} (pairs (set_value blk_cmp k v rows)) ≡ set_at (from_sorted (pairs rows)) k (Some v)
blk_rows_set rows k v rising = map_set_value blk_cmp blk_cmp_total blk_antisymmetric rows k v rising

pub ruleset blk_rows = (blk_rows_set, blk_rows_new, blk_rows_len, blk_rows_get, blk_rows_entries, blk_rows_put, blk_rows_take)

pub chunk_rows_new : {X : Type 0} → ◌≡◌ {A = FinMap chunk_cmp X} (from_sorted []) empty
chunk_rows_new = map_new chunk_cmp chunk_cmp_total chunk_antisymmetric

module _ {X : Type 0} (rows : List (ChunkKey × X)) where
  pub chunk_rows_len : IsRising chunk_cmp rows → len (from_sorted {R = chunk_cmp} rows) ≡ length rows
  chunk_rows_len rising = map_len chunk_cmp rows rising

  pub chunk_rows_get : (k : ChunkKey) → IsRising chunk_cmp rows → get (from_sorted {R = chunk_cmp} rows) k ≡ find chunk_cmp k rows
  chunk_rows_get k rising = map_get chunk_cmp rows k rising

  pub chunk_rows_entries : IsRising chunk_cmp rows → entries (from_sorted {R = chunk_cmp} rows) ≡ rows
  chunk_rows_entries rising = map_entries chunk_cmp rows rising

  pub chunk_rows_put : (k : ChunkKey) (v : X) → IsRising chunk_cmp rows → from_sorted {R = chunk_cmp} (put chunk_cmp k v rows)
      ≡ set_at (from_sorted rows) k (Some v)
  chunk_rows_put k v rising = map_put chunk_cmp chunk_cmp_total chunk_antisymmetric rows k v rising

  pub chunk_rows_take : (k : ChunkKey) → IsRising chunk_cmp rows → from_sorted {R = chunk_cmp} (without chunk_cmp k rows)
      ≡ set_at (from_sorted rows) k None
  chunk_rows_take k rising = map_take chunk_cmp chunk_cmp_total chunk_antisymmetric rows k rising

pub chunk_rows_set : {X : Type 0} (rows : List (List (ChunkKey × X))) (k : ChunkKey) (v : X) → IsRising chunk_cmp (pairs rows)
    → from_sorted {R = chunk_cmp} (pairs (set_value chunk_cmp k v rows)) ≡ set_at (from_sorted (pairs rows)) k (Some v)
chunk_rows_set rows k v rising = map_set_value chunk_cmp chunk_cmp_total chunk_antisymmetric rows k v rising

pub ruleset chunk_rows =
    (chunk_rows_set, chunk_rows_new, chunk_rows_len, chunk_rows_get, chunk_rows_entries, chunk_rows_put, chunk_rows_take)
