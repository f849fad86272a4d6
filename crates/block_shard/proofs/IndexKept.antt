-- the index after a change of one block
use Rattle.std.proofs.Common.{◌≡◌, true, List, Option, Some, None, if◌then◌else◌, arith}
use Rattle.std.proofs.Common.{Result, Ok, Err, is_err, OnOk, OnErr}
use Rattle.std.specs.FinMap.{FinMap, get, empty}
use Rattle.tect_ids.specs.declared.ids.BlkId.{BlkId}
use Rattle.tect_ids.specs.declared.ids.DiskId.{DiskId}
use Rattle.tect_ids.specs.declared.ids.Hold.{Hold}
use Rattle.tect_ids.specs.declared.ids.NoMemory.{NoMemory}
use Rattle.tect_ids.specs.declared.key.Upper.{Upper}
use Rattle.tect_ids.specs.declared.values.NewRow.{NewRow}
use Rattle.map_words.specs.Maps.{set_at}
use Rattle.block_maps.specs.declared.disk_blk.DiskBlk.{DiskBlk}
use Rattle.block_maps.specs.DiskIndexes.{disk_blk_cmp}
use Rattle.key_words.proofs.BlockLookups.{block_maps}
use Rattle.small_maps.proofs.RowsOfBlocks.{get-all_placed}
use Rattle.store_rules.specs.declared.blocks.Block.{Block}
use Rattle.store_rules.specs.Blocks.{Blocks, rows_from, sealed_block, block_with_hold}
use Rattle.block_shard.specs.Index.{IsIndexOf, pair, is_row_of}

abbrev Pairs : Type 0
Pairs = FinMap disk_blk_cmp (Unit {0})

pub index_of_none : IsIndexOf empty empty
index_of_none = record { same = λ at. grind (arith, block_maps) }

module _ (index : Pairs) (s : Blocks) (b : BlkId) (indexed : IsIndexOf index s) where
  -- a change that leaves the rows' disks
  pub index_held : (h : Hold) (u : Option Upper) → IsIndexOf index (set_at s b (block_with_hold (get s b) h u))
  index_held h u = record { same = λ at. grind (arith, block_maps, indexed.same at) }

  pub index_sealed : IsIndexOf index (set_at s b (sealed_block (get s b)))
  index_sealed = record { same = λ at. grind (arith, block_maps, indexed.same at, get-all_placed) }

  pub index_granted : (h : Hold) (u : Option Upper) (r : Result (Unit {0}) NoMemory) (now : Blocks)
      → OnOk r (now ≡ set_at s b (block_with_hold (get s b) h u)) → OnErr r (now ≡ s) → IsIndexOf index now
  index_granted h u (Ok x) now granted left = rw granted (index_held h u)
  index_granted h u (Err e) now granted left = rw left indexed

  module _ (free : get s b ≡ None) (rs : List NewRow) (listed : Pairs)
      (puts : (at : DiskBlk) → get listed at ≡ (if is_row_of b rs at then Some tt else get index at)) where
    -- a new block
    pub index_added : (x : Block) → x.rows ≡ rows_from rs → IsIndexOf listed (set_at s b (Some x))
    index_added x rows = record { same = λ at. grind (arith, block_maps, rows, free, puts at, indexed.same at) }

    -- a new block that there was no room for
    pub index_back : (now : Pairs) → ((at : DiskBlk) → get now at ≡ (if is_row_of b rs at then None else get listed at)) → IsIndexOf now s
    index_back now takes = record { same = λ at. grind (arith, block_maps, free, puts at, takes at, indexed.same at) }

-- what holds of an `Err`, where the result is one
pub at_err : {T E P : Type 0} (r : Result T E) → is_err r ≡ true → OnErr r P → P
at_err (Ok x) e p = absurd (cc)
at_err (Err y) e p = p
