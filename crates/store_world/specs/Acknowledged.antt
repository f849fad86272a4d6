-- What a row of a file stands for: a block that is whole.
use Rattle.std.specs.Prelude.{◌≡◌, ℕ, true, List, length, Some}
use Rattle.std.specs.FinMap.{get, len}
use Rattle.tect_ids.specs.declared.ids.BlkId.{BlkId}
use Rattle.tect_ids.specs.declared.ids.DiskId.{DiskId}
use Rattle.tect_ids.specs.declared.values.BlockRow.{BlockRow}
use Rattle.store_rules.specs.declared.blocks.Block.{Block}
use Rattle.store_pasts.specs.Contents.{chunk_of}
use Rattle.store_pasts.specs.Ghosts.{World, Born}
use Rattle.store_pasts.specs.Pasts.{content}

-- it stands sealed and is that long, as its content is; it has as many rows as it was made with, and each is placed and has a chunk of that
-- content
pub record IsWholeBlock (w : World) (b : BlkId) (n : ℕ) : Type 0 where
  pub block : Block
  pub born : Born
  pub bytes : List ℕ
  pub there : get w.store.blocks b ≡ Some block
  pub was : w.ghost.born b ≡ Some born
  pub said : content w.ghost b ≡ Some bytes
  pub sealed : block.sealed ≡ true
  pub long : block.len ≡ n
  pub full : length bytes ≡ n
  pub count : len block.rows ≡ length born.rows
  pub stored : (d : DiskId) (r : BlockRow) → get block.rows d ≡ Some r
      → (r.placed ≡ true) × (get w.store.chunks (chunk_of b d r.tag) ≡ Some bytes)
