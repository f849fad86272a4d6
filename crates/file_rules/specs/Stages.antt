-- How far an append, or a read, has come.
use Rattle.std.specs.Prelude.{ℕ, List}
use Rattle.tect_ids.specs.declared.key.ChunkKey.{ChunkKey}
use Rattle.tect_ids.specs.declared.values.RowPart.{RowPart}
use Rattle.tect_calls.specs.MadeBlocks.{NewBlock}

-- a block whose chunks are put: those of so many rows, from the first on, are stored, and this one is next
pub record Putting : Type 0 where
  pub made : NewBlock
  pub at : ℕ
  pub chunk : ChunkKey

-- a file's list of blocks, which of them is read now, and the bytes of those before it
pub record Reading : Type 0 where
  pub parts : List RowPart
  pub at : ℕ
  pub bytes : List ℕ

-- the chunks of a block's rows, how many of them were asked for in vain, and the one that is asked for now
pub record Fetching : Type 0 where
  pub chunks : List ChunkKey
  pub tried : ℕ
  pub chunk : ChunkKey
