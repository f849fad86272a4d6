-- A block with the rows that it was made with.
use Rattle.std.specs.Prelude.{List, map}
use Rattle.tect_ids.specs.declared.ids.BlkId.{BlkId}
use Rattle.tect_ids.specs.declared.key.ChunkKey.{ChunkKey}
use Rattle.tect_ids.specs.declared.values.NewRow.{NewRow}

pub record NewBlock : Type 0 where
  pub blk : BlkId
  pub rows : List NewRow

-- the chunk of a row
abbrev pub chunk_of : BlkId → NewRow → ChunkKey
chunk_of b r = record { disk = r.disk; blk = b; tag = r.tag }

abbrev pub chunks_of : NewBlock → List ChunkKey
chunks_of b = map (chunk_of b.blk) b.rows
