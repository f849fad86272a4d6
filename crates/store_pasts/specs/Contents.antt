-- The past of what files consist of: the holds of their rows, what each block was made as, and the row that each tag is of.
use Rattle.std.specs.Prelude.{◌≡◌, ℕ, Bool, true, false, not, if◌then◌else◌, List, [], ◌∷◌, length, Option, Some, None}
use Rattle.std.specs.List.{slice_get}
use Rattle.tect_ids.specs.declared.ids.BlkId.{BlkId}
use Rattle.tect_ids.specs.declared.ids.DiskId.{DiskId}
use Rattle.tect_ids.specs.declared.ids.FileId.{FileId}
use Rattle.tect_ids.specs.declared.ids.OpId.{OpId}
use Rattle.tect_ids.specs.declared.ids.Tag.{Tag}
use Rattle.tect_ids.specs.declared.key.ChunkKey.{ChunkKey}
use Rattle.tect_ids.specs.declared.key.Upper.{Upper}
use Rattle.tect_ids.specs.declared.key.Upper.TheVariants as uppers
use Rattle.tect_ids.specs.declared.values.Class.{Class}
use Rattle.tect_ids.specs.declared.values.NewRow.{NewRow}
use Rattle.tect_ids.specs.Keys.{disk_eq, tag_eq}
use Rattle.store_rules.specs.declared.blocks.Block.{Block}
use Rattle.store_rules.specs.declared.file_rows.FileRow.{FileRow}
use Rattle.store_rules.specs.declared.files.File.{File}

-- ---- what is kept of the past

-- how far the hold of a file's row has come: granted and not bound yet, bound at an index, or given up
pub data RowPhase : Type 0 where
  RowLive : RowPhase
  RowSet : ℕ → RowPhase
  RowPast : RowPhase

-- a hold that was granted for a row: the block that lists it, the file whose row it is for, and how far it has come
pub record RowGiven : Type 0 where
  pub blk : BlkId
  pub file : FileId
  pub phase : RowPhase

-- what a block was made as: by which op, how its bytes lie on its disks, of how many bytes, and with which rows
pub record Born : Type 0 where
  pub maker : OpId
  pub class : Class
  pub len : ℕ
  pub rows : List NewRow

-- the row that a tag is of
pub record TagHome : Type 0 where
  pub blk : BlkId
  pub disk : DiskId

-- ---- the rows that a block is made with

-- the tag of the row at that disk
unfoldable pub tag_at : List NewRow → DiskId → Option Tag
tag_at [] d = None
tag_at (r ∷ rs) d = if disk_eq d r.disk then Some r.tag else tag_at rs d

-- the disk of the row with that tag
unfoldable pub disk_at : List NewRow → Tag → Option DiskId
disk_at [] t = None
disk_at (r ∷ rs) t = if tag_eq t r.tag then Some r.disk else disk_at rs t

-- no disk stands there twice, and no tag
unfoldable pub Apart : List NewRow → Type 0
Apart [] = Unit {0}
Apart (r ∷ rs) = (tag_at rs r.disk ≡ None) × (disk_at rs r.tag ≡ None) × Apart rs

-- ---- how a hold of a row stands

-- what a hold holds, and what it was granted for
abbrev pub row_leads : Option RowGiven → Option (BlkId × Upper)
row_leads None = None
row_leads (Some g) = Some (g.blk, uppers.Row g.file)

abbrev pub row_phase_spent : RowPhase → Bool
row_phase_spent RowLive = false
row_phase_spent (RowSet i) = false
row_phase_spent RowPast = true

-- whether it is not bound and never will be
abbrev pub row_given_spent : Option RowGiven → Bool
row_given_spent None = false
row_given_spent (Some g) = row_phase_spent g.phase

-- ---- what a block was born with

-- its length, and how its bytes lie on its disks
abbrev pub born_shape : Option Born → Option (Class × ℕ)
born_shape None = None
born_shape (Some m) = Some (m.class, m.len)

abbrev pub born_length : Option Born → Option ℕ
born_length None = None
born_length (Some m) = Some m.len

-- how many rows it had
abbrev pub born_count : Option Born → Option ℕ
born_count None = None
born_count (Some m) = Some (length m.rows)

-- the tag of its row at that disk
abbrev pub born_tag : Option Born → DiskId → Option Tag
born_tag None d = None
born_tag (Some m) d = tag_at m.rows d

-- its content: the bytes that its maker's command appends
abbrev pub born_content : (OpId → Option (List ℕ)) → Option Born → Option (List ℕ)
born_content said None = None
born_content said (Some m) = said m.maker

-- how many bytes these are
abbrev pub bytes_length : Option (List ℕ) → Option ℕ
bytes_length None = None
bytes_length (Some bytes) = Some (length bytes)

-- ---- what is read of files and blocks

-- the row of a file at an index
abbrev pub row_in : Option File → ℕ → Option FileRow
row_in None i = None
row_in (Some f) i = slice_get f.rows i

-- how many rows a file has
abbrev pub rows_in : Option File → ℕ
rows_in None = 0
rows_in (Some f) = length f.rows

abbrev pub block_sealed : Option Block → Bool
block_sealed None = false
block_sealed (Some x) = x.sealed

-- the length of a block that is sealed
abbrev pub sealed_length : Option Block → Option ℕ
sealed_length None = None
sealed_length (Some x) = if x.sealed then Some x.len else None

-- whether it stands unsealed
abbrev pub is_unsealed : Option Block → Bool
is_unsealed None = false
is_unsealed (Some x) = not x.sealed

-- where the chunk of a block's row stands, by the disk and the tag of the row
abbrev pub chunk_of : BlkId → DiskId → Tag → ChunkKey
chunk_of b d t = record { disk = d; blk = b; tag = t }
