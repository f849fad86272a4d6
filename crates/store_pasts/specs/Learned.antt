-- What has to be known before requests of rows, blocks and chunks, and what their replies teach.
use Rattle.std.specs.Prelude.{◌≡◌, ◌≤◌, ℕ, true, if◌then◌else◌, List, length, All, Option, Some, None, is_some}
use Rattle.std.specs.List.{slice_get}
use Rattle.std.specs.FinMap.{get}
use Rattle.tect_ids.specs.declared.ids.BlkId.{BlkId}
use Rattle.tect_ids.specs.declared.ids.DiskId.{DiskId}
use Rattle.tect_ids.specs.declared.ids.FileId.{FileId}
use Rattle.tect_ids.specs.declared.ids.Hold.{Hold}
use Rattle.tect_ids.specs.declared.ids.Node.TheVariants.{File}
use Rattle.tect_ids.specs.declared.ids.Tag.{Tag}
use Rattle.tect_ids.specs.declared.key.ChunkKey.{ChunkKey}
use Rattle.tect_ids.specs.declared.values.Class.{Class}
use Rattle.tect_ids.specs.declared.values.Location.{Location}
use Rattle.tect_ids.specs.declared.values.NewRow.{NewRow}
use Rattle.tect_ids.specs.declared.values.Row.{Row}
use Rattle.tect_ids.specs.declared.values.RowPart.{RowPart}
use Rattle.store_rules.specs.declared.any.AnyReply.{AnyReply}
use Rattle.store_rules.specs.declared.file_rows.FileRow.{FileRow}
use Rattle.store_rules.specs.Files.{row_part}
use Rattle.store_rules.specs.Views.{is_made, is_granted, is_opened}
use Rattle.store_pasts.specs.Ghosts.{World}
use Rattle.store_pasts.specs.Contents.{tag_at, disk_at, Apart, bytes_length, born_length, born_tag}
use Rattle.store_pasts.specs.Contents.{block_sealed, sealed_length, is_unsealed, chunk_of}
use Rattle.store_pasts.specs.Pasts.{was_made, row_at, IsRowGranted, content, has_chunk}

-- ---- tokens and rows of files

-- TakeToken: what is opened was made
abbrev pub OpenedTaught : World → FileId → AnyReply → Type 0
OpenedTaught v f x = is_opened x ≡ true → was_made v.ghost (File f) ≡ true

-- Attach: the hold is the block's for that file and not bound yet, and the block is sealed and has that length
abbrev pub AttachNeeds : World → FileId → BlkId → ℕ → Hold → Type 0
AttachNeeds w f b n h = IsRowGranted w h b f × (sealed_length (get w.store.blocks b) ≡ Some n)

-- where it is refused the hold is still not bound, and else it is the row at that index
abbrev pub AttachTaught : World → FileId → BlkId → ℕ → Hold → Option ℕ → Type 0
AttachTaught v f b n h None = IsRowGranted v h b f
AttachTaught v f b n h (Some i) = row_at v.store f i ≡ Some record { blk = b; len = n; hold = h }

abbrev pub part_in : Option FileRow → Option RowPart
part_in None = None
part_in (Some r) = Some (row_part r)

-- what is listed are the file's rows in their order, and each one's block is sealed and as long as listed
pub record RowsTaught (v : World) (f : FileId) (parts : List RowPart) : Type 0 where
  pub row : (i : ℕ) → slice_get parts i ≡ part_in (row_at v.store f i)
  pub sealed : (i : ℕ) (p : RowPart) → slice_get parts i ≡ Some p → sealed_length (get v.store.blocks p.blk) ≡ Some p.len

abbrev pub ListedTaught : World → FileId → Option (List RowPart) → Type 0
ListedTaught v f None = Unit {0}
ListedTaught v f (Some parts) = RowsTaught v f parts

-- ---- blocks

-- MakeBlock: the block and its hold are new, the file was made, the block is as long as what the op's command appends, and it has rows,
-- which stand on different disks with different tags, the op's own and new
pub record NewBlockNeeds (w : World) (b : BlkId) (n : ℕ) (f : FileId) (h : Hold) (rs : List NewRow) : Type 0 where
  pub unborn : w.ghost.born b ≡ None
  pub new_hold : w.ghost.row_given h ≡ None
  pub file_made : was_made w.ghost (File f) ≡ true
  pub said : bytes_length (w.ghost.said h.op) ≡ Some n
  pub some : 1 ≤ length rs
  pub apart : Apart rs
  pub own : (t : Tag) → is_some (disk_at rs t) ≡ true → t.op ≡ h.op
  pub untagged : (t : Tag) → is_some (disk_at rs t) ≡ true → w.ghost.tagged t ≡ None

-- it is made, with its hold, its rows have their tags, no chunk stands under these yet, and it stands unsealed
pub record NewBlockTaught (v : World) (b : BlkId) (c : Class) (n : ℕ) (f : FileId) (h : Hold) (rs : List NewRow) (x : AnyReply) : Type 0
  where
    pub made : is_made x ≡ true
    pub born : v.ghost.born b ≡ Some record { maker = h.op; class = c; len = n; rows = rs }
    pub granted : IsRowGranted v h b f
    pub tagged : (d : DiskId) (t : Tag) → tag_at rs d ≡ Some t → v.ghost.tagged t ≡ Some record { blk = b; disk = d }
    pub no_chunk : (d : DiskId) (t : Tag) → tag_at rs d ≡ Some t → get v.store.chunks (chunk_of b d t) ≡ None
    pub unsealed : is_unsealed (get v.store.blocks b) ≡ true

-- SealBlock: the block was made, and the chunk of each of its rows stands
pub record SealNeeds (w : World) (b : BlkId) : Type 0 where
  pub born : is_some (w.ghost.born b) ≡ true
  pub stored : (d : DiskId) (t : Tag) → born_tag (w.ghost.born b) d ≡ Some t → has_chunk w.store b d t ≡ true

-- whatever the reply, it is sealed, as long as it was made
abbrev pub SealTaught : World → BlkId → Type 0
SealTaught v b = sealed_length (get v.store.blocks b) ≡ born_length (v.ghost.born b)

-- a row is placed, and its chunk stands with the block's content
abbrev pub IsStored : World → BlkId → Row → Type 0
IsStored v b r =
    (r.placed ≡ true) × (has_chunk v.store b r.disk r.tag ≡ true) × (get v.store.chunks (chunk_of b r.disk r.tag) ≡ content v.ghost b)

-- a block is sealed and as long as its location says, it has rows, and once it is sealed each of them is stored
pub record LocationTaught (v : World) (b : BlkId) (x : Location) : Type 0 where
  pub sealed : sealed_length (get v.store.blocks b) ≡ (if x.sealed then Some x.len else None)
  pub some : 1 ≤ length x.rows
  pub stored : x.sealed ≡ true → All (IsStored v b) x.rows

-- where it has no location, no block stands
abbrev pub BlockTaught : World → BlkId → Option Location → Type 0
BlockTaught v b None = get v.store.blocks b ≡ None
BlockTaught v b (Some x) = LocationTaught v b x

-- Grant: the hold is new, and the file was made
abbrev pub RowGrantNeeds : World → Hold → FileId → Type 0
RowGrantNeeds w h f = (w.ghost.row_given h ≡ None) × (was_made w.ghost (File f) ≡ true)

-- where the reply says so a hold is granted, and the block is sealed
abbrev pub RowGrantTaught : World → BlkId → Hold → FileId → AnyReply → Type 0
RowGrantTaught v b h f x = is_granted x ≡ true → IsRowGranted v h b f × (block_sealed (get v.store.blocks b) ≡ true)

-- ---- chunks

-- Put: the tag is of the block's row at that disk, and the bytes are the block's content
abbrev pub PutNeeds : World → ChunkKey → List ℕ → Type 0
PutNeeds w c bytes = (w.ghost.tagged c.tag ≡ Some record { blk = c.blk; disk = c.disk }) × (content w.ghost c.blk ≡ Some bytes)

-- whatever the reply, the chunk stands with these bytes
abbrev pub PutTaught : World → ChunkKey → List ℕ → Type 0
PutTaught v c bytes = get v.store.chunks c ≡ Some bytes

-- what is got is the chunk, and it has the block's content
abbrev pub GotTaught : World → ChunkKey → Option (List ℕ) → Type 0
GotTaught v c None = get v.store.chunks c ≡ None
GotTaught v c (Some bytes) = (get v.store.chunks c ≡ Some bytes) × (content v.ghost c.blk ≡ Some bytes)
