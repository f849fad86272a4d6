-- What each command on the contents of files knows in its states, and when its answer is decided.
use Rattle.std.specs.Prelude.{◌≡◌, ℕ, ◌<◌, ◌≤◌, Bool, true, false, List, length, Some, None, is_some}
use Rattle.std.specs.List.{slice_get}
use Rattle.std.specs.FinMap.{get}
use Rattle.tect_ids.specs.declared.ids.BlkId.{BlkId}
use Rattle.tect_ids.specs.declared.ids.DiskId.{DiskId}
use Rattle.tect_ids.specs.declared.ids.FileId.{FileId}
use Rattle.tect_ids.specs.declared.ids.Hold.{Hold}
use Rattle.tect_ids.specs.declared.ids.Node.TheVariants.{File}
use Rattle.tect_ids.specs.declared.ids.OpId.{OpId}
use Rattle.tect_ids.specs.declared.ids.Tag.{Tag}
use Rattle.tect_ids.specs.declared.key.ChunkKey.{ChunkKey}
use Rattle.tect_ids.specs.declared.values.Class.TheVariants.{Copies}
use Rattle.tect_ids.specs.declared.values.RowPart.{RowPart}
use Rattle.tect_ids.specs.declared.answer.Answer.{Answer}
use Rattle.store_rules.specs.Holds.{RowGrant}
use Rattle.tect_calls.specs.MadeBlocks.{NewBlock, chunks_of}
use Rattle.program_forms.specs.Memories.{Memory}
use Rattle.file_rules.specs.declared.states.Open.{Open}
use Rattle.file_rules.specs.declared.states.Blocks.{Blocks}
use Rattle.file_rules.specs.declared.states.Appending.{Appending}
use Rattle.file_rules.specs.declared.states.Append.{Append}
use Rattle.file_rules.specs.declared.states.Append.TheVariants.{Make, Put, Seal, Attach, Release}
use Rattle.file_rules.specs.declared.states.Read.{Read}
use Rattle.file_rules.specs.declared.states.Read.TheVariants as reading
use Rattle.file_rules.specs.Placing.{Spread}
use Rattle.file_rules.specs.Stages.{Putting, Reading, Fetching}
use Rattle.file_rules.specs.Open.{open_decided}
use Rattle.file_rules.specs.Blocks.{blocks_decided}
use Rattle.file_rules.specs.Append.{append_decided}
use Rattle.file_rules.specs.Read.{read_decided}
use Rattle.store_pasts.specs.Contents.{tag_at, disk_at, Apart, sealed_length, is_unsealed}
use Rattle.store_pasts.specs.Worlds.{World}
use Rattle.store_pasts.specs.Pasts.{was_made, is_row_spent, IsRowGranted}
use Rattle.store_pasts.specs.Later.{maker_of}
use Rattle.program_laws.specs.Known.{Deciding, Known, IsNewOp, is_odd}

-- ---- an open, and a list of blocks: their ops have no hold

abbrev pub open_known : Known Open Answer
open_known = record { Knows = λ w op m s. IsNewOp w op; Ends = λ w a. is_odd a ≡ false }

abbrev pub open_deciding : Deciding Open Answer
open_deciding = record { decided = open_decided }

abbrev pub blocks_known : Known Blocks Answer
blocks_known = record { Knows = λ w op m s. IsNewOp w op; Ends = λ w a. is_odd a ≡ false }

abbrev pub blocks_deciding : Deciding Blocks Answer
blocks_deciding = record { decided = blocks_decided }

-- ---- an append

-- the file was made, the op has said the bytes and has nothing yet, a serial is left for the block, and there are disks for all its copies
pub record MakeKnows (w : World) (op : OpId) (m : Memory) (f : FileId) (bytes : List ℕ) (p : Spread) : Type 0 where
  pub made : was_made w.ghost (File f) ≡ true
  pub said : w.ghost.said op ≡ Some bytes
  pub new : IsNewOp w op
  pub left : m.serial ≤ op.number
  pub some : 1 ≤ p.copies
  pub enough : p.copies ≤ p.disks

-- the hold is the op's own, granted for a row and not bound yet, and the op has none for an entry
pub record HasRowHold (w : World) (op : OpId) (g : RowGrant) : Type 0 where
  pub own : (g.hold).op ≡ op
  pub none : (h : Hold) → h.op ≡ op → w.ghost.given h ≡ None
  pub granted : IsRowGranted w g.hold g.blk g.file

-- the block was made by the op, of what it said, with rows that have its tags; it stands unsealed
pub record HasMade (w : World) (op : OpId) (a : Appending) (made : NewBlock) : Type 0 where
  pub hold : HasRowHold w op a.hold
  pub same : made.blk ≡ (a.hold).blk
  pub mine : maker_of made.blk ≡ op.actor
  pub born : w.ghost.born made.blk ≡ Some record { maker = op; class = Copies; len = length a.bytes; rows = made.rows }
  pub said : w.ghost.said op ≡ Some a.bytes
  pub apart : Apart made.rows
  pub own : (t : Tag) → is_some (disk_at made.rows t) ≡ true → t.op ≡ op
  pub tagged : (d : DiskId) (t : Tag) → tag_at made.rows d ≡ Some t → w.ghost.tagged t ≡ Some record { blk = made.blk; disk = d }
  pub unsealed : is_unsealed (get w.store.blocks made.blk) ≡ true

-- the chunks of so many rows, from the first on, stand with the bytes, and those of the others don't stand
pub record HasPut (w : World) (op : OpId) (a : Appending) (made : NewBlock) (at : ℕ) : Type 0 where
  pub block : HasMade w op a made
  pub stored : (i : ℕ) (c : ChunkKey) → i < at → slice_get (chunks_of made) i ≡ Some c → get w.store.chunks c ≡ Some a.bytes
  pub free : (i : ℕ) (c : ChunkKey) → at ≤ i → slice_get (chunks_of made) i ≡ Some c → get w.store.chunks c ≡ None

-- and the next one is that of the next row
pub record PutKnows (w : World) (op : OpId) (a : Appending) (p : Putting) : Type 0 where
  pub puts : HasPut w op a p.made p.at
  pub next : slice_get (chunks_of p.made) p.at ≡ Some p.chunk

-- the chunks of all rows stand
pub record SealKnows (w : World) (op : OpId) (a : Appending) (made : NewBlock) : Type 0 where
  pub block : HasMade w op a made
  pub stored : (i : ℕ) (c : ChunkKey) → slice_get (chunks_of made) i ≡ Some c → get w.store.chunks c ≡ Some a.bytes

-- the block of the hold is sealed, as long as the bytes
pub record AttachKnows (w : World) (op : OpId) (a : Appending) (b : BlkId) : Type 0 where
  pub hold : HasRowHold w op a.hold
  pub same : b ≡ (a.hold).blk
  pub sealed : sealed_length (get w.store.blocks b) ≡ Some (length a.bytes)

-- the hold can't be bound any more
pub record RowReleaseKnows (w : World) (h : Hold) (a : Answer) : Type 0 where
  pub spent : is_row_spent w h ≡ true
  pub plain : is_odd a ≡ false

abbrev pub AppendKnows : World → OpId → Memory → Append → Type 0
AppendKnows w op m (Make f token bytes p) = MakeKnows w op m f bytes p
AppendKnows w op m (Put a p) = PutKnows w op a p
AppendKnows w op m (Seal a made) = SealKnows w op a made
AppendKnows w op m (Attach a b) = AttachKnows w op a b
AppendKnows w op m (Release b h answer) = RowReleaseKnows w h answer

abbrev pub append_known : Known Append Answer
append_known = record { Knows = AppendKnows; Ends = λ w a. is_odd a ≡ false }

abbrev pub append_deciding : Deciding Append Answer
append_deciding = record { decided = append_decided }

-- ---- a read

-- the block is sealed
abbrev pub is_sealed : World → BlkId → Bool
is_sealed w b = is_some (sealed_length (get w.store.blocks b))

-- the op has no hold, and the blocks that are read are sealed
pub record ReadsSealed (w : World) (op : OpId) (r : Reading) : Type 0 where
  pub new : IsNewOp w op
  pub parts : (i : ℕ) (p : RowPart) → slice_get r.parts i ≡ Some p → is_sealed w p.blk ≡ true

pub record LocateKnows (w : World) (op : OpId) (r : Reading) (b : BlkId) : Type 0 where
  pub reads : ReadsSealed w op r
  pub sealed : is_sealed w b ≡ true

-- the chunk that is asked for stands
pub record FetchKnows (w : World) (op : OpId) (r : Reading) (t : Fetching) : Type 0 where
  pub reads : ReadsSealed w op r
  pub stands : is_some (get w.store.chunks t.chunk) ≡ true

abbrev pub ReadKnows : World → OpId → Memory → Read → Type 0
ReadKnows w op m (reading.Find k) = IsNewOp w op
ReadKnows w op m (reading.List f) = IsNewOp w op
ReadKnows w op m (reading.Locate r b) = LocateKnows w op r b
ReadKnows w op m (reading.Fetch r t) = FetchKnows w op r t

abbrev pub read_known : Known Read Answer
read_known = record { Knows = ReadKnows; Ends = λ w a. is_odd a ≡ false }

abbrev pub read_deciding : Deciding Read Answer
read_deciding = record { decided = read_decided }
