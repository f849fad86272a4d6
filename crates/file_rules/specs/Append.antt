-- Adds a block to a file that the actor opened: it is made with a hold for a row of the file, its bytes are put on its disks, it is sealed,
-- and attached by the token that the open wrote. Where the attach is refused, or a disk is lost, the hold is released.
use Rattle.std.specs.Prelude.{ℕ, ◌+◌, Bool, true, false, if◌then◌else◌, nat_lt, Option, Some, None, List, length}
use Rattle.std.specs.List.{slice_get}
use Rattle.std.specs.FinMap.{get}
use Rattle.tect_ids.specs.declared.ids.Counts.{Counts}
use Rattle.tect_ids.specs.declared.ids.OpId.{OpId}
use Rattle.tect_ids.specs.declared.ids.Place.{Place}
use Rattle.tect_ids.specs.declared.key.ChunkKey.{ChunkKey}
use Rattle.tect_ids.specs.declared.values.Class.TheVariants.{Copies}
use Rattle.tect_ids.specs.declared.answer.Answer.{Answer}
use Rattle.tect_ids.specs.declared.answer.Answer.TheVariants as answers
use Rattle.tect_ids.specs.Numbers.{object_number, own_hold}
use Rattle.store_rules.specs.declared.files.FileReq.TheVariants as files
use Rattle.store_rules.specs.declared.blocks.BlockReq.TheVariants as blocks
use Rattle.store_rules.specs.declared.disks.DiskReq.TheVariants as disks
use Rattle.store_rules.specs.declared.disks.DiskReply.TheVariants as disk_replies
use Rattle.store_rules.specs.declared.any.AnyReq.{AnyReq}
use Rattle.store_rules.specs.declared.any.AnyReq.TheVariants as any
use Rattle.store_rules.specs.declared.any.AnyReply.{AnyReply}
use Rattle.store_rules.specs.declared.any.AnyReply.TheVariants.{Disk}
use Rattle.store_rules.specs.Holds.{RowGrant}
use Rattle.store_rules.specs.Places.{request_place}
use Rattle.store_rules.specs.Views.{is_made, is_stored, is_block_sealed, as_attached}
use Rattle.tect_calls.specs.MadeBlocks.{NewBlock, chunks_of}
use Rattle.tect_calls.specs.Readings.{given_if, new_block}
use Rattle.program_forms.specs.Memories.{Memory, OpenedFile}
use Rattle.program_parts.specs.declared.next.Next.{Next}
use Rattle.program_parts.specs.declared.next.Next.TheVariants.{Goes, Comes}
use Rattle.program_parts.specs.Parts.{Part, looks_nothing, learns_nothing}
use Rattle.file_rules.specs.declared.states.Appending.{Appending}
use Rattle.file_rules.specs.declared.states.Append.{Append}
use Rattle.file_rules.specs.declared.states.Append.TheVariants.{Make, Put, Seal, Attach, Release}
use Rattle.file_rules.specs.Finds.{file_refusal}
use Rattle.file_rules.specs.Placing.{Spread, copies_of, spread_of, new_rows}
use Rattle.file_rules.specs.Stages.{Putting}

-- ---- how it begins

-- the file has to be open, and there have to be disks for all copies
abbrev pub append_begins : Counts → List ℕ → Option OpenedFile → Next Append Answer
append_begins c bytes None = Comes answers.NotOpen
append_begins c bytes (Some o) =
    if nat_lt c.disks (copies_of c) then Comes (answers.FewDisks c.disks (copies_of c)) else Goes (Make o.file o.token bytes (spread_of c))

-- by what its actor opened at the path
abbrev pub append_starts : Counts → Memory → List (List ℕ) → List ℕ → Next Append Answer
append_starts c m path bytes = append_begins c bytes (get m.opened path)

-- ---- what it asks

abbrev pub append_asks : OpId → ℕ → Append → AnyReq
append_asks op number (Make f token bytes p) =
    any.Block (blocks.MakeBlock record { 0 = number } Copies (length bytes) f (own_hold op) (new_rows p op number))
append_asks op number (Put a p) = any.Disk (disks.Put p.chunk a.bytes)
append_asks op number (Seal a made) = any.Block (blocks.SealBlock made.blk)
append_asks op number (Attach a b) = any.File (files.Attach (a.hold).file a.token b (length a.bytes) (a.hold).hold)
append_asks op number (Release b h answer) = any.Block (blocks.Release b h)

-- ---- how it goes on

-- the chunk of the first row that is not stored yet, or the seal where all are
abbrev pub put_next : Appending → NewBlock → ℕ → Option ChunkKey → Append
put_next a made at None = Seal a made
put_next a made at (Some c) = Put a record { made = made; at = at; chunk = c }

abbrev pub put_on : Appending → NewBlock → ℕ → Append
put_on a made at = put_next a made at (slice_get (chunks_of made) at)

abbrev pub block_made : Place → OpId → List ℕ → Option (NewBlock × RowGrant) → Next Append Answer
block_made place token bytes None = Comes (answers.Odd place)
block_made place token bytes (Some p) = Goes (put_on record { token = token; bytes = bytes; hold = p.1 } p.0 0)

-- its own hold is given up
abbrev pub gives_up : RowGrant → Answer → Next Append Answer
gives_up hold answer = Goes (Release hold.blk hold.hold answer)

abbrev pub is_lost : AnyReply → Bool
is_lost (Disk disk_replies.Lost) = true
is_lost _ = false

-- a chunk that is not stored: its disk is lost, or else it is odd
abbrev pub not_stored : Place → Appending → ChunkKey → Bool → Next Append Answer
not_stored place a c true = gives_up a.hold (answers.DiskLost c.disk)
not_stored place a c false = Comes (answers.Odd place)

abbrev pub put : Place → Appending → Putting → AnyReply → Bool → Next Append Answer
put place a p x true = Goes (put_on a p.made (p.at + 1))
put place a p x false = not_stored place a p.chunk (is_lost x)

abbrev pub sealed : Place → Appending → NewBlock → Bool → Next Append Answer
sealed place a made true = Goes (Attach a made.blk)
sealed place a made false = Comes (answers.Odd place)

abbrev pub attached : Place → Appending → AnyReply → Option ℕ → Next Append Answer
attached place a x None = gives_up a.hold (file_refusal place (a.hold).file x)
attached place a x (Some i) = Comes (answers.Appended (a.hold).blk i)

abbrev pub append_hears : Place → OpId → ℕ → Append → AnyReply → Next Append Answer
append_hears place op number (Make f token bytes p) x =
    block_made place token bytes (given_if (new_block record { 0 = number } f (own_hold op) (new_rows p op number)) (is_made x))
append_hears place op number (Put a p) x = put place a p x (is_stored x)
append_hears place op number (Seal a made) x = sealed place a made (is_block_sealed x)
append_hears place op number (Attach a b) x = attached place a x (as_attached x)
append_hears place op number (Release b h answer) x = Comes answer

abbrev pub append : Part Append Answer
append = record {
  turns = looks_nothing;
  asks = λ c m op s. append_asks op (object_number op.actor m.serial) s;
  hears = λ c m op s q x. append_hears (request_place c q) op (object_number op.actor m.serial) s x;
  learns = learns_nothing;
}

-- its answer, once it can't change any more; what the command has not bound by then it will not bind
abbrev pub append_decided : Append → Option Answer
append_decided (Make f token bytes p) = None
append_decided (Put a p) = None
append_decided (Seal a made) = None
append_decided (Attach a b) = None
append_decided (Release b h answer) = Some answer
