-- The hold of an append is at the block that it made: at the start, and at each reply.
use Rattle.std.proofs.Common.{◌≡◌, ◌+◌, ℕ, Bool, true, false, List, Option, Some, None, refl}
use Rattle.std.specs.Prelude.{nat_lt, if◌then◌else◌}
use Rattle.std.specs.FinMap.{get}
use Rattle.std.specs.List.{slice_get}
use Rattle.tect_ids.specs.declared.ids.Counts.{Counts}
use Rattle.tect_ids.specs.declared.ids.FileId.{FileId}
use Rattle.tect_ids.specs.declared.ids.OpId.{OpId}
use Rattle.tect_ids.specs.declared.ids.Place.{Place}
use Rattle.tect_ids.specs.declared.key.ChunkKey.{ChunkKey}
use Rattle.tect_ids.specs.declared.values.NewRow.{NewRow}
use Rattle.tect_ids.specs.declared.answer.Answer.{Answer}
use Rattle.tect_ids.specs.declared.answer.Answer.TheVariants as answers
use Rattle.tect_ids.specs.Numbers.{own_hold}
use Rattle.store_rules.specs.declared.any.AnyReply.{AnyReply}
use Rattle.store_rules.specs.Views.{is_made, is_stored, is_block_sealed, as_attached}
use Rattle.tect_calls.specs.MadeBlocks.{NewBlock, chunks_of}
use Rattle.tect_calls.specs.Readings.{given_if, new_block}
use Rattle.program_forms.specs.Memories.{Memory, OpenedFile}
use Rattle.program_parts.specs.declared.next.Next.TheVariants.{Goes, Comes}
use Rattle.file_rules.specs.declared.states.Append.{Append}
use Rattle.file_rules.specs.declared.states.Append.TheVariants.{Make, Put, Seal, Attach, Release}
use Rattle.file_rules.specs.declared.states.Appending.{Appending}
use Rattle.file_rules.specs.Append.{append_begins, append_starts, put_next, block_made, is_lost, not_stored, put, sealed, attached, append_hears}
use Rattle.file_rules.specs.Placing.{copies_of, spread_of, new_rows}
use Rattle.file_rules.specs.Stages.{Putting}
use Rattle.op_files.specs.OneBlock.{IsOfOneBlock, GoesOnSo}

few_or_begins : (answer : Answer) (s : Append) (few : Bool) → IsOfOneBlock s → GoesOnSo (if few then Comes answer else Goes s)
few_or_begins answer s true so = tt
few_or_begins answer s false so = so

begins : (c : Counts) (bytes : List ℕ) (o : Option OpenedFile) → GoesOnSo (append_begins c bytes o)
begins c bytes None = tt
begins c bytes (Some o) =
    few_or_begins (answers.FewDisks c.disks (copies_of c)) (Make o.file o.token bytes (spread_of c)) (nat_lt c.disks (copies_of c)) tt

pub begins_of_one_block : (c : Counts) (m : Memory) (path : List (List ℕ)) (bytes : List ℕ) → GoesOnSo (append_starts c m path bytes)
begins_of_one_block c m path bytes = begins c bytes (get m.opened path)

put_so : (a : Appending) (made : NewBlock) (at : ℕ) → (a.hold).blk ≡ made.blk → (o : Option ChunkKey) → IsOfOneBlock (put_next a made at o)
put_so a made at so None = so
put_so a made at so (Some c) = so

module _ (place : Place) (op : OpId) (number : ℕ) (x : AnyReply) where
  make_so : (f : FileId) (token : OpId) (bytes : List ℕ) (rows : List NewRow) (b : Bool)
      → GoesOnSo (block_made place token bytes (given_if (new_block record { 0 = number } f (own_hold op) rows) b))
  make_so f token bytes rows false = tt
  make_so f token bytes rows true =
      let made : NewBlock = record { blk = record { 0 = number }; rows = rows } in
      put_so record { token = token; bytes = bytes; hold = record { blk = record { 0 = number }; hold = own_hold op; file = f } } made 0 refl
      (slice_get (chunks_of made) 0)

  not_stored_so : (a : Appending) (c : ChunkKey) (b : Bool) → GoesOnSo (not_stored place a c b)
  not_stored_so a c true = tt
  not_stored_so a c false = tt

  stored_so : (a : Appending) (p : Putting) → (a.hold).blk ≡ (p.made).blk → (b : Bool) → GoesOnSo (put place a p x b)
  stored_so a p so true = put_so a p.made (p.at + 1) so (slice_get (chunks_of p.made) (p.at + 1))
  stored_so a p so false = not_stored_so a p.chunk (is_lost x)

  sealed_so : (a : Appending) (made : NewBlock) → (a.hold).blk ≡ made.blk → (b : Bool) → GoesOnSo (sealed place a made b)
  sealed_so a made so true = so
  sealed_so a made so false = tt

  attached_so : (a : Appending) (o : Option ℕ) → GoesOnSo (attached place a x o)
  attached_so a None = tt
  attached_so a (Some i) = tt

  pub stays_of_one_block : (s : Append) → IsOfOneBlock s → GoesOnSo (append_hears place op number s x)
  stays_of_one_block (Make f token bytes p) so = make_so f token bytes (new_rows p op number) (is_made x)
  stays_of_one_block (Put a p) so = stored_so a p so (is_stored x)
  stays_of_one_block (Seal a made) so = sealed_so a made so (is_block_sealed x)
  stays_of_one_block (Attach a b) so = attached_so a (as_attached x)
  stays_of_one_block (Release b h answer) so = tt
