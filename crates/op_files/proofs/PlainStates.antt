-- No command on the contents of files comes to an answer that is a want of memory or of room.
use Rattle.std.proofs.Common.{ℕ, ◌+◌, Bool, true, false, List, [], ◌++◌, Option, Some, None}
use Rattle.std.specs.Prelude.{nat_lt, if◌then◌else◌}
use Rattle.std.specs.FinMap.{get}
use Rattle.std.specs.List.{slice_get}
use Rattle.tect_ids.specs.declared.ids.BlkId.{BlkId}
use Rattle.tect_ids.specs.declared.ids.Counts.{Counts}
use Rattle.tect_ids.specs.declared.ids.FileId.{FileId}
use Rattle.tect_ids.specs.declared.ids.Node.{Node}
use Rattle.tect_ids.specs.declared.ids.Node.TheVariants as nodes
use Rattle.tect_ids.specs.declared.ids.OpId.{OpId}
use Rattle.tect_ids.specs.declared.ids.Place.{Place}
use Rattle.tect_ids.specs.declared.key.ChunkKey.{ChunkKey}
use Rattle.tect_ids.specs.declared.key.Key.{Key}
use Rattle.tect_ids.specs.declared.values.Location.{Location}
use Rattle.tect_ids.specs.declared.values.Refusal.{Refusal}
use Rattle.tect_ids.specs.declared.values.Refusal.TheVariants.{NoDir, NoName, NoFile, Exists, IsDir, Sealed, Full, Changed, TokenChanged}
use Rattle.tect_ids.specs.declared.values.RowPart.{RowPart}
use Rattle.tect_ids.specs.declared.answer.Answer.{Answer}
use Rattle.tect_ids.specs.declared.answer.Answer.TheVariants as answers
use Rattle.tect_ids.specs.Numbers.{own_hold}
use Rattle.tect_ids.specs.Refusals.{refusal_answer}
use Rattle.store_rules.specs.declared.names.NameReply.TheVariants as names
use Rattle.store_rules.specs.declared.files.FileReply.TheVariants as files
use Rattle.store_rules.specs.declared.any.AnyReply.{AnyReply}
use Rattle.store_rules.specs.declared.any.AnyReply.TheVariants as any
use Rattle.store_rules.specs.Holds.{RowGrant}
use Rattle.store_rules.specs.Views.{as_found, is_made, is_opened, is_stored, is_block_sealed, as_attached, as_block_list, as_location, as_bytes}
use Rattle.tect_calls.specs.MadeBlocks.{NewBlock, chunks_of}
use Rattle.tect_calls.specs.Readings.{given_if, new_block}
use Rattle.program_forms.specs.Lacks.{IsLack}
use Rattle.program_forms.specs.Memories.{Memory, OpenedFile}
use Rattle.program_parts.specs.declared.next.Next.TheVariants.{Goes, Comes}
use Rattle.program_parts.specs.Refused.{refusal}
use Rattle.file_rules.specs.declared.states.Open.{Open}
use Rattle.file_rules.specs.declared.states.Open.TheVariants as opening
use Rattle.file_rules.specs.declared.states.Append.{Append}
use Rattle.file_rules.specs.declared.states.Append.TheVariants.{Make, Put, Seal, Attach, Release}
use Rattle.file_rules.specs.declared.states.Appending.{Appending}
use Rattle.file_rules.specs.declared.states.Blocks.{Blocks}
use Rattle.file_rules.specs.declared.states.Blocks.TheVariants as listing
use Rattle.file_rules.specs.declared.states.Read.{Read}
use Rattle.file_rules.specs.declared.states.Read.TheVariants as reading
use Rattle.file_rules.specs.Append.{append_begins, append_starts, put_next, block_made, is_lost, not_stored, put, sealed, attached, append_hears}
use Rattle.file_rules.specs.Blocks.{listed, blocks_hears}
use Rattle.file_rules.specs.Finds.{found_file, file_answer, file_refusal}
use Rattle.file_rules.specs.Open.{taken, open_hears}
use Rattle.file_rules.specs.Placing.{copies_of, spread_of, new_rows}
use Rattle.file_rules.specs.Read.{located, read_on, begins_reading, placed_chunks, fetched, fetch_on, begins_fetching, got, read_hears}
use Rattle.file_rules.specs.Stages.{Putting, Reading, Fetching}
use Rattle.op_files.specs.Plain.{IsPlainNext, IsPlainOpen, IsPlainAppend, IsPlainBlocks, IsPlainRead}

-- ---- refusals

plain_refusal : (k : Key) (why : Refusal) → ¬ IsLack (refusal_answer k why)
plain_refusal k NoDir l = l
plain_refusal k NoName l = l
plain_refusal k NoFile l = l
plain_refusal k Exists l = l
plain_refusal k IsDir l = l
plain_refusal k Sealed l = l
plain_refusal k Full l = l
plain_refusal k (Changed now) l = l
plain_refusal k (TokenChanged None) l = l
plain_refusal k (TokenChanged (Some now)) l = l

pub plain_refused : (place : Place) (k : Key) (x : AnyReply) → ¬ IsLack (refusal place k x)
plain_refused place k (any.Name (names.Refused why)) = plain_refusal k why
plain_refused place k (any.File (files.Refused why)) = plain_refusal k why
plain_refused place k _ = λ l. l

plain_file_answer : (place : Place) (f : FileId) (why : Refusal) → ¬ IsLack (file_answer place f why)
plain_file_answer place f NoFile l = l
plain_file_answer place f Sealed l = l
plain_file_answer place f Full l = l
plain_file_answer place f (TokenChanged None) l = l
plain_file_answer place f (TokenChanged (Some now)) l = l
plain_file_answer place f _ l = l

pub plain_file_refused : (place : Place) (f : FileId) (x : AnyReply) → ¬ IsLack (file_refusal place f x)
plain_file_refused place f (any.File (files.Refused why)) = plain_file_answer place f why
plain_file_refused place f _ = λ l. l

module _ (place : Place) (x : AnyReply) where
  plain_found : {S : Type 0} (IsPlain : S → Type 0) (k : Key) (next : FileId → S) → ((f : FileId) → IsPlain (next f)) → (o : Option Node)
      → IsPlainNext IsPlain (found_file place k x next o)
  plain_found IsPlain k next goes None = plain_refused place k x
  plain_found IsPlain k next goes (Some (nodes.Dir d)) = λ l. l
  plain_found IsPlain k next goes (Some (nodes.File f)) = goes f

  -- ---- open and blocks

  plain_taken : (op : OpId) (f : FileId) (b : Bool) → IsPlainNext IsPlainOpen (taken place op f x b)
  plain_taken op f true = λ l. l
  plain_taken op f false = plain_file_refused place f x

  pub plain_open : (op : OpId) (s : Open) → IsPlainNext IsPlainOpen (open_hears place op s x)
  plain_open op (opening.Find k path) = plain_found IsPlainOpen k (λ f. opening.Take f path) (λ f. tt) (as_found x)
  plain_open op (opening.Take f path) = plain_taken op f (is_opened x)

  plain_listed : (f : FileId) (o : Option (List RowPart)) → IsPlainNext IsPlainBlocks (listed place f x o)
  plain_listed f None = plain_file_refused place f x
  plain_listed f (Some parts) = λ l. l

  pub plain_blocks : (s : Blocks) → IsPlainNext IsPlainBlocks (blocks_hears place s x)
  plain_blocks (listing.Find k) = plain_found IsPlainBlocks k (λ f. listing.List f) (λ f. tt) (as_found x)
  plain_blocks (listing.List f) = plain_listed f (as_block_list x)

  -- ---- read

  plain_located : (r : Reading) (o : Option RowPart) → IsPlainNext IsPlainRead (located r o)
  plain_located r None = λ l. l
  plain_located r (Some p) = tt

  plain_read_on : (r : Reading) → IsPlainNext IsPlainRead (read_on r)
  plain_read_on r = plain_located r (slice_get r.parts r.at)

  plain_begins : (f : FileId) (o : Option (List RowPart)) → IsPlainNext IsPlainRead (begins_reading place f x o)
  plain_begins f None = plain_file_refused place f x
  plain_begins f (Some parts) = plain_read_on record { parts = parts; at = 0; bytes = [] }

  plain_fetched : (r : Reading) (chunks : List ChunkKey) (tried : ℕ) (o : Option ChunkKey)
      → IsPlainNext IsPlainRead (fetched place r chunks tried o)
  plain_fetched r chunks tried None = λ l. l
  plain_fetched r chunks tried (Some c) = tt

  plain_fetch_on : (r : Reading) (chunks : List ChunkKey) (tried : ℕ) → IsPlainNext IsPlainRead (fetch_on place r chunks tried)
  plain_fetch_on r chunks tried = plain_fetched r chunks tried (slice_get chunks tried)

  plain_fetches : (r : Reading) (b : BlkId) (o : Option Location) → IsPlainNext IsPlainRead (begins_fetching place r b o)
  plain_fetches r b None = λ l. l
  plain_fetches r b (Some at) = plain_fetch_on r (placed_chunks b at.rows) 0

  plain_got : (r : Reading) (t : Fetching) (o : Option (List ℕ)) → IsPlainNext IsPlainRead (got place r t o)
  plain_got r t None = plain_fetch_on r t.chunks (t.tried + 1)
  plain_got r t (Some bytes) = plain_read_on record { parts = r.parts; at = r.at + 1; bytes = r.bytes ++ bytes }

  pub plain_read : (s : Read) → IsPlainNext IsPlainRead (read_hears place s x)
  plain_read (reading.Find k) = plain_found IsPlainRead k (λ f. reading.List f) (λ f. tt) (as_found x)
  plain_read (reading.List f) = plain_begins f (as_block_list x)
  plain_read (reading.Locate r b) = plain_fetches r b (as_location x)
  plain_read (reading.Fetch r t) = plain_got r t (as_bytes x)

  -- ---- append

  plain_put_next : (a : Appending) (made : NewBlock) (at : ℕ) (o : Option ChunkKey) → IsPlainAppend (put_next a made at o)
  plain_put_next a made at None = tt
  plain_put_next a made at (Some c) = tt

  plain_made : (token : OpId) (bytes : List ℕ) (o : Option (NewBlock × RowGrant))
      → IsPlainNext IsPlainAppend (block_made place token bytes o)
  plain_made token bytes None = λ l. l
  plain_made token bytes (Some p) =
      plain_put_next record { token = token; bytes = bytes; hold = p.1 } p.0 0 (slice_get (chunks_of p.0) 0)

  plain_not_stored : (a : Appending) (c : ChunkKey) (b : Bool) → IsPlainNext IsPlainAppend (not_stored place a c b)
  plain_not_stored a c true = λ l. l
  plain_not_stored a c false = λ l. l

  plain_put : (a : Appending) (p : Putting) (b : Bool) → IsPlainNext IsPlainAppend (put place a p x b)
  plain_put a p true = plain_put_next a p.made (p.at + 1) (slice_get (chunks_of p.made) (p.at + 1))
  plain_put a p false = plain_not_stored a p.chunk (is_lost x)

  plain_sealed : (a : Appending) (made : NewBlock) (b : Bool) → IsPlainNext IsPlainAppend (sealed place a made b)
  plain_sealed a made true = tt
  plain_sealed a made false = λ l. l

  plain_attached : (a : Appending) (o : Option ℕ) → IsPlainNext IsPlainAppend (attached place a x o)
  plain_attached a None = plain_file_refused place (a.hold).file x
  plain_attached a (Some i) = λ l. l

  pub plain_append : (op : OpId) (number : ℕ) (s : Append) → IsPlainAppend s → IsPlainNext IsPlainAppend (append_hears place op number s x)
  plain_append op number (Make f token bytes p) plain =
      plain_made token bytes (given_if (new_block record { 0 = number } f (own_hold op) (new_rows p op number)) (is_made x))
  plain_append op number (Put a p) plain = plain_put a p (is_stored x)
  plain_append op number (Seal a made) plain = plain_sealed a made (is_block_sealed x)
  plain_append op number (Attach a b) plain = plain_attached a (as_attached x)
  plain_append op number (Release b h answer) plain = plain

-- at its start
plain_few : (answer : Answer) (s : Append) (few : Bool) → IsPlainAppend s → ¬ IsLack answer
    → IsPlainNext IsPlainAppend (if few then Comes answer else Goes s)
plain_few answer s true goes comes = comes
plain_few answer s false goes comes = goes

plain_begin : (c : Counts) (bytes : List ℕ) (o : Option OpenedFile) → IsPlainNext IsPlainAppend (append_begins c bytes o)
plain_begin c bytes None = λ l. l
plain_begin c bytes (Some o) =
    plain_few (answers.FewDisks c.disks (copies_of c)) (Make o.file o.token bytes (spread_of c)) (nat_lt c.disks (copies_of c)) tt (λ l. l)

pub plain_append_start : (c : Counts) (m : Memory) (path : List (List ℕ)) (bytes : List ℕ)
    → IsPlainNext IsPlainAppend (append_starts c m path bytes)
plain_append_start c m path bytes = plain_begin c bytes (get m.opened path)
