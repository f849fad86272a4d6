-- Each operation on the contents of files halts: an append by the rows whose chunks are left to put, and a read by the blocks that are left,
-- and by the chunks that are left of the one that is read.
use Rattle.std.proofs.Common.{◌≡◌, ◌≤◌, ◌+◌, ℕ, zero, suc, Bool, true, false, Option, Some, None, List, length, refl, arith}
use Rattle.std.specs.List.{slice_get}
use Rattle.std.proofs.lemmas.Option.{slice_get_within}
use Rattle.tect_ids.specs.declared.ids.BlkId.{BlkId}
use Rattle.tect_ids.specs.declared.ids.FileId.{FileId}
use Rattle.tect_ids.specs.declared.ids.Hold.{Hold}
use Rattle.tect_ids.specs.declared.ids.Node.{Node}
use Rattle.tect_ids.specs.declared.ids.Node.TheVariants as nodes
use Rattle.tect_ids.specs.declared.ids.OpId.{OpId}
use Rattle.tect_ids.specs.declared.ids.Place.{Place}
use Rattle.tect_ids.specs.declared.key.ChunkKey.{ChunkKey}
use Rattle.tect_ids.specs.declared.key.Key.{Key}
use Rattle.tect_ids.specs.declared.values.Location.{Location}
use Rattle.tect_ids.specs.declared.values.RowPart.{RowPart}
use Rattle.tect_ids.specs.declared.answer.Answer.{Answer}
use Rattle.tect_ids.specs.Numbers.{own_hold, object_number}
use Rattle.store_rules.specs.declared.any.AnyReply.{AnyReply}
use Rattle.store_rules.specs.Holds.{RowGrant}
use Rattle.store_rules.specs.Places.{request_place}
use Rattle.store_rules.specs.Views.{as_found, as_block_list, as_location, as_bytes, as_attached}
use Rattle.store_rules.specs.Views.{is_made, is_stored, is_block_sealed, is_opened}
use Rattle.tect_calls.specs.MadeBlocks.{NewBlock, chunks_of}
use Rattle.tect_calls.specs.Readings.{given_if, new_block}
use Rattle.program_parts.specs.declared.next.Next.{Next}
use Rattle.program_parts.specs.Parts.{Part}
use Rattle.file_rules.specs.declared.states.Appending.{Appending}
use Rattle.file_rules.specs.declared.states.Open.{Open}
use Rattle.file_rules.specs.declared.states.Open.TheVariants as opened
use Rattle.file_rules.specs.declared.states.Append.{Append}
use Rattle.file_rules.specs.declared.states.Append.TheVariants as appends
use Rattle.file_rules.specs.declared.states.Blocks.{Blocks}
use Rattle.file_rules.specs.declared.states.Blocks.TheVariants as listing
use Rattle.file_rules.specs.declared.states.Read.{Read}
use Rattle.file_rules.specs.declared.states.Read.TheVariants as reads
use Rattle.file_rules.specs.Finds.{found_file}
use Rattle.file_rules.specs.Placing.{new_rows}
use Rattle.file_rules.specs.Stages.{Putting, Reading, Fetching}
use Rattle.file_rules.specs.Open.{opening, taken}
use Rattle.file_rules.specs.Append.{append, put_next, put_on, block_made, is_lost, not_stored, put, sealed, attached}
use Rattle.file_rules.specs.Blocks.{blocks, listed}
use Rattle.file_rules.specs.Read.{read, located, read_on, begins_reading, placed_chunks, fetched, fetch_on, begins_fetching, got}
use Rattle.session_runs.proofs.Halting.{Halts, halts, NextHalts, comes_halts, goes_halts}

-- a file that is found
file_halts : {S : Type 0} (P : Part S Answer) (place : Place) (k : Key) (x : AnyReply) (next : FileId → S)
    → ((f : FileId) → Halts P (next f)) → (o : Option Node) → NextHalts P (found_file place k x next o)
file_halts P place k x next all None = comes_halts P _
file_halts P place k x next all (Some (nodes.Dir d)) = comes_halts P _
file_halts P place k x next all (Some (nodes.File f)) = goes_halts P (next f) (all f)

-- ---- open and blocks

taken_halts : (place : Place) (op : OpId) (f : FileId) (x : AnyReply) (b : Bool) → NextHalts opening (taken place op f x b)
taken_halts place op f x true = comes_halts opening _
taken_halts place op f x false = comes_halts opening _

take_halts : (path : List (List ℕ)) (f : FileId) → Halts opening (opened.Take f path)
take_halts path f = halts _ (λ c m op q x. taken_halts (request_place c q) op f x (is_opened x))

pub open_halts : (s : Open) → Halts opening s
open_halts (opened.Find k path) =
    halts _ (λ c m op q x. file_halts opening (request_place c q) k x (λ f. opened.Take f path) (take_halts path) (as_found x))
open_halts (opened.Take f path) = take_halts path f

listed_halts : (place : Place) (f : FileId) (x : AnyReply) (o : Option (List RowPart)) → NextHalts blocks (listed place f x o)
listed_halts place f x None = comes_halts blocks _
listed_halts place f x (Some parts) = comes_halts blocks _

list_halts : (f : FileId) → Halts blocks (listing.List f)
list_halts f = halts _ (λ c m op q x. listed_halts (request_place c q) f x (as_block_list x))

pub blocks_halts : (s : Blocks) → Halts blocks s
blocks_halts (listing.Find k) =
    halts _ (λ c m op q x. file_halts blocks (request_place c q) k x (λ f. listing.List f) list_halts (as_found x))
blocks_halts (listing.List f) = list_halts f

-- ---- append

release_halts : (b : BlkId) (h : Hold) (a : Answer) → Halts append (appends.Release b h a)
release_halts b h a = halts _ (λ c m op q x. comes_halts append a)

attached_halts : (place : Place) (a : Appending) (x : AnyReply) (o : Option ℕ) → NextHalts append (attached place a x o)
attached_halts place a x None = goes_halts append _ (release_halts _ _ _)
attached_halts place a x (Some i) = comes_halts append _

attach_halts : (a : Appending) (b : BlkId) → Halts append (appends.Attach a b)
attach_halts a b = halts _ (λ c m op q x. attached_halts (request_place c q) a x (as_attached x))

sealed_halts : (place : Place) (a : Appending) (made : NewBlock) (b : Bool) → NextHalts append (sealed place a made b)
sealed_halts place a made true = goes_halts append _ (attach_halts a made.blk)
sealed_halts place a made false = comes_halts append _

seal_halts : (a : Appending) (made : NewBlock) → Halts append (appends.Seal a made)
seal_halts a made = halts _ (λ c m op q x. sealed_halts (request_place c q) a made (is_block_sealed x))

not_stored_halts : (place : Place) (a : Appending) (k : ChunkKey) (b : Bool) → NextHalts append (not_stored place a k b)
not_stored_halts place a k true = goes_halts append _ (release_halts _ _ _)
not_stored_halts place a k false = comes_halts append _

module _ (a : Appending) where
  stored_halts : (place : Place) (p : Putting) (x : AnyReply) → Halts append (put_on a p.made (p.at + 1)) → (b : Bool)
      → NextHalts append (put place a p x b)
  stored_halts place p x on true = goes_halts append _ on
  stored_halts place p x on false = not_stored_halts place a p.chunk (is_lost x)

  put_halts : (p : Putting) → Halts append (put_on a p.made (p.at + 1)) → Halts append (appends.Put a p)
  put_halts p on = halts _ (λ c m op q x. stored_halts (request_place c q) p x on (is_stored x))

  module _ (made : NewBlock) where
    next_halts : (at : ℕ) (o : Option ChunkKey)
        → ((k : ChunkKey) → o ≡ Some k → Halts append (appends.Put a record { made = made; at = at; chunk = k }))
        → Halts append (put_next a made at o)
    next_halts at None there = seal_halts a made
    next_halts at (Some k) there = there k refl

    -- with so many chunks left at most
    on_halts : (left at : ℕ) → length (chunks_of made) ≤ at + left → Halts append (put_on a made at)
    on_halts zero at few = next_halts at (slice_get (chunks_of made) at)
        (λ k e. absurd (omega (arith, slice_get_within (chunks_of made) at k e, few)))
    on_halts (suc left) at few = next_halts at (slice_get (chunks_of made) at)
        (λ k e. put_halts record { made = made; at = at; chunk = k } (on_halts left (at + 1) (omega (arith, few))))

    pub puts_halt : (at : ℕ) → Halts append (put_on a made at)
    puts_halt at = on_halts (length (chunks_of made)) at (omega arith)

block_halts : (place : Place) (token : OpId) (bytes : List ℕ) (o : Option (NewBlock × RowGrant))
    → NextHalts append (block_made place token bytes o)
block_halts place token bytes None = comes_halts append _
block_halts place token bytes (Some p) = goes_halts append _ (puts_halt _ p.0 0)

pub append_halts : (s : Append) → Halts append s
append_halts (appends.Make f token bytes p) =
    halts _ (λ c m op q x. block_halts (request_place c q) token bytes
    (given_if (new_block record { 0 = object_number op.actor m.serial } f (own_hold op) (new_rows p op (object_number op.actor m.serial)))
    (is_made x)))
append_halts (appends.Put a p) = put_halts a p (puts_halt a p.made (p.at + 1))
append_halts (appends.Seal a made) = seal_halts a made
append_halts (appends.Attach a b) = attach_halts a b
append_halts (appends.Release b h a) = release_halts b h a

-- ---- read

-- where what comes behind this block halts, whatever its bytes
module _ (r : Reading)
    (behind : (bytes : List ℕ) → NextHalts read (read_on record { parts = r.parts; at = r.at + 1; bytes = bytes })) where
  got_halts : (place : Place) (t : Fetching) → NextHalts read (fetch_on place r t.chunks (t.tried + 1)) → (o : Option (List ℕ))
      → NextHalts read (got place r t o)
  got_halts place t on None = on
  got_halts place t on (Some bytes) = behind _

  fetch_halts : (t : Fetching) → ((place : Place) → NextHalts read (fetch_on place r t.chunks (t.tried + 1))) → Halts read (reads.Fetch r t)
  fetch_halts t on = halts _ (λ c m op q x. got_halts (request_place c q) t (on (request_place c q)) (as_bytes x))

  module _ (chunks : List ChunkKey) where
    fetched_halts : (place : Place) (tried : ℕ) (o : Option ChunkKey)
        → ((k : ChunkKey) → o ≡ Some k → Halts read (reads.Fetch r record { chunks = chunks; tried = tried; chunk = k }))
        → NextHalts read (fetched place r chunks tried o)
    fetched_halts place tried None there = comes_halts read _
    fetched_halts place tried (Some k) there = goes_halts read _ (there k refl)

    -- with so many chunks left at most
    try_halts : (left : ℕ) (place : Place) (tried : ℕ) → length chunks ≤ tried + left → NextHalts read (fetch_on place r chunks tried)
    try_halts zero place tried few = fetched_halts place tried (slice_get chunks tried)
        (λ k e. absurd (omega (arith, slice_get_within chunks tried k e, few)))
    try_halts (suc left) place tried few = fetched_halts place tried (slice_get chunks tried)
        (λ k e. fetch_halts record { chunks = chunks; tried = tried; chunk = k }
        (λ here. try_halts left here (tried + 1) (omega (arith, few))))

    pub tries_halt : (place : Place) (tried : ℕ) → NextHalts read (fetch_on place r chunks tried)
    tries_halt place tried = try_halts (length chunks) place tried (omega arith)

  fetching_halts : (place : Place) (b : BlkId) (o : Option Location) → NextHalts read (begins_fetching place r b o)
  fetching_halts place b None = comes_halts read _
  fetching_halts place b (Some l) = tries_halt (placed_chunks b l.rows) place 0

  pub locate_halts : (b : BlkId) → Halts read (reads.Locate r b)
  locate_halts b = halts _ (λ c m op q x. fetching_halts (request_place c q) b (as_location x))

  pub fetches_halt : (t : Fetching) → Halts read (reads.Fetch r t)
  fetches_halt t = fetch_halts t (λ place. tries_halt t.chunks place (t.tried + 1))

located_halts : (r : Reading) (o : Option RowPart) → ((p : RowPart) → o ≡ Some p → Halts read (reads.Locate r p.blk))
    → NextHalts read (located r o)
located_halts r None there = comes_halts read _
located_halts r (Some p) there = goes_halts read _ (there p refl)

-- with so many blocks left at most
module _ (parts : List RowPart) where
  rest_halts : (left at : ℕ) (bytes : List ℕ) → length parts ≤ at + left
      → NextHalts read (read_on record { parts = parts; at = at; bytes = bytes })
  rest_halts zero at bytes few = located_halts record { parts = parts; at = at; bytes = bytes } (slice_get parts at)
      (λ p e. absurd (omega (arith, slice_get_within parts at p e, few)))
  rest_halts (suc left) at bytes few = located_halts record { parts = parts; at = at; bytes = bytes } (slice_get parts at)
      (λ p e. locate_halts record { parts = parts; at = at; bytes = bytes }
      (λ more. rest_halts left (at + 1) more (omega (arith, few))) p.blk)

  pub rests_halt : (at : ℕ) (bytes : List ℕ) → NextHalts read (read_on record { parts = parts; at = at; bytes = bytes })
  rests_halt at bytes = rest_halts (length parts) at bytes (omega arith)

begins_halt : (place : Place) (f : FileId) (x : AnyReply) (o : Option (List RowPart)) → NextHalts read (begins_reading place f x o)
begins_halt place f x None = comes_halts read _
begins_halt place f x (Some parts) = rests_halt parts 0 _

reading_halts : (f : FileId) → Halts read (reads.List f)
reading_halts f = halts _ (λ c m op q x. begins_halt (request_place c q) f x (as_block_list x))

pub read_halts : (s : Read) → Halts read s
read_halts (reads.Find k) = halts _ (λ c m op q x. file_halts read (request_place c q) k x (λ f. reads.List f) reading_halts (as_found x))
read_halts (reads.List f) = reading_halts f
read_halts (reads.Locate r b) = locate_halts r (λ bytes. rests_halt r.parts (r.at + 1) bytes) b
read_halts (reads.Fetch r t) = fetches_halt r (λ bytes. rests_halt r.parts (r.at + 1) bytes) t
