-- each part of commands on the contents of files takes few transactions
use Rattle.std.proofs.Common.{◌≡◌, ℕ, zero, suc, ◌+◌, ◌-◌, ◌<◌, ◌≤◌, Bool, true}
use Rattle.std.proofs.Common.{false, Option, Some, None, List, [], length}
use Rattle.std.proofs.Common.{◌++◌, refl, ap, ◌∙◌, arith}
use Rattle.std.proofs.lemmas.List.{length-map}
use Rattle.std.proofs.lemmas.Option.{slice_get_within}
use Rattle.std.specs.List.{slice_get, filter}
use Rattle.tect_ids.specs.declared.ids.BlkId.{BlkId}
use Rattle.tect_ids.specs.declared.ids.Counts.{Counts}
use Rattle.tect_ids.specs.declared.ids.FileId.{FileId}
use Rattle.tect_ids.specs.declared.ids.Node.{Node}
use Rattle.tect_ids.specs.declared.ids.Node.TheVariants as nodes
use Rattle.tect_ids.specs.declared.ids.OpId.{OpId}
use Rattle.tect_ids.specs.declared.ids.Place.{Place}
use Rattle.tect_ids.specs.declared.key.ChunkKey.{ChunkKey}
use Rattle.tect_ids.specs.declared.key.Key.{Key}
use Rattle.tect_ids.specs.declared.values.Location.{Location}
use Rattle.tect_ids.specs.declared.values.RowPart.{RowPart}
use Rattle.tect_ids.specs.Numbers.{object_number, own_hold}
use Rattle.store_rules.specs.declared.any.AnyReq.{AnyReq}
use Rattle.store_rules.specs.declared.any.AnyReply.{AnyReply}
use Rattle.store_rules.specs.Holds.{RowGrant}
use Rattle.store_rules.specs.Places.{request_place}
use Rattle.store_rules.specs.Views.{as_found, as_block_list, as_location, as_bytes}
use Rattle.store_rules.specs.Views.{as_attached, is_made, is_stored, is_block_sealed, is_opened}
use Rattle.tect_calls.specs.MadeBlocks.{NewBlock, chunk_of, chunks_of}
use Rattle.tect_calls.specs.Readings.{given_if}
use Rattle.program_forms.specs.Memories.{Memory}
use Rattle.file_rules.specs.declared.states.Append.{Append}
use Rattle.file_rules.specs.declared.states.Append.TheVariants as appending
use Rattle.file_rules.specs.declared.states.Appending.{Appending}
use Rattle.file_rules.specs.declared.states.Blocks.{Blocks}
use Rattle.file_rules.specs.declared.states.Blocks.TheVariants as listing
use Rattle.file_rules.specs.declared.states.Open.{Open}
use Rattle.file_rules.specs.declared.states.Open.TheVariants as opens
use Rattle.file_rules.specs.declared.states.Read.{Read}
use Rattle.file_rules.specs.declared.states.Read.TheVariants as reading
use Rattle.file_rules.specs.Append.{append, append_asks, put_next, put_on, block_made, not_stored, put, sealed, attached, is_lost}
use Rattle.file_rules.specs.Blocks.{blocks, blocks_asks, listed}
use Rattle.file_rules.specs.Finds.{found_file}
use Rattle.file_rules.specs.Open.{opening, open_asks, taken}
use Rattle.file_rules.specs.Placing.{Spread, rows_on, first_disk, new_rows}
use Rattle.file_rules.specs.Read.{read, read_asks, located, read_on, begins_reading, placed_chunks, fetched, fetch_on, begins_fetching, got}
use Rattle.file_rules.specs.Stages.{Putting, Reading, Fetching}
use Rattle.fall_laws.specs.Counting.{is_look}
use Rattle.fall_laws.specs.Bounding.{Many, AtMost, none}
use Rattle.fall_laws.specs.Parts.{PartFalls, Takes, plus, next_left}
use Rattle.fall_laws.proofs.PartsFall.{FallsIn, part_falls, waits_fall}
use Rattle.files_told.specs.FilesTelling.{others, behind, open_left, append_left}
use Rattle.claim_words.specs.Bounds.{listed_blocks, placed_rows}
use Rattle.files_told.specs.FilesTelling.{blocks_left, read_left, read_grows}
use Rattle.files_told.specs.FilesTelling.{open_bounding, append_bounding, blocks_bounding, read_bounding}

-- ---- beside what is asked

-- after a look
pub by_look : (q : AnyReq) (after : Many) (n : ℕ) → is_look q ≡ true → AtMost after (others n)
    → Takes q after record { looks = 1; others = n }
by_look q after n is l = record { looks = rw is (omega (arith, l.looks)); others = rw is (omega (arith, l.others)) }

-- after another transaction
pub by_other : (q : AnyReq) (after : Many) (n : ℕ) → is_look q ≡ false → AtMost after (others n) → Takes q after (others (n + 1))
by_other q after n is l = record { looks = rw is (omega (arith, l.looks)); others = rw is (omega (arith, l.others)) }

pub nothing : (n : ℕ) → AtMost none (others n)
nothing n = record { looks = omega arith; others = omega arith }

pub fewer : (k n : ℕ) → k ≤ n → AtMost (others k) (others n)
fewer k n l = record { looks = omega arith; others = omega (arith, l) }

-- a file that is found leaves that
found_leaves : {S : Type 0} (left : S → Many) (n : ℕ) (place : Place) (k : Key) (x : AnyReply) (next : FileId → S)
    → ((f : FileId) → AtMost (left (next f)) (others n)) → (o : Option Node)
    → AtMost (next_left left (found_file place k x next o)) (others n)
found_leaves left n place k x next l None = nothing n
found_leaves left n place k x next l (Some (nodes.Dir d)) = nothing n
found_leaves left n place k x next l (Some (nodes.File f)) = l f

-- ---- opening, and listing

taken_leaves : (place : Place) (op : OpId) (f : FileId) (x : AnyReply) (b : Bool)
    → AtMost (next_left open_left (taken place op f x b)) (others 0)
taken_leaves place op f x true = nothing 0
taken_leaves place op f x false = nothing 0

open_at : (s : Open) → FallsIn opening open_bounding s
open_at (opens.Find k path) = waits_fall opening open_left (opens.Find k path) record {
  looks = λ c m op. refl;
  hears = λ c m op x.
      by_look _ _ 1 refl (found_leaves open_left 1 (request_place c (open_asks op (opens.Find k path))) k x (λ f. opens.Take f path)
      (λ f. fewer 1 1 (omega arith)) (as_found x));
}
open_at (opens.Take f path) = waits_fall opening open_left (opens.Take f path) record {
  looks = λ c m op. refl;
  hears = λ c m op x. by_other _ _ 0 refl (taken_leaves (request_place c (open_asks op (opens.Take f path))) op f x (is_opened x));
}

pub open_falls : PartFalls opening open_bounding
open_falls = part_falls open_at

listed_leaves : (place : Place) (f : FileId) (x : AnyReply) (o : Option (List RowPart))
    → AtMost (next_left blocks_left (listed place f x o)) (others 0)
listed_leaves place f x None = nothing 0
listed_leaves place f x (Some parts) = nothing 0

blocks_at : (s : Blocks) → FallsIn blocks blocks_bounding s
blocks_at (listing.Find k) = waits_fall blocks blocks_left (listing.Find k) record {
  looks = λ c m op. refl;
  hears = λ c m op x.
      by_look _ _ 1 refl (found_leaves blocks_left 1 (request_place c (blocks_asks (listing.Find k))) k x (λ f. listing.List f)
      (λ f. fewer 1 1 (omega arith)) (as_found x));
}
blocks_at (listing.List f) = waits_fall blocks blocks_left (listing.List f) record {
  looks = λ c m op. refl;
  hears = λ c m op x. by_other _ _ 0 refl (listed_leaves (request_place c (blocks_asks (listing.List f))) f x (as_block_list x));
}

pub blocks_fall : PartFalls blocks blocks_bounding
blocks_fall = part_falls blocks_at

-- ---- appending

-- the next chunk is put, or the block sealed
put_next_leaves : (a : Appending) (made : NewBlock) (at : ℕ) (o : Option ChunkKey) → slice_get (chunks_of made) at ≡ o
    → AtMost (append_left (put_next a made at o)) (others (length (chunks_of made) - at + 3))
put_next_leaves a made at None e = fewer 3 (length (chunks_of made) - at + 3) (omega arith)
put_next_leaves a made at (Some k) e =
    let within : at < length (chunks_of made) = slice_get_within (chunks_of made) at k e in
    fewer (length (chunks_of made) - (at + 1) + 4) (length (chunks_of made) - at + 3) (omega (arith, within))

put_on_leaves : (a : Appending) (made : NewBlock) (at : ℕ)
    → AtMost (append_left (put_on a made at)) (others (length (chunks_of made) - at + 3))
put_on_leaves a made at = put_next_leaves a made at (slice_get (chunks_of made) at) refl

-- a block has as many rows as copies
rows_length : (disks : ℕ) (op : OpId) (from part n : ℕ) → length (rows_on disks op from part n) ≡ n
unfolding rows_on
rows_length disks op from part zero = refl
rows_length disks op from part (suc n) = ap suc (rows_length disks op from (part + 1) n)

module _ (place : Place) (op : OpId) (bytes : List ℕ) where
  made_leaves : (n : ℕ) (made : NewBlock) (hold : RowGrant) (b : Bool) → length (chunks_of made) ≡ n
      → AtMost (next_left append_left (block_made place op bytes (given_if (made, hold) b))) (others (n + 3))
  made_leaves n made hold false e = nothing (n + 3)
  made_leaves n made hold true e =
      let l
      : AtMost (append_left (put_on record { token = op; bytes = bytes; hold = hold } made 0)) (others (length (chunks_of made) - 0 + 3)) =
      put_on_leaves record { token = op; bytes = bytes; hold = hold } made 0 in
      record { looks = omega (arith, l.looks); others = omega (arith, l.others, e) }

not_stored_leaves : (place : Place) (a : Appending) (k : ChunkKey) (n : ℕ) (b : Bool)
    → AtMost (next_left append_left (not_stored place a k b)) (others (n + 3))
not_stored_leaves place a k n true = fewer 1 (n + 3) (omega arith)
not_stored_leaves place a k n false = nothing (n + 3)

put_leaves : (place : Place) (a : Appending) (p : Putting) (x : AnyReply) (b : Bool)
    → AtMost (next_left append_left (put place a p x b)) (others (behind (chunks_of p.made) p.at + 3))
put_leaves place a p x true = put_on_leaves a p.made (p.at + 1)
put_leaves place a p x false = not_stored_leaves place a p.chunk (behind (chunks_of p.made) p.at) (is_lost x)

sealed_leaves : (place : Place) (a : Appending) (made : NewBlock) (b : Bool)
    → AtMost (next_left append_left (sealed place a made b)) (others 2)
sealed_leaves place a made true = fewer 2 2 (omega arith)
sealed_leaves place a made false = nothing 2

attached_leaves : (place : Place) (a : Appending) (x : AnyReply) (o : Option ℕ)
    → AtMost (next_left append_left (attached place a x o)) (others 1)
attached_leaves place a x None = fewer 1 1 (omega arith)
attached_leaves place a x (Some i) = nothing 1

chunks_many : (b : BlkId) (p : Spread) (op : OpId) (number : ℕ)
    → length (chunks_of record { blk = b; rows = new_rows p op number }) ≡ p.copies
chunks_many b p op number = length-map (new_rows p op number) (chunk_of b) ∙ rows_length p.disks op (first_disk p number) 0 p.copies

append_at : (s : Append) → FallsIn append append_bounding s
append_at (appending.Make f token bytes p) = waits_fall append append_left (appending.Make f token bytes p) record {
  looks = λ c m op. refl;
  hears = λ c m op x.
      let number : ℕ = object_number op.actor m.serial in
      let b : BlkId = record { 0 = number } in
      let l : AtMost (next_left append_left (append.hears c m op (appending.Make f token bytes p)
      (append.asks c m op (appending.Make f token bytes p)) x)) (others (p.copies + 3)) =
      made_leaves (request_place c (append_asks op number (appending.Make f token bytes p))) token bytes p.copies
      record { blk = b; rows = new_rows p op number } record { blk = b; hold = own_hold op; file = f } (is_made x)
      (chunks_many b p op number) in
      record { looks = omega (arith, l.looks); others = omega (arith, l.others) };
}
append_at (appending.Put a p) = waits_fall append append_left (appending.Put a p) record {
  looks = λ c m op. refl;
  hears = λ c m op x.
      let l : AtMost (next_left append_left (append.hears c m op (appending.Put a p) (append.asks c m op (appending.Put a p)) x))
      (others (behind (chunks_of p.made) p.at + 3)) =
      put_leaves (request_place c (append_asks op (object_number op.actor m.serial) (appending.Put a p))) a p x (is_stored x) in
      record { looks = omega (arith, l.looks); others = omega (arith, l.others) };
}
append_at (appending.Seal a made) = waits_fall append append_left (appending.Seal a made) record {
  looks = λ c m op. refl;
  hears = λ c m op x.
      by_other _ _ 2 refl (sealed_leaves (request_place c (append_asks op (object_number op.actor m.serial) (appending.Seal a made))) a made
      (is_block_sealed x));
}
append_at (appending.Attach a b) = waits_fall append append_left (appending.Attach a b) record {
  looks = λ c m op. refl;
  hears = λ c m op x.
      by_other _ _ 1 refl (attached_leaves (request_place c (append_asks op (object_number op.actor m.serial) (appending.Attach a b))) a x
      (as_attached x));
}
append_at (appending.Release b hold answer) = waits_fall append append_left (appending.Release b hold answer) record {
  looks = λ c m op. refl;
  hears = λ c m op x. by_other _ _ 0 refl (nothing 0);
}

pub append_falls : PartFalls append append_bounding
append_falls = part_falls append_at

-- ---- reading

-- the next block is located
located_leaves : (r : Reading) (o : Option RowPart) → slice_get r.parts r.at ≡ o
    → AtMost (next_left read_left (located r o)) (others (length r.parts - r.at))
located_leaves r None e = nothing (length r.parts - r.at)
located_leaves r (Some p) e =
    let within : r.at < length r.parts = slice_get_within r.parts r.at p e in
    fewer (length r.parts - (r.at + 1) + 1) (length r.parts - r.at) (omega (arith, within))

read_on_leaves : (r : Reading) → AtMost (next_left read_left (read_on r)) (others (length r.parts - r.at))
read_on_leaves r = located_leaves r (slice_get r.parts r.at) refl

begins_leaves : (place : Place) (f : FileId) (x : AnyReply) (o : Option (List RowPart))
    → AtMost (next_left read_left (begins_reading place f x o)) (others (listed_blocks o))
begins_leaves place f x None = nothing 0
begins_leaves place f x (Some parts) =
    let l : AtMost (next_left read_left (read_on record { parts = parts; at = 0; bytes = [] })) (others (length parts - 0)) =
    read_on_leaves record { parts = parts; at = 0; bytes = [] } in
    record { looks = omega (arith, l.looks); others = omega (arith, l.others) }

-- the next chunk is got
fetched_leaves : (place : Place) (r : Reading) (chunks : List ChunkKey) (tried : ℕ) (o : Option ChunkKey) → slice_get chunks tried ≡ o
    → AtMost (next_left read_left (fetched place r chunks tried o)) (others (behind r.parts r.at + (length chunks - tried)))
fetched_leaves place r chunks tried None e = nothing (behind r.parts r.at + (length chunks - tried))
fetched_leaves place r chunks tried (Some k) e =
    let within : tried < length chunks = slice_get_within chunks tried k e in
    fewer (behind r.parts r.at + behind chunks tried + 1) (behind r.parts r.at + (length chunks - tried)) (omega (arith, within))

fetch_on_leaves : (place : Place) (r : Reading) (chunks : List ChunkKey) (tried : ℕ)
    → AtMost (next_left read_left (fetch_on place r chunks tried)) (others (behind r.parts r.at + (length chunks - tried)))
fetch_on_leaves place r chunks tried = fetched_leaves place r chunks tried (slice_get chunks tried) refl

begins_fetching_leaves : (place : Place) (r : Reading) (b : BlkId) (o : Option Location)
    → AtMost (next_left read_left (begins_fetching place r b o)) (others (behind r.parts r.at + placed_rows o))
begins_fetching_leaves place r b None = nothing (behind r.parts r.at + 0)
begins_fetching_leaves place r b (Some l) =
    let many : length (placed_chunks b l.rows) ≡ placed_rows (Some l) = length-map (filter (λ w. w.placed) l.rows) _ in
    let k : AtMost (next_left read_left (fetch_on place r (placed_chunks b l.rows) 0))
    (others (behind r.parts r.at + (length (placed_chunks b l.rows) - 0))) =
    fetch_on_leaves place r (placed_chunks b l.rows) 0 in
    record { looks = omega (arith, k.looks); others = omega (arith, k.others, many) }

got_leaves : (place : Place) (r : Reading) (t : Fetching) (o : Option (List ℕ))
    → AtMost (next_left read_left (got place r t o)) (others (behind r.parts r.at + behind t.chunks t.tried))
got_leaves place r t None = fetch_on_leaves place r t.chunks (t.tried + 1)
got_leaves place r t (Some bytes) =
    let l : AtMost (next_left read_left (read_on record { parts = r.parts; at = r.at + 1; bytes = r.bytes ++ bytes })) (others
    (length r.parts - (r.at + 1))) = read_on_leaves record { parts = r.parts; at = r.at + 1; bytes = r.bytes ++ bytes } in
    record { looks = omega (arith, l.looks); others = omega (arith, l.others) }

-- a state where it looks nothing up
reads_fall : (s : Read)
    → ((c : Counts) (m : Memory) (op : OpId) (x : AnyReply)
    → Takes (read_asks s) (next_left read_left (read.hears c m op s (read_asks s) x))
    (plus (read_left s) (read_grows c (read_asks s) x))) → FallsIn read read_bounding s
reads_fall s hears = record {
  turns = λ c m op. record { looks = omega arith; others = omega arith };
  hears = hears;
}

read_at : (s : Read) → FallsIn read read_bounding s
read_at (reading.Find k) = reads_fall (reading.Find k) (λ c m op x.
    let l : AtMost (next_left read_left (read.hears c m op (reading.Find k) (read_asks (reading.Find k)) x)) (others 1) =
    found_leaves read_left 1 (request_place c (read_asks (reading.Find k))) k x (λ f. reading.List f) (λ f. fewer 1 1 (omega arith))
    (as_found x) in
    record { looks = omega (arith, l.looks); others = omega (arith, l.others) })
read_at (reading.List f) = reads_fall (reading.List f) (λ c m op x.
    let l : AtMost (next_left read_left (read.hears c m op (reading.List f) (read_asks (reading.List f)) x)) (others
    (listed_blocks (as_block_list x))) =
    begins_leaves (request_place c (read_asks (reading.List f))) f x (as_block_list x) in
    record { looks = omega (arith, l.looks); others = omega (arith, l.others) })
read_at (reading.Locate r b) = reads_fall (reading.Locate r b) (λ c m op x.
    let l : AtMost (next_left read_left (read.hears c m op (reading.Locate r b) (read_asks (reading.Locate r b)) x)) (others
    (behind r.parts r.at + placed_rows (as_location x))) =
    begins_fetching_leaves (request_place c (read_asks (reading.Locate r b))) r b (as_location x) in
    record { looks = omega (arith, l.looks); others = omega (arith, l.others) })
read_at (reading.Fetch r t) = reads_fall (reading.Fetch r t) (λ c m op x.
    let l : AtMost (next_left read_left (read.hears c m op (reading.Fetch r t) (read_asks (reading.Fetch r t)) x)) (others
    (behind r.parts r.at + behind t.chunks t.tried)) =
    got_leaves (request_place c (read_asks (reading.Fetch r t))) r t (as_bytes x) in
    record { looks = omega (arith, l.looks); others = omega (arith, l.others) })

pub read_falls : PartFalls read read_bounding
read_falls = part_falls read_at
