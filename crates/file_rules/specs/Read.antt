-- Reads a file: its blocks are listed, and of each in order it is asked where it lies; then its rows that are placed are asked for their
-- chunks, until one is got. So far no chunk is missing that a placed row has, and no disk is lost.
use Rattle.std.specs.Prelude.{ℕ, ◌+◌, Option, Some, None, List, [], ◌++◌, map}
use Rattle.std.specs.List.{slice_get, filter}
use Rattle.tect_ids.specs.declared.ids.BlkId.{BlkId}
use Rattle.tect_ids.specs.declared.ids.DirId.{DirId}
use Rattle.tect_ids.specs.declared.ids.FileId.{FileId}
use Rattle.tect_ids.specs.declared.ids.Place.{Place}
use Rattle.tect_ids.specs.declared.key.ChunkKey.{ChunkKey}
use Rattle.tect_ids.specs.declared.values.Location.{Location}
use Rattle.tect_ids.specs.declared.values.Row.{Row}
use Rattle.tect_ids.specs.declared.values.RowPart.{RowPart}
use Rattle.tect_ids.specs.declared.answer.Answer.{Answer}
use Rattle.tect_ids.specs.declared.answer.Answer.TheVariants as answers
use Rattle.store_rules.specs.declared.files.FileReq.TheVariants as files
use Rattle.store_rules.specs.declared.blocks.BlockReq.TheVariants as blocks
use Rattle.store_rules.specs.declared.disks.DiskReq.TheVariants as disks
use Rattle.store_rules.specs.declared.any.AnyReq.{AnyReq}
use Rattle.store_rules.specs.declared.any.AnyReq.TheVariants as any
use Rattle.store_rules.specs.declared.any.AnyReply.{AnyReply}
use Rattle.store_rules.specs.Names.{key_in}
use Rattle.store_rules.specs.Places.{request_place}
use Rattle.store_rules.specs.Views.{as_found, as_block_list, as_location, as_bytes}
use Rattle.program_parts.specs.declared.next.Next.{Next}
use Rattle.program_parts.specs.declared.next.Next.TheVariants.{Goes, Comes}
use Rattle.program_parts.specs.Parts.{Part, looks_nothing, learns_nothing}
use Rattle.file_rules.specs.declared.states.Read.{Read}
use Rattle.file_rules.specs.declared.states.Read.TheVariants.{Find, List as Listing, Locate, Fetch}
use Rattle.file_rules.specs.Finds.{find_ask, found_file, file_refusal}
use Rattle.file_rules.specs.Stages.{Reading, Fetching}

-- in the directory to which the path leads
abbrev pub read_starts : List ℕ → DirId → Read
read_starts n d = Find (key_in d n)

abbrev pub read_asks : Read → AnyReq
read_asks (Find k) = find_ask k
read_asks (Listing f) = any.File (files.ListBlocks f)
read_asks (Locate r b) = any.Block (blocks.GetBlock b)
read_asks (Fetch r t) = any.Disk (disks.Get t.chunk)

-- the block that is read now, or all bytes once there is none
abbrev pub located : Reading → Option RowPart → Next Read Answer
located r None = Comes (answers.Read r.bytes)
located r (Some p) = Goes (Locate r p.blk)

abbrev pub read_on : Reading → Next Read Answer
read_on r = located r (slice_get r.parts r.at)

abbrev pub begins_reading : Place → FileId → AnyReply → Option (List RowPart) → Next Read Answer
begins_reading place f x None = Comes (file_refusal place f x)
begins_reading place f x (Some parts) = read_on record { parts = parts; at = 0; bytes = [] }

-- the chunks of a block's rows that are placed, in the order of their disks
abbrev pub placed_chunks : BlkId → List Row → List ChunkKey
placed_chunks b rows = map (λ r. record { disk = r.disk; blk = b; tag = r.tag }) (filter (λ r. r.placed) rows)

-- the chunk that is tried next; that there is none left is odd so far
abbrev pub fetched : Place → Reading → List ChunkKey → ℕ → Option ChunkKey → Next Read Answer
fetched place r chunks tried None = Comes (answers.Odd place)
fetched place r chunks tried (Some c) = Goes (Fetch r record { chunks = chunks; tried = tried; chunk = c })

abbrev pub fetch_on : Place → Reading → List ChunkKey → ℕ → Next Read Answer
fetch_on place r chunks tried = fetched place r chunks tried (slice_get chunks tried)

abbrev pub begins_fetching : Place → Reading → BlkId → Option Location → Next Read Answer
begins_fetching place r b None = Comes (answers.Odd place)
begins_fetching place r b (Some l) = fetch_on place r (placed_chunks b l.rows) 0

-- the bytes of a block, and then the next block; or the chunk on another disk
abbrev pub got : Place → Reading → Fetching → Option (List ℕ) → Next Read Answer
got place r t None = fetch_on place r t.chunks (t.tried + 1)
got place r t (Some bytes) = read_on record { parts = r.parts; at = r.at + 1; bytes = r.bytes ++ bytes }

abbrev pub read_hears : Place → Read → AnyReply → Next Read Answer
read_hears place (Find k) x = found_file place k x (λ f. Listing f) (as_found x)
read_hears place (Listing f) x = begins_reading place f x (as_block_list x)
read_hears place (Locate r b) x = begins_fetching place r b (as_location x)
read_hears place (Fetch r t) x = got place r t (as_bytes x)

abbrev pub read : Part Read Answer
read = record {
  turns = looks_nothing;
  asks = λ c m op s. read_asks s;
  hears = λ c m op s q x. read_hears (request_place c q) s x;
  learns = learns_nothing;
}

-- its answer is open to the last
abbrev pub read_decided : Read → Option Answer
read_decided s = None
