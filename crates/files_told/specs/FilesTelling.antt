-- What the history tells of each command on the contents of files before its answer is decided, and what explains the answer; and how many
-- transactions such a command takes behind its walk.
use Rattle.std.specs.Prelude.{◌≡◌, ℕ, ◌+◌, ◌-◌, true, Some, is_some, List, [], take, length, ◌⊎◌}
use Rattle.std.specs.List.{slice_get, flat_map}
use Rattle.tect_ids.specs.declared.ids.BlkId.{BlkId}
use Rattle.tect_ids.specs.declared.ids.Counts.{Counts}
use Rattle.tect_ids.specs.declared.ids.DirId.{DirId}
use Rattle.tect_ids.specs.declared.ids.FileId.{FileId}
use Rattle.tect_ids.specs.declared.ids.Node.TheVariants.{File}
use Rattle.tect_ids.specs.declared.ids.OpId.{OpId}
use Rattle.tect_ids.specs.declared.key.ChunkKey.{ChunkKey}
use Rattle.tect_ids.specs.declared.key.Key.{Key}
use Rattle.tect_ids.specs.declared.values.RowPart.{RowPart}
use Rattle.tect_ids.specs.declared.command.Command.{Command}
use Rattle.tect_ids.specs.declared.command.Command.TheVariants as commands
use Rattle.tect_ids.specs.declared.answer.Answer.{Answer}
use Rattle.tect_ids.specs.Numbers.{root}
use Rattle.tect_ids.specs.Paths.{last_name}
use Rattle.store_rules.specs.declared.any.AnyReq.{AnyReq}
use Rattle.store_rules.specs.declared.any.AnyReply.{AnyReply}
use Rattle.tect_calls.specs.MadeBlocks.{chunks_of}
use Rattle.program_laws.specs.Known.{is_odd}
use Rattle.file_rules.specs.declared.states.Appending.{Appending}
use Rattle.file_rules.specs.declared.states.Append.{Append}
use Rattle.file_rules.specs.declared.states.Append.TheVariants as appending
use Rattle.file_rules.specs.declared.states.Blocks.{Blocks}
use Rattle.file_rules.specs.declared.states.Blocks.TheVariants as listing
use Rattle.file_rules.specs.declared.states.Open.{Open}
use Rattle.file_rules.specs.declared.states.Open.TheVariants as opening
use Rattle.file_rules.specs.declared.states.Read.{Read}
use Rattle.file_rules.specs.declared.states.Read.TheVariants as reading
use Rattle.file_rules.specs.Stages.{Reading, Fetching}
use Rattle.world_runs.specs.declared.event.Event.{Event}
use Rattle.claim_words.specs.Because.{because}
use Rattle.claim_words.specs.Bounds.{lists}
use Rattle.claim_words.specs.Commands.{said_in, content_of, content_in}
use Rattle.claim_words.specs.FilesBecause.{ReadPoint, WasOpen, copies_needed}
use Rattle.claim_words.specs.Points.{way, of_op, Walked, FoundSource}
use Rattle.claim_words.specs.TreeSteps.{tree_steps}
use Rattle.fall_laws.specs.Bounding.{Many, none}
use Rattle.fall_laws.specs.Parts.{PartBounding, never_grows}
use Rattle.telling_laws.specs.Telling.{Telling}

-- ---- what explains an answer

-- the history, or that a reply was odd: no run answers so
abbrev pub files_why : Counts → List Event → OpId → Command → Answer → Type 0
files_why counts h op c a = because counts h op c a ⊎ (is_odd a ≡ true)

-- ---- a file that is found

-- the command is such a one of that path, its walk led to the directory of the entry, and the entry has the path's last name
pub record CameFor (of : List (List ℕ) → Command) (h : List Event) (op : OpId) (c : Command) (k : Key) (p : List (List ℕ)) : Type 0 where
  pub is : c ≡ of p
  pub walked : Walked root (way c) (of_op op (tree_steps h)) k.dir []
  pub last : last_name p ≡ k.name

-- the command is such a one of that path, and found the file where its walk led
pub record FoundFile (of : List (List ℕ) → Command) (h : List Event) (op : OpId) (c : Command) (f : FileId) (p : List (List ℕ))
    : Type 0 where
  pub is : c ≡ of p
  pub dir : DirId
  pub walked : Walked root (way c) (of_op op (tree_steps h)) dir []
  pub found : FoundSource (of_op op (tree_steps h)) dir p (File f)

-- ---- opening, and listing

abbrev pub OpenBefore : List Event → OpId → Command → Open → Type 0
OpenBefore h op c (opening.Find k path) = CameFor commands.Open h op c k path
OpenBefore h op c (opening.Take f path) = FoundFile commands.Open h op c f path

abbrev pub BlocksBefore : List Event → OpId → Command → Blocks → Type 0
BlocksBefore h op c (listing.Find k) = (p : List (List ℕ)) × CameFor commands.Blocks h op c k p
BlocksBefore h op c (listing.List f) = (p : List (List ℕ)) × FoundFile commands.Blocks h op c f p

-- ---- appending

-- the command appends these bytes, as its op said, to the file that was open at its path, with the token
pub record Appends (h : List Event) (op : OpId) (c : Command) (f : FileId) (token : OpId) (bytes : List ℕ) : Type 0 where
  pub path : List (List ℕ)
  pub is : c ≡ commands.Append path bytes
  pub said : said_in h op ≡ Some bytes
  pub opened : WasOpen h op c path f token

-- it made that block of its bytes, and has the block's hold
pub record AppendsBlock (h : List Event) (op : OpId) (c : Command) (a : Appending) (b : BlkId) : Type 0 where
  pub appends : Appends h op c (a.hold).file a.token a.bytes
  pub made : content_of h b ≡ Some a.bytes
  pub hold : (a.hold).blk ≡ b

-- the block that it is to make lies on as many disks as there are copies
abbrev pub AppendBefore : Counts → List Event → OpId → Command → Append → Type 0
AppendBefore counts h op c (appending.Make f token bytes p) = Appends h op c f token bytes × (p.copies ≡ copies_needed counts)
AppendBefore counts h op c (appending.Put a p) = AppendsBlock h op c a (p.made).blk
AppendBefore counts h op c (appending.Seal a made) = AppendsBlock h op c a made.blk
AppendBefore counts h op c (appending.Attach a b) = AppendsBlock h op c a b
AppendBefore counts h op c (appending.Release b hold answer) = Unit {0}

-- ---- reading

-- the bytes of listed blocks, by the history
abbrev pub bytes_of : List Event → List RowPart → List ℕ
bytes_of h parts = flat_map (λ p. content_in h p.blk) parts

-- The command reads that path, and listed these blocks there: what they consist of is known, and the tree said all their bytes. Those of
-- the first blocks are read.
pub record Reads (h : List Event) (op : OpId) (c : Command) (r : Reading) : Type 0 where
  pub path : List (List ℕ)
  pub is : c ≡ commands.Read path
  pub known : (i : ℕ) (p : RowPart) → slice_get r.parts i ≡ Some p → is_some (content_of h p.blk) ≡ true
  pub point : ReadPoint (tree_steps h) op path (bytes_of h r.parts)
  pub so_far : r.bytes ≡ bytes_of h (take r.at r.parts)

-- the block is the one that is read now
pub record IsReadNow (r : Reading) (b : BlkId) : Type 0 where
  pub part : RowPart
  pub now : slice_get r.parts r.at ≡ Some part
  pub blk : part.blk ≡ b

-- all these chunks are of that block
abbrev pub AreChunks : List ChunkKey → BlkId → Type 0
AreChunks chunks b = (i : ℕ) (k : ChunkKey) → slice_get chunks i ≡ Some k → k.blk ≡ b

-- the chunk that is asked for is one of the block that is read now, and so are all that are tried
pub record Fetches (r : Reading) (t : Fetching) : Type 0 where
  pub now : IsReadNow r (t.chunk).blk
  pub all : AreChunks t.chunks (t.chunk).blk

abbrev pub ReadBefore : List Event → OpId → Command → Read → Type 0
ReadBefore h op c (reading.Find k) = (p : List (List ℕ)) × CameFor commands.Read h op c k p
ReadBefore h op c (reading.List f) = (p : List (List ℕ)) × FoundFile commands.Read h op c f p
ReadBefore h op c (reading.Locate r b) = Reads h op c r × IsReadNow r b
ReadBefore h op c (reading.Fetch r t) = Reads h op c r × Fetches r t

-- ---- of each command

abbrev pub open_telling : Counts → Telling Open
open_telling counts = record { Before = OpenBefore; because = files_why counts }

abbrev pub append_telling : Counts → Telling Append
append_telling counts = record { Before = AppendBefore counts; because = files_why counts }

abbrev pub blocks_telling : Counts → Telling Blocks
blocks_telling counts = record { Before = BlocksBefore; because = files_why counts }

abbrev pub read_telling : Counts → Telling Read
read_telling counts = record { Before = ReadBefore; because = files_why counts }

-- ---- how many transactions it takes

-- none of them a look
abbrev pub others : ℕ → Many
others n = record { looks = 0; others = n }

abbrev pub open_left : Open → Many
open_left (opening.Find k path) = record { looks = 1; others = 1 }
open_left (opening.Take f path) = others 1

abbrev pub blocks_left : Blocks → Many
blocks_left (listing.Find k) = record { looks = 1; others = 1 }
blocks_left (listing.List f) = others 1

-- how many items are left behind the one with that index
abbrev pub behind : {X : Type 0} → List X → ℕ → ℕ
behind items at = length items - (at + 1)

-- the block is made, put on its disks, sealed and attached, and its hold may be released
abbrev pub append_left : Append → Many
append_left (appending.Make f token bytes p) = others (p.copies + 4)
append_left (appending.Put a p) = others (behind (chunks_of p.made) p.at + 4)
append_left (appending.Seal a made) = others 3
append_left (appending.Attach a b) = others 2
append_left (appending.Release b hold answer) = others 1

-- each block that is left is located, and each chunk that is left is got
abbrev pub read_left : Read → Many
read_left (reading.Find k) = record { looks = 1; others = 1 }
read_left (reading.List f) = others 1
read_left (reading.Locate r b) = others (behind r.parts r.at + 1)
read_left (reading.Fetch r t) = others (behind r.parts r.at + behind t.chunks t.tried + 1)

-- a listing adds that each of its blocks is located, and a location that the chunk of each placed row is got
abbrev pub read_grows : Counts → AnyReq → AnyReply → Many
read_grows counts q x = others (lists x)

abbrev pub open_bounding : PartBounding Open
open_bounding = never_grows open_left

abbrev pub append_bounding : PartBounding Append
append_bounding = never_grows append_left

abbrev pub blocks_bounding : PartBounding Blocks
blocks_bounding = never_grows blocks_left

abbrev pub read_bounding : PartBounding Read
read_bounding = record { left = read_left; grown = λ c m op s. none; grows = read_grows }
