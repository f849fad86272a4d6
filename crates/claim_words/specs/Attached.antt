-- Blocks that were attached to files: their rows stand, and each block is whole. To which file, and with which token, a block is attached;
-- and which token a file has.
use Rattle.std.specs.Prelude.{◌≡◌, ℕ, Bool, true, if◌then◌else◌, Option, Some, None, List, [], ◌∷◌, ◌++◌, length}
use Rattle.std.specs.List.{slice_get}
use Rattle.std.specs.FinMap.{get, len}
use Rattle.tect_ids.specs.declared.ids.BlkId.{BlkId}
use Rattle.tect_ids.specs.declared.ids.Counts.{Counts}
use Rattle.tect_ids.specs.declared.ids.DiskId.{DiskId}
use Rattle.tect_ids.specs.declared.ids.FileId.{FileId}
use Rattle.tect_ids.specs.declared.ids.Hold.{Hold}
use Rattle.tect_ids.specs.declared.ids.OpId.{OpId}
use Rattle.tect_ids.specs.declared.values.BlockRow.{BlockRow}
use Rattle.tect_ids.specs.declared.values.NewRow.{NewRow}
use Rattle.tect_ids.specs.declared.command.Command.TheVariants as commands
use Rattle.tect_ids.specs.Keys.{blk_eq, file_eq}
use Rattle.store_rules.specs.declared.blocks.Block.{Block}
use Rattle.store_rules.specs.declared.blocks.BlockReq.{BlockReq}
use Rattle.store_rules.specs.declared.blocks.BlockReq.TheVariants as blocks
use Rattle.store_rules.specs.declared.files.File.{File}
use Rattle.store_rules.specs.declared.files.FileReq.{FileReq}
use Rattle.store_rules.specs.declared.files.FileReq.TheVariants as files
use Rattle.store_rules.specs.declared.files.FileReply.TheVariants as file_replies
use Rattle.store_rules.specs.declared.file_rows.FileRow.{FileRow}
use Rattle.store_rules.specs.declared.any.AnyReq.{AnyReq}
use Rattle.store_rules.specs.declared.any.AnyReq.TheVariants as any
use Rattle.store_rules.specs.declared.any.AnyReply.{AnyReply}
use Rattle.store_rules.specs.declared.any.AnyReply.TheVariants as any_reply
use Rattle.store_rules.specs.Store.{Store, opening_store}
use Rattle.store_rules.specs.Views.{is_made, is_opened}
use Rattle.program_forms.specs.declared.heard.Heard.{Heard}
use Rattle.world_runs.specs.declared.event.Event.{Event}
use Rattle.world_runs.specs.declared.event.Event.TheVariants.{Own, Dumped}
use Rattle.world_runs.specs.declared.event.Happening.TheVariants.{Began, NotBegun, Acted, Ended, Stopped, Failed}
use Rattle.world_runs.specs.OwnRuns.{stored_after}
use Rattle.claim_words.specs.Commands.{or_later, command_of, content_of}
use Rattle.claim_words.specs.FilesBecause.{WasOpen, copies_needed}

-- ---- what a history tells

-- by these events the op attached that block, with that token and of so many bytes, as the file's row with that index
pub record HasAttached (events : List Event) (op : OpId) (f : FileId) (token : OpId) (b : BlkId) (n i : ℕ) : Type 0 where
  pub before : List Event
  pub hold : Hold
  pub heard : Heard
  pub rest : List Event
  pub there : events
      ≡ before ++ Own op (Acted (any.File (files.Attach f token b n hold)) (any_reply.File (file_replies.Attached i)) heard) ∷ rest

-- the rows with which a request makes that block
abbrev pub rows_in : BlockReq → BlkId → Option (List NewRow)
rows_in (blocks.MakeBlock b c n f h rows) k = if blk_eq k b then Some rows else None
rows_in (blocks.SealBlock b) k = None
rows_in (blocks.GetBlock b) k = None
rows_in (blocks.Grant b h f) k = None
rows_in (blocks.Release b h) k = None

abbrev pub rows_if : Bool → AnyReq → BlkId → Option (List NewRow)
rows_if true (any.Block q) b = rows_in q b
rows_if made q b = None

abbrev pub rows_by : Event → BlkId → Option (List NewRow)
rows_by (Own op (Acted q x how)) b = rows_if (is_made x) q b
rows_by (Own op (Began c)) b = None
rows_by (Own op (NotBegun c)) b = None
rows_by (Own op (Ended a)) b = None
rows_by (Own op Stopped) b = None
rows_by (Own op (Failed a)) b = None
rows_by Dumped b = None

-- the rows with which the block was made
abbrev pub rows_of : List Event → BlkId → Option (List NewRow)
rows_of [] b = None
rows_of (e ∷ es) b = or_later (rows_by e b) (rows_of es b)

-- ---- an attached block

-- It stands sealed and of that length; it has as many rows as it was made with, and each is placed and has a chunk of just these bytes on
-- its disk. No disk is lost so far.
pub record IsWhole (s : Store) (b : BlkId) (n : ℕ) (rows : List NewRow) (bytes : List ℕ) : Type 0 where
  pub block : Block
  pub there : get s.blocks b ≡ Some block
  pub sealed : block.sealed ≡ true
  pub long : block.len ≡ n
  pub count : len block.rows ≡ length rows
  pub stored : (d : DiskId) (r : BlockRow) → get block.rows d ≡ Some r
      → (r.placed ≡ true) × (get s.chunks record { disk = d; blk = b; tag = r.tag } ≡ Some bytes)

-- the file has the block as its row with that index
pub record HasRow (s : Store) (f : FileId) (b : BlkId) (n i : ℕ) : Type 0 where
  pub file : File
  pub row : FileRow
  pub there : get s.files f ≡ Some file
  pub at : slice_get file.rows i ≡ Some row
  pub blk : row.blk ≡ b
  pub long : row.len ≡ n

-- The op's command appends these bytes, which are the block's content, and as many; the block was made with a row for each copy; the file's
-- row stands, and the block is whole.
pub record IsAcknowledged (counts : Counts) (events : List Event) (op : OpId) (f : FileId) (b : BlkId) (n i : ℕ) : Type 0 where
  pub path : List (List ℕ)
  pub bytes : List ℕ
  pub rows : List NewRow
  pub command : command_of events op ≡ Some (commands.Append path bytes)
  pub content : content_of events b ≡ Some bytes
  pub full : length bytes ≡ n
  pub made : rows_of events b ≡ Some rows
  pub copies : length rows ≡ copies_needed counts
  pub row : HasRow (stored_after opening_store events) f b n i
  pub whole : IsWhole (stored_after opening_store events) b n rows bytes

-- so is each block that was attached by these events; whether the append's client still runs, or was told, does not matter
abbrev pub AttachedBlocksStand : Counts → List Event → Type 0
AttachedBlocksStand counts events = (op : OpId) (f : FileId) (token : OpId) (b : BlkId) (n i : ℕ) → HasAttached events op f token b n i
    → IsAcknowledged counts events op f b n i

-- ---- to which file

-- by these events the op asked to attach a block to that file with that token, whatever was replied
pub record AskedToAttach (events : List Event) (op : OpId) (f : FileId) (token : OpId) : Type 0 where
  pub before : List Event
  pub b : BlkId
  pub n : ℕ
  pub hold : Hold
  pub reply : AnyReply
  pub heard : Heard
  pub rest : List Event
  pub there : events ≡ before ++ Own op (Acted (any.File (files.Attach f token b n hold)) reply heard) ∷ rest

-- the op's command is an append, and as it began, what its actor had opened last at its path was that file, with that token
pub record AppendsToOpened (events : List Event) (op : OpId) (f : FileId) (token : OpId) : Type 0 where
  pub path : List (List ℕ)
  pub bytes : List ℕ
  pub command : command_of events op ≡ Some (commands.Append path bytes)
  pub opened : WasOpen events op (commands.Append path bytes) path f token

-- so it is whenever a block is to be attached
abbrev pub AttachesAreToOpened : List Event → Type 0
AttachesAreToOpened events = (op : OpId) (f : FileId) (token : OpId) → AskedToAttach events op f token → AppendsToOpened events op f token

-- ---- tokens

-- the file's token after a request to files
abbrev pub file_token : Option OpId → FileReq → AnyReply → FileId → Option OpId
file_token now (files.TakeToken f t) x k = if file_eq k f then (if is_opened x then Some t else now) else now
file_token now (files.MakeFile f h n t) x k = if file_eq k f then (if is_made x then t else now) else now
file_token now (files.Grant f h n) x k = now
file_token now (files.Release f h) x k = now
file_token now (files.Attach f t b n h) x k = now
file_token now (files.ListBlocks f) x k = now
file_token now (files.SealFile f) x k = now

abbrev pub token_by : Option OpId → Event → FileId → Option OpId
token_by now (Own op (Acted (any.File q) x how)) k = file_token now q x k
token_by now (Own op (Acted (any.Name q) x how)) k = now
token_by now (Own op (Acted (any.Block q) x how)) k = now
token_by now (Own op (Acted (any.Disk q) x how)) k = now
token_by now (Own op (Began c)) k = now
token_by now (Own op (NotBegun c)) k = now
token_by now (Own op (Ended a)) k = now
token_by now (Own op Stopped) k = now
token_by now (Own op (Failed a)) k = now
token_by now Dumped k = now

abbrev pub token_after : Option OpId → List Event → FileId → Option OpId
token_after now [] k = now
token_after now (e ∷ es) k = token_after (token_by now e k) es k

-- the token that was written into the file last, by an open or as it was made
abbrev pub last_token : List Event → FileId → Option OpId
last_token events k = token_after None events k

-- each block was attached with the token that was the file's last
abbrev pub TokensAreLast : List Event → Type 0
TokensAreLast events = (op : OpId) (f : FileId) (token : OpId) (b : BlkId) (n i : ℕ) → (a : HasAttached events op f token b n i)
    → last_token a.before f ≡ Some token

-- by these events the op wrote that token into that file
pub record WroteToken (events : List Event) (op : OpId) (f : FileId) (token : OpId) : Type 0 where
  pub before : List Event
  pub request : FileReq
  pub reply : AnyReply
  pub heard : Heard
  pub rest : List Event
  pub there : events ≡ before ++ Own op (Acted (any.File request) reply heard) ∷ rest
  pub wrote : file_token None request reply f ≡ Some token

-- the op's command is an open
abbrev pub IsOpen : List Event → OpId → Type 0
IsOpen events op = (path : List (List ℕ)) × (command_of events op ≡ Some (commands.Open path))

-- each token that was written into a file is the op that wrote it, and the op is an open
abbrev pub TokensAreOpens : List Event → Type 0
TokensAreOpens events = (op : OpId) (f : FileId) (token : OpId) → WroteToken events op f token → (token ≡ op) × IsOpen events op
