-- what is owed of each request of a running op: of one that attaches a block, that writes a token, or that makes a block
use Rattle.std.proofs.Common.{◌≡◌, ℕ, Some, None, List, ◌∷◌, ◌++◌, length}
use Rattle.tect_ids.specs.declared.ids.BlkId.{BlkId}
use Rattle.tect_ids.specs.declared.ids.Counts.{Counts}
use Rattle.tect_ids.specs.declared.ids.FileId.{FileId}
use Rattle.tect_ids.specs.declared.ids.OpId.{OpId}
use Rattle.tect_ids.specs.declared.command.Command.{Command}
use Rattle.tect_ids.specs.declared.command.Command.TheVariants as commands
use Rattle.store_rules.specs.declared.blocks.BlockReq.{BlockReq}
use Rattle.store_rules.specs.declared.blocks.BlockReq.TheVariants as blocks
use Rattle.store_rules.specs.declared.files.FileReq.{FileReq}
use Rattle.store_rules.specs.declared.files.FileReq.TheVariants as files
use Rattle.store_rules.specs.declared.any.AnyReq.{AnyReq}
use Rattle.store_rules.specs.declared.any.AnyReq.TheVariants as any
use Rattle.store_rules.specs.declared.any.AnyReply.{AnyReply}
use Rattle.program_forms.specs.declared.heard.Heard.{Heard}
use Rattle.program_forms.specs.Kinds.{Programs}
use Rattle.world_runs.specs.declared.event.Event.{Event}
use Rattle.world_runs.specs.declared.event.Event.TheVariants.{Own}
use Rattle.world_runs.specs.declared.event.Happening.TheVariants.{Acted}
use Rattle.world_runs.specs.Moments.{IsWorldRun}
use Rattle.claim_words.specs.Commands.{command_of, content_of}
use Rattle.claim_words.specs.FilesBecause.{WasOpen, copies_needed}

-- the command appends the block's bytes to the file that was open at its path, with the token
pub record IsAppend (h : List Event) (op : OpId) (c : Command) (f : FileId) (token : OpId) (b : BlkId) : Type 0 where
  pub path : List (List ℕ)
  pub bytes : List ℕ
  pub is : c ≡ commands.Append path bytes
  pub content : content_of h b ≡ Some bytes
  pub opened : WasOpen h op c path f token

-- the token is the op itself, which opens
abbrev pub IsOwnToken : OpId → Command → OpId → Type 0
IsOwnToken op c token = (token ≡ op) × ((path : List (List ℕ)) × (c ≡ commands.Open path))

abbrev pub FileOwes : List Event → OpId → Command → FileReq → Type 0
FileOwes h op c (files.MakeFile f g k t) = t ≡ None
FileOwes h op c (files.Grant f g k) = Unit {0}
FileOwes h op c (files.Release f g) = Unit {0}
FileOwes h op c (files.TakeToken f t) = IsOwnToken op c t
FileOwes h op c (files.Attach f t b n g) = IsAppend h op c f t b
FileOwes h op c (files.ListBlocks f) = Unit {0}
FileOwes h op c (files.SealFile f) = Unit {0}

-- a block is made with a row for each copy
abbrev pub BlockOwes : Counts → BlockReq → Type 0
BlockOwes counts (blocks.MakeBlock b k n f g rows) = length rows ≡ copies_needed counts
BlockOwes counts (blocks.SealBlock b) = Unit {0}
BlockOwes counts (blocks.GetBlock b) = Unit {0}
BlockOwes counts (blocks.Grant b g f) = Unit {0}
BlockOwes counts (blocks.Release b g) = Unit {0}

abbrev pub Owes : Counts → List Event → OpId → Command → AnyReq → Type 0
Owes counts h op c (any.Name q) = Unit {0}
Owes counts h op c (any.File q) = FileOwes h op c q
Owes counts h op c (any.Block q) = BlockOwes counts q
Owes counts h op c (any.Disk q) = Unit {0}

-- the op began a command by this history, and of it that is so
pub record Owing (counts : Counts) (h : List Event) (op : OpId) (q : AnyReq) : Type 0 where
  pub command : Command
  pub begun : command_of h op ≡ Some command
  pub owes : Owes counts h op command q

-- in each run it is so of each request
abbrev pub RequestsOwe : {S : Type 0} → Programs S → Type 0
RequestsOwe P =
    (counts : Counts) (h es : List Event) (op : OpId) (q : AnyReq) (x : AnyReply) (how : Heard)
    → IsWorldRun P counts (h ++ Own op (Acted q x how) ∷ es) → Owing counts h op q
