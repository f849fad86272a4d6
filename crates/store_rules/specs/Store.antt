-- The whole store: the shards of a layer taken together as one map. A request goes to one layer.
use Rattle.std.specs.Prelude.{Bool, if◌then◌else◌}
use Rattle.std.specs.FinMap.{empty}
use Rattle.store_rules.specs.declared.any.AnyReq.{AnyReq}
use Rattle.store_rules.specs.declared.any.AnyReq.TheVariants as any
use Rattle.store_rules.specs.declared.any.AnyReply.{AnyReply}
use Rattle.store_rules.specs.declared.any.AnyReply.TheVariants as reply_of
use Rattle.store_rules.specs.Outcomes.{reply, changes}
use Rattle.store_rules.specs.Names.{Names, root_names, name_answer, name_change}
use Rattle.store_rules.specs.Files.{Files, file_answer, file_change}
use Rattle.store_rules.specs.Blocks.{Blocks, block_answer, block_change}
use Rattle.store_rules.specs.Disks.{Chunks, disk_answer, disk_change}

pub record Store : Type 0 where
  pub names : Names
  pub files : Files
  pub blocks : Blocks
  pub chunks : Chunks

-- the store before anything was done: the root alone
abbrev pub opening_store : Store
opening_store = record { names = root_names; files = empty; blocks = empty; chunks = empty }

-- what the store replies
abbrev pub store_reply : Store → AnyReq → AnyReply
store_reply s (any.Name q) = reply_of.Name (reply (name_answer s.names q))
store_reply s (any.File q) = reply_of.File (reply (file_answer s.files q))
store_reply s (any.Block q) = reply_of.Block (reply (block_answer s.blocks q))
store_reply s (any.Disk q) = reply_of.Disk (reply (disk_answer s.chunks q))

-- whether the request is not refused, and no mere reading
abbrev pub store_changes : Store → AnyReq → Bool
store_changes s (any.Name q) = changes (name_answer s.names q)
store_changes s (any.File q) = changes (file_answer s.files q)
store_changes s (any.Block q) = changes (block_answer s.blocks q)
store_changes s (any.Disk q) = changes (disk_answer s.chunks q)

-- what a request does where it changes the store
abbrev pub store_change : Store → AnyReq → Store
store_change s (any.Name q) = record s { names = name_change s.names q }
store_change s (any.File q) = record s { files = file_change s.files q }
store_change s (any.Block q) = record s { blocks = block_change s.blocks q }
store_change s (any.Disk q) = record s { chunks = disk_change s.chunks q }

abbrev pub store_step : Store → AnyReq → Store
store_step s q = if store_changes s q then store_change s q else s
