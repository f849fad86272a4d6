-- The command of an op in a history, and the content of a block: what the op appends that made it.
use Rattle.std.specs.Prelude.{ℕ, Bool, true, false, ◌&&◌, if◌then◌else◌, Option, Some, None, List, [], ◌∷◌}
use Rattle.tect_ids.specs.declared.ids.BlkId.{BlkId}
use Rattle.tect_ids.specs.declared.ids.OpId.{OpId}
use Rattle.tect_ids.specs.declared.command.Command.{Command}
use Rattle.tect_ids.specs.Keys.{blk_eq, op_eq}
use Rattle.store_rules.specs.declared.blocks.BlockReq.{BlockReq}
use Rattle.store_rules.specs.declared.blocks.BlockReq.TheVariants as blocks
use Rattle.store_rules.specs.declared.any.AnyReq.{AnyReq}
use Rattle.store_rules.specs.declared.any.AnyReq.TheVariants as any
use Rattle.store_rules.specs.declared.any.AnyReply.{AnyReply}
use Rattle.store_rules.specs.Views.{is_made}
use Rattle.program_forms.specs.Appends.{command_bytes}
use Rattle.world_runs.specs.declared.event.Event.{Event}
use Rattle.world_runs.specs.declared.event.Event.TheVariants.{Own, Dumped}
use Rattle.world_runs.specs.declared.event.Happening.TheVariants.{Began, NotBegun, Acted, Ended, Stopped, Failed}

abbrev pub begun_by : Event → OpId → Option Command
begun_by (Own other (Began c)) op = if op_eq other op then Some c else None
begun_by (Own other (NotBegun c)) op = None
begun_by (Own other (Acted q x h)) op = None
begun_by (Own other (Ended a)) op = None
begun_by (Own other Stopped) op = None
begun_by (Own other (Failed a)) op = None
begun_by Dumped op = None

-- what was first stays
abbrev pub or_later : {X : Type 0} → Option X → Option X → Option X
or_later None later = later
or_later (Some c) later = Some c

-- the command that the op began
abbrev pub command_of : List Event → OpId → Option Command
command_of [] op = None
command_of (e ∷ es) op = or_later (begun_by e op) (command_of es op)

-- ---- blocks

-- whether the request makes that block
abbrev pub is_making : BlockReq → BlkId → Bool
is_making (blocks.MakeBlock b c n f h rs) k = blk_eq k b
is_making (blocks.SealBlock b) k = false
is_making (blocks.GetBlock b) k = false
is_making (blocks.Grant b h f) k = false
is_making (blocks.Release b h) k = false

abbrev pub makes_block : AnyReq → BlkId → Bool
makes_block (any.Name q) k = false
makes_block (any.File q) k = false
makes_block (any.Block q) k = is_making q k
makes_block (any.Disk q) k = false

-- the op that made the block by this event
abbrev pub maker_by : Event → BlkId → Option OpId
maker_by (Own op (Acted q x h)) b = if makes_block q b && is_made x then Some op else None
maker_by (Own op (Began c)) b = None
maker_by (Own op (NotBegun c)) b = None
maker_by (Own op (Ended a)) b = None
maker_by (Own op Stopped) b = None
maker_by (Own op (Failed a)) b = None
maker_by Dumped b = None

-- the op that made the block
abbrev pub maker_of : List Event → BlkId → Option OpId
maker_of [] b = None
maker_of (e ∷ es) b = or_later (maker_by e b) (maker_of es b)

-- what an op appends: it is said at its begin
abbrev pub said_by : Event → OpId → Option (List ℕ)
said_by (Own other (Began c)) op = if op_eq other op then command_bytes c else None
said_by (Own other (NotBegun c)) op = None
said_by (Own other (Acted q x h)) op = None
said_by (Own other (Ended a)) op = None
said_by (Own other Stopped) op = None
said_by (Own other (Failed a)) op = None
said_by Dumped op = None

abbrev pub said_in : List Event → OpId → Option (List ℕ)
said_in [] op = None
said_in (e ∷ es) op = or_later (said_by e op) (said_in es op)

abbrev pub bytes_by : List Event → Option OpId → Option (List ℕ)
bytes_by h None = None
bytes_by h (Some op) = said_in h op

-- the content of a block
abbrev pub content_of : List Event → BlkId → Option (List ℕ)
content_of h b = bytes_by h (maker_of h b)

abbrev pub or_nothing : Option (List ℕ) → List ℕ
or_nothing None = []
or_nothing (Some bytes) = bytes

-- the same, without bytes where no such op made it
abbrev pub content_in : List Event → BlkId → List ℕ
content_in h b = or_nothing (content_of h b)
