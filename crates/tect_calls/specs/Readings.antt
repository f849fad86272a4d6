-- What a reply gives to the command that made the request: the tokens that it teaches, each where the command needs it.
use Rattle.std.specs.Prelude.{Bool, if◌then◌else◌, Option, Some, None, List}
use Rattle.tect_ids.specs.declared.ids.BlkId.{BlkId}
use Rattle.tect_ids.specs.declared.ids.DirId.{DirId}
use Rattle.tect_ids.specs.declared.ids.FileId.{FileId}
use Rattle.tect_ids.specs.declared.ids.Hold.{Hold}
use Rattle.tect_ids.specs.declared.ids.Node.{Node}
use Rattle.tect_ids.specs.declared.ids.Node.TheVariants as nodes
use Rattle.tect_ids.specs.declared.values.NewRow.{NewRow}
use Rattle.store_rules.specs.declared.names.Replaced.{Replaced}
use Rattle.store_rules.specs.Holds.{RowGrant}
use Rattle.tect_calls.specs.declared.tokens.Freed.{Freed}
use Rattle.tect_calls.specs.MadeBlocks.{NewBlock}

-- the directory that was found
abbrev pub dir_in : Option Node → Option DirId
dir_in (Some (nodes.Dir d)) = Some d
dir_in (Some (nodes.File f)) = None
dir_in None = None

-- the hold that was asked for, where it was granted
abbrev pub hold_if : Hold → Bool → Option Hold
hold_if h granted = if granted then Some h else None

-- the hold of a file that was replaced can be released
abbrev pub freed_old : Option Replaced → Option Freed
freed_old None = None
freed_old (Some old) = Some record { node = nodes.File old.file; hold = old.hold }

abbrev pub bound_freed : Option (Option Replaced) → Option (Option Freed)
bound_freed None = None
bound_freed (Some old) = Some (freed_old old)

-- so can the node's hold for its old name, and that of a file that was replaced
abbrev pub swapped_freed : Node → Option (Hold × Option Replaced) → Option (Freed × Option Freed)
swapped_freed n None = None
swapped_freed n (Some p) = Some (record { node = n; hold = p.0 }, freed_old p.1)

abbrev pub unbound_freed : Option (Node × Hold) → Option Freed
unbound_freed None = None
unbound_freed (Some p) = Some record { node = p.0; hold = p.1 }

-- what was asked for, where it was done
abbrev pub given_if : {X : Type 0} → X → Bool → Option X
given_if x done = if done then Some x else None

-- a block with its rows, and its hold for a row of the file
abbrev pub new_block : BlkId → FileId → Hold → List NewRow → NewBlock × RowGrant
new_block b f h rows = (record { blk = b; rows = rows }, record { blk = b; hold = h; file = f })
