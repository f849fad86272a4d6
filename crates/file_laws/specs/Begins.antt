-- What an append knows as it begins.
use Rattle.std.specs.Prelude.{◌≡◌, ℕ, ◌≤◌, List, Some}
use Rattle.tect_ids.specs.declared.ids.Counts.{Counts}
use Rattle.tect_ids.specs.declared.ids.OpId.{OpId}
use Rattle.tect_ids.specs.declared.command.Command.{Command}
use Rattle.program_forms.specs.Appends.{command_bytes}
use Rattle.program_forms.specs.Memories.{Memory}
use Rattle.file_rules.specs.Append.{append_starts}
use Rattle.store_pasts.specs.Worlds.{World}
use Rattle.program_laws.specs.Known.{IsNewOp, HasSaid, Remembers}
use Rattle.part_laws.specs.Parts.{NextKnows}
use Rattle.file_laws.specs.Known.{append_known}

-- Where its op is new, a serial is left for it and it has said the bytes that its command appends, and where its actor's memory is true,
-- an append knows what it has to.
abbrev pub AppendBegins : Type 0
AppendBegins =
    (c : Counts) (w : World) (op : OpId) (m : Memory) (k : Command) (path : List (List ℕ)) (bytes : List ℕ)
    → command_bytes k ≡ Some bytes → IsNewOp w op → HasSaid w op k → Remembers w op.actor m → m.serial ≤ op.number
    → NextKnows append_known w op m (append_starts c m path bytes)
