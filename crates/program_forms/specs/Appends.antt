-- What a command appends.
use Rattle.std.specs.Prelude.{ℕ, List, Option, None, Some}
use Rattle.tect_ids.specs.declared.command.Command.{Command}
use Rattle.tect_ids.specs.declared.command.Command.TheVariants as commands

-- the bytes that a command appends
abbrev pub command_bytes : Command → Option (List ℕ)
command_bytes (commands.Append path bytes) = Some bytes
command_bytes _ = None
