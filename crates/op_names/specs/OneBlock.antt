-- The hold of a running append is at the block that it made.
use Rattle.program_parts.specs.declared.next.Next.TheVariants.{Goes, Comes}
use Rattle.program_parts.specs.declared.walking.Walking.{Walking}
use Rattle.program_parts.specs.declared.walking.Walking.TheVariants.{Way, There}
use Rattle.program_rules.specs.declared.operation.Operation.{Operation}
use Rattle.program_rules.specs.declared.operation.OperationState.{OperationState}
use Rattle.program_rules.specs.declared.operation.OperationState.TheVariants.{Append}
use Rattle.program_rules.specs.Served.{Program}
use Rattle.op_files.specs.OneBlock as appends

abbrev pub IsOfOneBlock : OperationState → Type 0
IsOfOneBlock (Append s) = appends.IsOfOneBlock s
IsOfOneBlock _ = Unit {0}

abbrev pub WalksWithOneBlock : Walking Operation OperationState → Type 0
WalksWithOneBlock (Way d n ns o) = Unit {0}
WalksWithOneBlock (There s) = IsOfOneBlock s

-- a command's state
abbrev pub RunsWithOneBlock : Program → Type 0
RunsWithOneBlock (Goes s) = WalksWithOneBlock s
RunsWithOneBlock (Comes a) = Unit {0}
