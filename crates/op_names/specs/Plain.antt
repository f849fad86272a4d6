-- The answers that a running command carries are no want of memory or of room.
use Rattle.program_forms.specs.Lacks.{IsLack}
use Rattle.program_parts.specs.declared.walking.Walking.{Walking}
use Rattle.program_parts.specs.declared.walking.Walking.TheVariants.{Way, There}
use Rattle.program_rules.specs.declared.states.Make.{Make}
use Rattle.program_rules.specs.declared.states.Make.TheVariants as making
use Rattle.program_rules.specs.declared.states.Delete.{Delete}
use Rattle.program_rules.specs.declared.states.Delete.TheVariants as deleting
use Rattle.program_rules.specs.declared.states.Rename.{Rename}
use Rattle.program_rules.specs.declared.states.Rename.TheVariants as renaming
use Rattle.program_rules.specs.declared.operation.Operation.{Operation}
use Rattle.program_rules.specs.declared.operation.OperationState.{OperationState}
use Rattle.program_rules.specs.declared.operation.OperationState.TheVariants.{Look, List}
use Rattle.program_rules.specs.declared.operation.OperationState.TheVariants.{Make as Making, Delete as Deleting, Rename as Renaming}
use Rattle.program_rules.specs.declared.operation.OperationState.TheVariants.{Open, Append, Blocks, Read, Seal}
use Rattle.program_rules.specs.Served.{Program}
use Rattle.op_files.specs.Plain.{IsPlainNext, IsPlainOpen, IsPlainAppend, IsPlainBlocks, IsPlainRead}

abbrev pub IsPlainMake : Make → Type 0
IsPlainMake (making.Release r) = ¬ IsLack r.answer
IsPlainMake _ = Unit {0}

abbrev pub IsPlainDelete : Delete → Type 0
IsPlainDelete (deleting.Release r) = ¬ IsLack r.answer
IsPlainDelete _ = Unit {0}

abbrev pub IsPlainRename : Rename → Type 0
IsPlainRename (renaming.Release r) = ¬ IsLack r.answer
IsPlainRename _ = Unit {0}

abbrev pub IsPlainOperation : OperationState → Type 0
IsPlainOperation (Look s) = Unit {0}
IsPlainOperation (List s) = Unit {0}
IsPlainOperation (Making s) = IsPlainMake s
IsPlainOperation (Deleting s) = IsPlainDelete s
IsPlainOperation (Renaming s) = IsPlainRename s
IsPlainOperation (Open s) = IsPlainOpen s
IsPlainOperation (Append s) = IsPlainAppend s
IsPlainOperation (Blocks s) = IsPlainBlocks s
IsPlainOperation (Read s) = IsPlainRead s
IsPlainOperation (Seal s) = Unit {0}

abbrev pub IsPlainWalking : Walking Operation OperationState → Type 0
IsPlainWalking (Way d n ns o) = Unit {0}
IsPlainWalking (There s) = IsPlainOperation s

-- a command's state
abbrev pub IsPlainState : Program → Type 0
IsPlainState = IsPlainNext IsPlainWalking
