-- No command looks anything up before its requests.
use Rattle.std.specs.Prelude.{◌≡◌, refl}
use Rattle.tect_ids.specs.declared.ids.Counts.{Counts}
use Rattle.tect_ids.specs.declared.ids.OpId.{OpId}
use Rattle.program_forms.specs.Memories.{Memory}
use Rattle.program_forms.specs.Kinds.{Turned, turned}
use Rattle.program_calls.specs.Keeping.{KeepsSerial}
use Rattle.program_parts.specs.declared.next.Next.TheVariants.{Goes, Comes}
use Rattle.program_parts.specs.declared.walking.Walking.TheVariants.{Way, There}
use Rattle.program_rules.specs.declared.operation.OperationState.TheVariants.{Look, List, Make, Delete, Rename, Open, Append, Blocks, Read}
use Rattle.program_rules.specs.declared.operation.OperationState.TheVariants.{Seal}
use Rattle.program_rules.specs.Served.{Program, programs}

-- what an actor knows, and where its command stands
abbrev pub as_before : Memory → Program → Turned Program
as_before m p = record { memory = m; state = p }

pub looks_nothing : (c : Counts) (m : Memory) (op : OpId) (p : Program) → turned programs.kind c m op p ≡ as_before m p
looks_nothing c m op (Comes a) = refl
looks_nothing c m op (Goes (Way d n ns o)) = refl
looks_nothing c m op (Goes (There (Look s))) = refl
looks_nothing c m op (Goes (There (List s))) = refl
looks_nothing c m op (Goes (There (Make s))) = refl
looks_nothing c m op (Goes (There (Delete s))) = refl
looks_nothing c m op (Goes (There (Rename s))) = refl
looks_nothing c m op (Goes (There (Open s))) = refl
looks_nothing c m op (Goes (There (Append s))) = refl
looks_nothing c m op (Goes (There (Blocks s))) = refl
looks_nothing c m op (Goes (There (Read s))) = refl
looks_nothing c m op (Goes (There (Seal s))) = refl

pub no_serial : KeepsSerial programs
no_serial c m op p i = (looks_nothing c m op p i).memory.serial
