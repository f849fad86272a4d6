-- What the look-ups of programs leave as it is.
use Rattle.std.specs.Prelude.{◌≡◌}
use Rattle.tect_ids.specs.declared.ids.Counts.{Counts}
use Rattle.tect_ids.specs.declared.ids.OpId.{OpId}
use Rattle.program_forms.specs.Memories.{Memory}
use Rattle.program_forms.specs.Kinds.{Programs, turned}

-- looking up takes no serial
abbrev pub KeepsSerial : {S : Type 0} → Programs S → Type 0
KeepsSerial {S} P = (c : Counts) (m : Memory) (op : OpId) (s : S) → (turned P.kind c m op s).memory.serial ≡ m.serial
