-- What an actor knows between commands.
use Rattle.std.specs.Prelude.{ℕ, ◌≤◌}
use Rattle.tect_ids.specs.declared.ids.Counts.{Counts}
use Rattle.tect_ids.specs.declared.ids.OpId.{OpId}
use Rattle.tect_ids.specs.Numbers.{object_number}
use Rattle.program_forms.specs.Memories.{Memory}

pub record Known : Type 0 where
  pub actor : ℕ
  pub counts : Counts
  pub memory : Memory

-- the number of the next object that it makes as that op
abbrev pub number_for : Known → OpId → ℕ
number_for m op = object_number op.actor m.memory.serial

-- the clients, and the house
abbrev pub IsActor : ℕ → Type 0
IsActor n = (1 ≤ n) × (n ≤ 65)
