-- What contracts see of the world: its counts and its history. All else is the moment after the history.
use Rattle.std.specs.Prelude.{ℕ, ◌+◌, ◌-◌, List, ◌++◌}
use Rattle.tect_ids.specs.declared.ids.Counts.{Counts}
use Rattle.tect_ids.specs.declared.ids.OpId.{OpId}
use Rattle.program_forms.specs.Kinds.{Programs}
use Rattle.world_runs.specs.declared.event.Event.{Event}
use Rattle.world_runs.specs.Limits.{used}
use Rattle.world_runs.specs.Moments.{WorldState, moment}

pub record Life : Type 0 where
  pub counts : Counts
  pub history : List Event

-- the present moment
abbrev pub present : {S : Type 0} → Programs S → Life → WorldState S
present P w = moment P w.counts w.history

-- the life after further events
abbrev pub grown : Life → List Event → Life
grown w es = record w { history = w.history ++ es }

-- the op of the actor's last command, and that of its next one
abbrev pub last_op : {S : Type 0} → WorldState S → ℕ → OpId
last_op m a = record { actor = a; number = (m.actors a).number }

abbrev pub next_op : {S : Type 0} → WorldState S → ℕ → OpId
next_op m a = record { actor = a; number = (m.actors a).number + 1 }

-- for how many moments more the actor's own history has room
abbrev pub room_at : Life → ℕ → ℕ
room_at w a = 65536 - used w.history a
