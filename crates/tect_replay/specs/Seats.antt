-- How the world grew by what one actor of it did.
use Rattle.std.specs.Prelude.{◌≡◌, List}
use Rattle.program_forms.specs.Kinds.{Programs}
use Rattle.world_runs.specs.declared.event.Event.{Event}
use Rattle.world_runs.specs.Events.{own}
use Rattle.world_runs.specs.Smooth.{EndsAtOnce}
use Rattle.world_lives.specs.Life.{Life, present, grown}
use Rattle.tect_replay.specs.declared.seat.Seat.{Seat}

-- It grew by these events, which are that actor's; and where a transaction is the last of a command, its end is next.
pub record SeatGrew {S : Type 0} (P : Programs S) (s : Seat) (old : Life) (t : Seat) (new : Life) (events : List Event) : Type 0 where
  pub seat : t ≡ s
  pub history : new ≡ grown old events
  pub mine : own s.actor events ≡ events
  pub at_once : EndsAtOnce P (present P old) events
