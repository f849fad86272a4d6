-- How the actors stand at a moment: the op that each is busy with, and what its client's state tells of it.
use Rattle.std.specs.Prelude.{◌≡◌, ℕ, ◌≤◌, false, None}
use Rattle.world_runs.specs.Actors.{Actor, Running, running_op}
use Rattle.world_runs.specs.Moments.{WorldState}
use Rattle.world_runs.specs.Follows.{Busy}
use Rattle.whole_runs.specs.ClientStates.{ClientState}
use Rattle.whole_runs.specs.ClientStates as states

-- the ops that are busy at the moment, by actor
abbrev pub busy_at : {S : Type 0} → WorldState S → Busy
busy_at m actor = running_op (m.actors actor).running

-- what its client's state tells of an actor: whether it may go on, and whether its command has ended
abbrev pub IsInState : {S : Type 0} → ClientState → Actor S → Type 0
IsInState states.Idle a = (a.running ≡ None) × (a.stopped ≡ false)
IsInState states.Busy a = a.stopped ≡ false
IsInState states.Gone a = a.running ≡ None

-- the command is the last that the actor began, and the actor is one of 65
pub record IsLastBegun {S : Type 0} (a : ℕ) (actor : Actor S) (r : Running S) : Type 0 where
  pub own : r.op.actor ≡ a
  pub last : r.op.number ≡ actor.number
  pub is_actor : (1 ≤ a) × (a ≤ 65)
