-- What is so at every moment of a run.
use Rattle.std.specs.Prelude.{◌≡◌, ℕ, ◌+◌, ◌<◌, ◌≤◌, ◌^◌, Option, Some, None, List}
use Rattle.tect_ids.specs.declared.ids.Counts.{Counts}
use Rattle.tect_ids.specs.declared.ids.Hold.{Hold}
use Rattle.tect_ids.specs.declared.ids.OpId.{OpId}
use Rattle.tect_ids.specs.declared.ids.Tag.{Tag}
use Rattle.tect_ids.specs.declared.answer.Answer.{Answer}
use Rattle.program_forms.specs.declared.standing.Standing.{Standing}
use Rattle.program_forms.specs.declared.standing.Standing.TheVariants.{Goes, Left, NoRoom}
use Rattle.program_forms.specs.Memories.{Memory}
use Rattle.program_forms.specs.Kinds.{Programs}
use Rattle.world_runs.specs.declared.event.Event.{Event}
use Rattle.world_runs.specs.Actors.{Actor, Running}
use Rattle.world_runs.specs.Moments.{WorldState, IsWorldRun, moment}
use Rattle.store_pasts.specs.Worlds.{World, Ghost}
use Rattle.store_world.specs.Sound.{Sound}
use Rattle.program_laws.specs.Known.{Deciding, Known, Remembers}
use Rattle.run_laws.specs.Pasts.{world_of, ghosts}

-- what a command knows where it stands: once it did not hear a reply it knows nothing, and a refused op has no use for anything
abbrev pub StandingKnows : {S : Type 0} → Known S Answer → World → OpId → Memory → Standing S → Type 0
StandingKnows N w op m (Goes s) = N.Knows w op m s
StandingKnows N w op m Left = Unit {0}
StandingKnows N w op m NoRoom = Unit {0}

-- the actor's running command: it is the last that it began
pub record RunsSoundly {S : Type 0} (N : Known S Answer) (w : World) (a : ℕ) (m : Memory) (number : ℕ) (r : Running S) : Type 0 where
  pub own : r.op.actor ≡ a
  pub last : r.op.number ≡ number
  pub is_actor : (1 ≤ a) × (a ≤ 65)
  pub at : StandingKnows N w r.op m r.at

-- the same of an actor that may be idle
abbrev pub RunningKnows : {S : Type 0} → Known S Answer → World → ℕ → Memory → ℕ → Option (Running S) → Type 0
RunningKnows N w a m number None = Unit {0}
RunningKnows N w a m number (Some r) = RunsSoundly N w a m number r

-- Of an actor: its memory is true, an op that it has not begun was granted no hold, gave no tag to a row and said nothing, and each op makes
-- at most one object.
pub record ActorSound {S : Type 0} (N : Known S Answer) (w : World) (a : ℕ) (actor : Actor S) : Type 0 where
  pub remembers : Remembers w a actor.memory
  pub ahead : (h : Hold) → h.op.actor ≡ a → actor.number < h.op.number → w.ghost.given h ≡ None
  pub ahead_rows : (h : Hold) → h.op.actor ≡ a → actor.number < h.op.number → w.ghost.row_given h ≡ None
  pub ahead_tags : (t : Tag) → t.op.actor ≡ a → actor.number < t.op.number → w.ghost.tagged t ≡ None
  pub unsaid : (op : OpId) → op.actor ≡ a → actor.number < op.number → w.ghost.said op ≡ None
  pub few_made : actor.memory.serial ≤ actor.number + 1
  pub few_begun : actor.number < 2 ^ 31
  pub running : RunningKnows N w a actor.memory actor.number actor.running

-- of all
pub record AllSound {S : Type 0} (N : Known S Answer) (m : WorldState S) (g : Ghost) : Type 0 where
  pub sound : Sound (world_of m g)
  pub actors : (a : ℕ) → ActorSound N (world_of m g) a (m.actors a)

-- after every run the store beside its past is sound, each actor's memory is true, and what its running command knows is so
abbrev pub WhatIsKnownIsSo : {S : Type 0} → Programs S → Deciding S Answer → Known S Answer → Type 0
WhatIsKnownIsSo P D N =
    (counts : Counts) (events : List Event) → IsWorldRun P counts events → AllSound N (moment P counts events) (ghosts P D counts events)
