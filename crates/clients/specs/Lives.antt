-- What contracts see of a client: what it noted, and what it did in ops that were refused. All else is told by that.
use Rattle.std.specs.Prelude.{◌≡◌, ℕ, ◌+◌, ◌-◌, ◌<◌, ◌≤◌, ◌^◌, ◌⊎◌, true, List, [], ◌∷◌, ◌++◌, length, None}
use Rattle.std.specs.List.{All}
use Rattle.tect_ids.specs.declared.ids.Counts.{Counts}
use Rattle.tect_ids.specs.declared.ids.OpId.{OpId}
use Rattle.tect_ids.specs.declared.command.Command.{Command}
use Rattle.tect_ids.specs.Places.{HasPlaces}
use Rattle.memories.specs.Knowing.{IsActor}
use Rattle.entry_words.specs.declared.entry.Moment.{Moment}
use Rattle.entry_words.specs.declared.entry.Moment.TheVariants.{Local}
use Rattle.entry_words.specs.declared.entry.Note.TheVariants as notes
use Rattle.entry_words.specs.Moments.{rises, all_of_actor, all_notes_of, running_in}
use Rattle.program_forms.specs.Kinds.{Programs}
use Rattle.world_runs.specs.declared.event.Event.{Event}
use Rattle.world_runs.specs.declared.event.Event.TheVariants.{Own}
use Rattle.world_runs.specs.declared.event.Happening.TheVariants.{NotBegun, Stopped}
use Rattle.world_runs.specs.Actors.{Actor, idle_actor}
use Rattle.world_runs.specs.Events.{events_of, own, IsPlaced}
use Rattle.world_runs.specs.OwnRuns.{OwnRun, own_state}
use Rattle.world_runs.specs.Limits.{IsFullForBegin, OwnLimits}
use Rattle.world_runs.specs.Refusals.{AreOfRefused}
use Rattle.world_runs.specs.Smooth.{OwnEndsAtOnce}
use Rattle.clients.specs.Refused.{RunsIn}

pub record ClientLife : Type 0 where
  pub counts : Counts
  pub actor : ℕ
  pub clock : ℕ
  pub moments : List Moment
  pub silent : List Event

-- once an op was refused, so is each further one: nothing is noted behind it
abbrev pub events_in : ClientLife → List Event
events_in life = events_of life.moments ++ life.silent

-- its actor's state is told by its events
abbrev pub state_in : {S : Type 0} → Programs S → ClientLife → Actor S
state_in P life = own_state P life.counts idle_actor (events_in life)

-- the op of its last command, and that of its next one
abbrev pub op_in : {S : Type 0} → Programs S → ClientLife → OpId
op_in P life = record { actor = life.actor; number = (state_in P life).number }

abbrev pub next_op_in : {S : Type 0} → Programs S → ClientLife → OpId
next_op_in P life = record { actor = life.actor; number = (state_in P life).number + 1 }

-- the next op is refused: its own history has not room for it, or its clock has come to the limit
abbrev pub RefusesNext : ClientLife → Type 0
RefusesNext life = IsFullForBegin (events_in life) life.actor ⊎ (2 ^ 63 ≤ life.clock)

-- before it did anything
abbrev pub idle_life : ℕ → Counts → ClientLife
idle_life actor counts = record { counts = counts; actor = actor; clock = 0; moments = []; silent = [] }

-- the next op begins the command, and that is noted
abbrev pub begun_life : {S : Type 0} → Programs S → ClientLife → Command → ClientLife
begun_life P life c =
    record life {
      clock = life.clock + 1;
      moments = life.moments ++ Local (life.clock + 1) life.actor (notes.Began (next_op_in P life) c) ∷ [];
    }

-- it is refused, and nothing is noted
abbrev pub refused_life : {S : Type 0} → Programs S → ClientLife → Command → ClientLife
refused_life P life c = record life { silent = life.silent ++ Own (next_op_in P life) (NotBegun c) ∷ [] }

-- one of the two, as there is room
abbrev pub Begins : {S : Type 0} → Programs S → ClientLife → ClientLife → Command → Type 0
Begins P old new c = ((¬ RefusesNext old) × (new ≡ begun_life P old c)) ⊎ (RefusesNext old × (new ≡ refused_life P old c))

-- it stops for good, which is noted, but not in an op that was refused
abbrev pub stopped_with : {S : Type 0} → Programs S → ClientLife → List Event → ClientLife
stopped_with P life [] =
    record life { clock = life.clock + 1; moments = life.moments ++ Local (life.clock + 1) life.actor (notes.Stopped (op_in P life)) ∷ [] }
stopped_with P life (e ∷ es) = record life { silent = life.silent ++ Own (op_in P life) Stopped ∷ [] }

abbrev pub stopped_life : {S : Type 0} → Programs S → ClientLife → ClientLife
stopped_life P life = stopped_with P life life.silent

-- how many moments more its pass may have
abbrev pub left_in : ClientLife → ℕ
left_in life = 65536 - length life.moments

-- What is so of each client: its events are a run of its own, in which each command ends at once when its last reply gave its answer,
-- and keep its limits, unless its clock has come to its own. Nothing but refused ops is not noted.
pub record IsLife {S : Type 0} (P : Programs S) (life : ClientLife) : Type 0 where
  pub places : HasPlaces life.counts
  pub is_actor : IsActor life.actor
  pub run : OwnRun P life.counts idle_actor (events_in life)
  pub prompt : OwnEndsAtOnce P life.counts idle_actor (events_in life)
  pub limits : life.clock < 2 ^ 63 → OwnLimits P life.counts [] idle_actor (events_in life)
  pub own : own life.actor (events_in life) ≡ events_in life
  pub few : length life.moments ≤ 65536
  pub moments_own : all_of_actor life.actor life.moments ≡ true
  pub notes_own : all_notes_of life.actor life.moments ≡ true
  pub rising : rises 0 life.clock life.moments ≡ true
  pub placed : All (IsPlaced life.counts) life.moments
  pub silent : AreOfRefused [] life.silent
  pub going : RunsIn life.silent (running_in None life.moments) (state_in P life).running
