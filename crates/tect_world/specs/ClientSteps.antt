-- What the calls on one client do to it, to the clock of the run and to the order.
use Rattle.std.specs.Prelude.{◌≡◌, ℕ, Bool, if◌then◌else◌, List, [], ◌∷◌, ◌++◌, Option}
use Rattle.tect_ids.specs.declared.answer.Answer.{Answer}
use Rattle.tect_ids.specs.declared.command.Command.{Command}
use Rattle.program_forms.specs.Kinds.{Programs}
use Rattle.clients.specs.Lives.{ClientLife, Begins, stopped_life, op_in}
use Rattle.clients.specs.Steps.{Tried, OwnStep, tried_events, end_events}
use Rattle.program_calls.specs.declared.turned.Turned.{Turned}
use Rattle.program_calls.specs.declared.turned.Turned.TheVariants as turns
use Rattle.world_runs.specs.declared.event.Event.{Event}
use Rattle.kept_shards.specs.KeptStore.{KeptStore}
use Rattle.kept_shards.specs.KeptStore as kept
use Rattle.world_lives.specs.declared.marks.Mark.{Mark}
use Rattle.world_lives.specs.declared.marks.Mark.TheVariants.{Actor}
use Rattle.tect_world.specs.Clients.{raised}

-- a mark for each event
abbrev pub marks_for : ℕ → List Event → List Mark
marks_for a [] = []
marks_for a (e ∷ es) = Actor a ∷ marks_for a es

-- the same for a transaction, if one was done, and for the end, if it came
abbrev pub act_marks : ℕ → Bool → List Mark
act_marks a acted = if acted then Actor a ∷ [] else []

abbrev pub end_marks : ℕ → Turned → List Mark
end_marks a turns.Going = []
end_marks a (turns.Done x) = Actor a ∷ []

-- the events of a step
abbrev pub stepped_events : {S : Type 0} → Programs S → ClientLife → Tried → Option Answer → List Event
stepped_events P l tried answer = tried_events (op_in P l) tried ++ end_events l.silent (op_in P l) answer

-- one step of the client, at the clock of the run
pub record StepsOnce {S : Type 0} (P : Programs S) (w v : KeptStore) (old new : ClientLife) (from to : ℕ) (before after : List Mark)
    (turned : Turned) : Type 0 where
  pub step : OwnStep P kept.Did w v (raised old from) new turned
  pub clock : to ≡ new.clock
  pub order : after ≡ before ++ marks_for old.actor (stepped_events P (raised old from) step.tried step.answer)

-- the client began a command, or stopped
pub record BeginsOnce {S : Type 0} (P : Programs S) (old new : ClientLife) (command : Command) (from to : ℕ) (before after : List Mark)
    : Type 0 where
  pub begins : Begins P (raised old from) new command
  pub clock : to ≡ new.clock
  pub order : after ≡ before ++ Actor old.actor ∷ []

pub record StopsOnce {S : Type 0} (P : Programs S) (old new : ClientLife) (from to : ℕ) (before after : List Mark) : Type 0 where
  pub stops : new ≡ stopped_life P (raised old from)
  pub clock : to ≡ new.clock
  pub order : after ≡ before ++ Actor old.actor ∷ []

-- it could not begin for want of memory: its clock alone may be later
pub record StaysSo (old new : ClientLife) (from to : ℕ) (before after : List Mark) : Type 0 where
  pub stays : new ≡ raised old from
  pub clock : to ≡ from
  pub order : after ≡ before
