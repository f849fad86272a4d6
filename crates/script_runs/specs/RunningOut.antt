-- Events by which a run goes on where memory is wanting.
use Rattle.std.specs.Prelude.{◌≡◌, ℕ, Bool, true, false, List, [], ◌∷◌, ◌++◌}
use Rattle.tect_ids.specs.declared.answer.Answer.TheVariants as answers
use Rattle.world_runs.specs.declared.event.Event.{Event}
use Rattle.world_runs.specs.declared.event.Event.TheVariants.{Own, Dumped}
use Rattle.world_runs.specs.declared.event.Happening.{Happening}
use Rattle.world_runs.specs.declared.event.Happening.TheVariants.{Began, NotBegun, Acted, Ended, Stopped, Failed}

-- Behind the events before, by the test whether the actor is full by then: an op begins where it has room, and is refused where it has
-- none; no transaction is done; and a command that fails does so for want of memory.
abbrev pub DoneAsFull : Bool → Happening → Type 0
DoneAsFull is_full (Began c) = is_full ≡ false
DoneAsFull is_full (NotBegun c) = is_full ≡ true
DoneAsFull is_full (Acted q x h) = ⊥
DoneAsFull is_full (Ended a) = Unit {0}
DoneAsFull is_full Stopped = Unit {0}
DoneAsFull is_full (Failed a) = a ≡ answers.NoMemory

abbrev pub HappensAsFull : (List Event → ℕ → Bool) → List Event → Event → Type 0
HappensAsFull full before (Own op h) = DoneAsFull (full before op.actor) h
HappensAsFull full before Dumped = Unit {0}

-- Of events that come after those before: none is a transaction; an op begins where the test says that its actor has room by
-- then, and is refused where it says that it has none; and a command that fails does so for want of memory.
abbrev pub RefusesAsFull : (List Event → ℕ → Bool) → List Event → List Event → Type 0
RefusesAsFull full before [] = Unit {0}
RefusesAsFull full before (e ∷ es) = HappensAsFull full before e × RefusesAsFull full (before ++ e ∷ []) es
