-- What the calls on one op make of the world. What each event tells is told by the run that the history is.
use Rattle.std.specs.Prelude.{◌≡◌, ℕ, ◌+◌, ◌≤◌, false, List, [], ◌∷◌, ◌++◌}
use Rattle.tect_ids.specs.declared.ids.OpId.{OpId}
use Rattle.tect_ids.specs.declared.answer.Answer.{Answer}
use Rattle.tect_ids.specs.declared.command.Command.{Command}
use Rattle.program_forms.specs.Kinds.{Programs}
use Rattle.world_runs.specs.declared.event.Event.{Event}
use Rattle.world_runs.specs.declared.event.Event.TheVariants.{Own, Dumped}
use Rattle.world_runs.specs.declared.event.Happening.{Happening}
use Rattle.world_runs.specs.declared.event.Happening.TheVariants.{Began, NotBegun, Acted, Ended, Stopped, Failed}
use Rattle.world_runs.specs.Actors.{has_ended}
use Rattle.world_runs.specs.Follows.{Acts, IsActOf, IsBeginOf, tries}
use Rattle.world_runs.specs.Moments.{running}
use Rattle.program_calls.specs.declared.turned.Turned.{Turned}
use Rattle.program_calls.specs.declared.turned.Turned.TheVariants as turns
use Rattle.world_lives.specs.Life.{Life, present, grown}

-- The op begins the command, or is refused.
pub record HasBegun (old new : Life) (op : OpId) (command : Command) : Type 0 where
  pub begin : Event
  pub begins : IsBeginOf op command begin
  pub history : new ≡ grown old (begin ∷ [])

-- an end with that answer: the op came to it, or memory or room was wanting
abbrev pub EndsBy : Happening → Answer → Type 0
EndsBy (Ended a) x = a ≡ x
EndsBy (Failed a) x = a ≡ x
EndsBy (Began c) x = ⊥
EndsBy (NotBegun c) x = ⊥
EndsBy (Acted q r h) x = ⊥
EndsBy Stopped x = ⊥

abbrev pub EndsWith : OpId → Event → Answer → Type 0
EndsWith op (Own other h) x = (other ≡ op) × EndsBy h x
EndsWith op Dumped x = ⊥

-- The op goes on by transactions to its end with that answer.
pub record RanToEnd (old new : Life) (op : OpId) (answer : Answer) : Type 0 where
  pub acts : List Event
  pub count : ℕ
  pub end : Event
  pub are_acts : Acts op count acts
  pub ends : EndsWith op end answer
  pub history : new ≡ grown old (acts ++ end ∷ [])

-- The op goes on by transactions.
pub record GoesOn (old new : Life) (op : OpId) : Type 0 where
  pub acts : List Event
  pub count : ℕ
  pub are_acts : Acts op count acts
  pub history : new ≡ grown old acts

-- It goes on by one transaction, whose reply did not end it.
pub record WentOn {S : Type 0} (P : Programs S) (old new : Life) (op : OpId) : Type 0 where
  pub act : Event
  pub is_act : IsActOf op act
  pub goes : has_ended P (present P new).counts ((present P new).actors op.actor).memory (running (present P new) op) ≡ false
  pub history : new ≡ grown old (act ∷ [])

-- A step of the op. It goes on; or it ends behind one transaction at most, and for want of room behind none.
abbrev pub Stepped : {S : Type 0} → Programs S → Life → Life → OpId → Turned → Type 0
Stepped P old new op turns.Going = WentOn P old new op
Stepped P old new op (turns.Done a) = (ran : RanToEnd old new op a) × (ran.count + tries ran.end ≤ 1)
