-- A player of a client's lines: what its calls make of it and of the place where it plays, and what is so of each player.
use Rattle.std.specs.Prelude.{◌≡◌, ℕ, ◌+◌, ◌≤◌, List, [], ◌∷◌, ◌++◌, Option, Some, None, IsSome}
use Rattle.tect_ids.specs.declared.ids.Counts.{Counts}
use Rattle.tect_ids.specs.declared.ids.OpId.{OpId}
use Rattle.tect_ids.specs.declared.answer.Answer.{Answer}
use Rattle.tect_ids.specs.declared.command.Command.{Command}
use Rattle.tect_ids.specs.declared.script.Act.{Act}
use Rattle.tect_ids.specs.declared.script.ReportLine.{ReportLine}
use Rattle.program_forms.specs.Kinds.{Programs}
use Rattle.entry_words.specs.declared.entry.Label.{Label}
use Rattle.world_runs.specs.declared.event.Event.{Event}
use Rattle.world_runs.specs.declared.event.Event.TheVariants.{Own, Dumped}
use Rattle.world_runs.specs.declared.event.Happening.{Happening}
use Rattle.world_runs.specs.declared.event.Happening.TheVariants.{Began, NotBegun, Acted, Ended, Stopped, Failed}
use Rattle.world_runs.specs.Actors.{Actor, running_op}
use Rattle.world_runs.specs.Follows.{Acts, DoesLine, IsBeginOf, tries}
use Rattle.world_runs.specs.OwnRuns.{own_state}
use Rattle.world_runs.specs.Races.{own_lines}
use Rattle.whole_runs.specs.Standing.{IsInState}
use Rattle.whole_runs.specs.ClientStates.{state_left_at}
use Rattle.program_calls.specs.declared.turned.Turned.{Turned}
use Rattle.program_calls.specs.declared.turned.Turned.TheVariants.{Going, Done}
use Rattle.players.specs.declared.fault.RacerFault.{RacerFault}
use Rattle.players.specs.declared.fault.RacerFault.TheVariants as faults

-- the op of the actor's last command in that state, and that of its next one
abbrev pub op_at : {S : Type 0} → ℕ → Actor S → OpId
op_at actor s = record { actor = actor; number = s.number }

abbrev pub next_at : {S : Type 0} → ℕ → Actor S → OpId
next_at actor s = record { actor = actor; number = s.number + 1 }

-- why a line was not done: for want of memory, or since a commit found another machine, of which that is so
abbrev pub IsFault : (Counts → Label → Label → Type 0) → Counts → RacerFault → Type 0
IsFault astray counts faults.NoMemory = Unit {0}
IsFault astray counts (faults.Astray want found) = astray counts want found

abbrev pub EndsAs : Happening → Answer → Type 0
EndsAs (Ended a) x = a ≡ x
EndsAs (Failed a) x = a ≡ x
EndsAs (Began c) x = ⊥
EndsAs (NotBegun c) x = ⊥
EndsAs (Acted q r h) x = ⊥
EndsAs Stopped x = ⊥

-- the op ends with that answer
abbrev pub EndsWith : OpId → Event → Answer → Type 0
EndsWith op (Own other h) x = (other ≡ op) × EndsAs h x
EndsWith op Dumped x = ⊥

-- ---- what its calls do: how it grew is said of the events by which it did

-- it began the command as that op, or was refused
pub record HasBegun (grew : List Event → Type 0) (op : OpId) (command : Command) : Type 0 where
  pub begin : Event
  pub begins : IsBeginOf op command begin
  pub grown : grew (begin ∷ [])

-- it did that many transactions of the op, and the command goes on
pub record GoesOn (grew : List Event → Type 0) (op : OpId) (count : ℕ) : Type 0 where
  pub acts : List Event
  pub are_acts : Acts op count acts
  pub grown : grew acts

-- the op came to its end with that answer
pub record ComesToEnd (grew : List Event → Type 0) (op : OpId) (answer : Answer) : Type 0 where
  pub acts : List Event
  pub count : ℕ
  pub end : Event
  pub are_acts : Acts op count acts
  pub ends : EndsWith op end answer
  pub grown : grew (acts ++ end ∷ [])

-- the same within so many steps: an end for want of room is one
pub record EndsIn (grew : List Event → Type 0) (op : OpId) (answer : Answer) (steps : ℕ) : Type 0 where
  pub comes : ComesToEnd grew op answer
  pub few : comes.count + tries comes.end ≤ steps

-- all of so many transactions, by which there is no answer yet, or the end with an answer within so many steps
abbrev pub StepsUpTo : (List Event → Type 0) → OpId → ℕ → Option Answer → Type 0
StepsUpTo grew op n None = GoesOn grew op n
StepsUpTo grew op n (Some a) = EndsIn grew op a n

-- one step
abbrev pub StepsOnce : (List Event → Type 0) → OpId → Turned → Type 0
StepsOnce grew op Going = GoesOn grew op 1
StepsOnce grew op (Done a) = EndsIn grew op a 1

-- ---- what is so of each player

pub record IsPlayer {S : Type 0} (P : Programs S) {L A : Type 0} (counts : A → Counts) (fits : L → A → Type 0) (actor : L → ℕ)
    (history : L → A → List Event) (state : L → A → Actor S) (grows : L → A → L → A → List Event → Type 0) : Type 0 where
  pub nothing : (p : L) (a : A) → fits p a → grows p a p a []
  pub both : (p q r : L) (a b c : A) (es fs : List Event) → grows p a q b es → grows q b r c fs → grows p a r c (es ++ fs)
  pub same_actor : (p q : L) (a b : A) (es : List Event) → grows p a q b es → actor q ≡ actor p
  pub same_counts : (p q : L) (a b : A) (es : List Event) → grows p a q b es → counts b ≡ counts a
  pub more_history : (p q : L) (a b : A) (es : List Event) → grows p a q b es → history q b ≡ history p a ++ es
  pub next_state : (p q : L) (a b : A) (es : List Event) → grows p a q b es → state q b ≡ own_state P (counts a) (state p a) es
  pub busy : (p : L) (a : A) → fits p a → IsSome (state p a).running → running_op (state p a).running ≡ Some (op_at (actor p) (state p a))

-- ---- a line

abbrev pub told_lines : Option ReportLine → List ReportLine
told_lines None = []
told_lines (Some line) = line ∷ []

-- It did what the line of its client asks, and the line that is told is what its events show.
pub record Played {S L A : Type 0} (actor : L → ℕ) (history : L → A → List Event) (state : L → A → Actor S)
    (grows : L → A → L → A → List Event → Type 0) (names : List (List ℕ)) (act : Act) (p : L) (a : A) (q : L) (b : A)
    (told : Option ReportLine) : Type 0 where
  pub part : List Event
  pub grown : grows p a q b part
  pub does : DoesLine (actor p) (running_op (state p a).running) act part (running_op (state q b).running)
  pub turn : IsInState (state_left_at act) (state q b)
  pub few : (state q b).number ≤ (state p a).number + 1
  pub shows : told_lines told ≡ own_lines names (actor p) (history p a) part
