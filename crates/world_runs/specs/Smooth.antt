-- Runs in which nothing is late: each command ends at once when its last reply gave its answer, or was not heard; and runs in which no
-- memory is wanting.
use Rattle.std.specs.Prelude.{◌≡◌, ◌≤◌, true, List, [], ◌∷◌}
use Rattle.std.specs.List.{AllByRecursion}
use Rattle.tect_ids.specs.declared.ids.Counts.{Counts}
use Rattle.tect_ids.specs.declared.ids.OpId.{OpId}
use Rattle.tect_ids.specs.declared.script.Act.TheVariants as acts
use Rattle.tect_ids.specs.declared.script.Line.{Line}
use Rattle.tect_ids.specs.declared.script.Line.TheVariants as lines
use Rattle.program_forms.specs.Kinds.{Programs}
use Rattle.world_runs.specs.declared.event.Event.{Event}
use Rattle.world_runs.specs.declared.event.Event.TheVariants.{Own, Dumped}
use Rattle.world_runs.specs.declared.event.Happening.{Happening}
use Rattle.world_runs.specs.declared.event.Happening.TheVariants.{Began, NotBegun, Acted, Ended, Stopped, Failed}
use Rattle.world_runs.specs.Actors.{Actor, has_ended, program_of}
use Rattle.world_runs.specs.Moments.{WorldState, opening, after, IsWorldRun, running}
use Rattle.world_runs.specs.OwnRuns.{own_next}
use Rattle.world_runs.specs.Limits.{KeepsLimits}
use Rattle.world_runs.specs.Follows.{IsEndOf, AllFindMemory}

-- the op's end comes first
abbrev pub EndIsNext : OpId → List Event → Type 0
EndIsNext op [] = ⊥
EndIsNext op (e ∷ es) = IsEndOf op e

-- Of what an actor did, in its state after it: where it was a transaction, and nothing is left for the op but its end, that is next.
abbrev pub OwnIsPrompt : {S : Type 0} → Programs S → Counts → Actor S → OpId → Happening → List Event → Type 0
OwnIsPrompt P c s op (Acted q x h) es = has_ended P c s.memory (program_of s.running op) ≡ true → EndIsNext op es
OwnIsPrompt P c s op (Began k) es = Unit {0}
OwnIsPrompt P c s op (NotBegun k) es = Unit {0}
OwnIsPrompt P c s op (Ended a) es = Unit {0}
OwnIsPrompt P c s op Stopped es = Unit {0}
OwnIsPrompt P c s op (Failed a) es = Unit {0}

-- the same of an event, at the moment after it
abbrev pub IsPrompt : {S : Type 0} → Programs S → WorldState S → Event → List Event → Type 0
IsPrompt P m (Own op h) es = OwnIsPrompt P m.counts (m.actors op.actor) op h es
IsPrompt P m Dumped es = Unit {0}

-- so it is of each event, from that moment on
abbrev pub EndsAtOnce : {S : Type 0} → Programs S → WorldState S → List Event → Type 0
EndsAtOnce P m [] = Unit {0}
EndsAtOnce P m (e ∷ es) = IsPrompt P (after P m e) e es × EndsAtOnce P (after P m e) es

-- the same of one actor's own events, and of dumps among them, from that state of it on
abbrev pub IsPromptFrom : {S : Type 0} → Programs S → Counts → Actor S → Event → List Event → Type 0
IsPromptFrom P c s (Own op h) es = OwnIsPrompt P c s op h es
IsPromptFrom P c s Dumped es = Unit {0}

abbrev pub OwnEndsAtOnce : {S : Type 0} → Programs S → Counts → Actor S → List Event → Type 0
OwnEndsAtOnce P c s [] = Unit {0}
OwnEndsAtOnce P c s (e ∷ es) = IsPromptFrom P c (own_next P c s e) e es × OwnEndsAtOnce P c (own_next P c s e) es

-- a run of the world within its limits, in which no memory is wanting, and each command ends at once
pub record IsSmoothRun {S : Type 0} (P : Programs S) (counts : Counts) (history : List Event) : Type 0 where
  pub run : IsWorldRun P counts history
  pub limits : KeepsLimits P counts history
  pub memory : AllFindMemory history
  pub at_once : EndsAtOnce P (opening counts) history

-- a step is of one transaction or more
abbrev pub StepsOn : Line → Type 0
StepsOn (lines.Client client actor (acts.Step n)) = 1 ≤ n
StepsOn _ = Unit {0}

abbrev pub AllStepOn : List Line → Type 0
AllStepOn = AllByRecursion StepsOn

-- the line is no step
abbrev pub IsNoStep : Line → Type 0
IsNoStep (lines.Client client actor (acts.Step n)) = ⊥
IsNoStep _ = Unit {0}

abbrev pub NoneSteps : List Line → Type 0
NoneSteps = AllByRecursion IsNoStep
