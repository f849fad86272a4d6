-- Which plans can be played.
use Rattle.std.specs.Prelude.{ℕ, ◌<◌, ◌≤◌, ◌^◌, length}
use Rattle.std.specs.List.{AllByRecursion}
use Rattle.tect_ids.specs.declared.script.Act.{Act}
use Rattle.tect_ids.specs.declared.script.Act.TheVariants as acts
use Rattle.tect_ids.specs.declared.script.Line.{Line}
use Rattle.tect_ids.specs.declared.script.Line.TheVariants as lines
use Rattle.tect_ids.specs.declared.script.Plan.{Plan}
use Rattle.tect_ids.specs.Places.{HasPlaces}
use Rattle.whole_runs.specs.ClientStates.{FitStates}
use Rattle.program_forms.specs.Kinds.{Programs}

-- a step is of one transaction or more
abbrev pub IsBounded : Act → Type 0
IsBounded (acts.Step n) = 1 ≤ n
IsBounded (acts.Do c) = Unit {0}
IsBounded (acts.Begin c) = Unit {0}
IsBounded acts.Run = Unit {0}
IsBounded acts.Stop = Unit {0}

-- the line is of one of so many clients, and its step is of one transaction or more
abbrev pub IsWithin : ℕ → Line → Type 0
IsWithin clients (lines.Client client actor act) = (actor ≤ clients) × IsBounded act
IsWithin clients line = Unit {0}

pub record IsPlayable {S : Type 0} (P : Programs S) (plan : Plan) : Type 0 where
  pub places : HasPlaces plan.counts
  pub in_turn : FitStates P plan.lines
  pub few : length plan.lines < 2 ^ 31
  pub within : AllByRecursion (IsWithin (length plan.clients)) plan.lines
