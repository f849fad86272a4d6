-- Why a race comes to no end.
use Rattle.std.specs.Prelude.{ℕ, List}
use Rattle.std.specs.List.{AllZip}
use Rattle.tect_ids.specs.declared.ids.Counts.{Counts}
use Rattle.tect_ids.specs.declared.script.Plan.{Plan}
use Rattle.program_forms.specs.Kinds.{Programs}
use Rattle.place_kit.specs.declared.any.AnyKept.{AnyKept}
use Rattle.passes.specs.declared.pass.Pass.{Pass}
use Rattle.entry_words.specs.declared.entry.Refused.TheVariants as refused
use Rattle.place_kit.specs.Started.{AreStarted}
use Rattle.place_locks.specs.Losses.{IsLoss}
use Rattle.merge_runs.specs.Splits.{IsSplit}
use Rattle.race_runs.specs.Stories.{Story}
use Rattle.race_ends.specs.declared.fault.RaceFault.{RaceFault}
use Rattle.race_ends.specs.declared.fault.RaceFault.TheVariants.{NoMemory, Split, Astray}
use Rattle.race_ends.specs.HaveRun.{HasStory}
use Rattle.race_ends.specs.Raced.{AreOfClients}

-- for want of memory, or since at one of the places another machine was found
abbrev pub IsLossOf : Counts → RaceFault → Type 0
IsLossOf c NoMemory = IsLoss c refused.NoMemory
IsLossOf c (Split actor step in_pass in_place) = ⊥
IsLossOf c (Astray want found) = IsLoss c (refused.Astray want found)

-- for want of memory, or since passes and places have not the same transactions
abbrev pub IsSplitOf : List AnyKept → List Pass → RaceFault → Type 0
IsSplitOf ks ps NoMemory = Unit {0}
IsSplitOf ks ps (Split actor step in_pass in_place) = IsSplit ks ps actor step in_pass in_place
IsSplitOf ks ps (Astray want found) = ⊥

-- Some machines of all places and the passes of the plan's clients differ in that step of that actor. Each pass is of what its client did
-- in the lines of the plan.
pub record AreSplit {S : Type 0} (P : Programs S) (plan : Plan) (fault : RaceFault) : Type 0 where
  pub places : List AnyKept
  pub passes : List Pass
  pub started : AreStarted plan.counts places
  pub clients : AreOfClients plan passes
  pub clocks : List ℕ
  pub stories : List Story
  pub each : AllZip (HasStory P plan.counts plan.clients plan.lines clocks) passes stories
  pub differ : IsSplitOf places passes fault

abbrev pub IsRaceFault : {S : Type 0} → Programs S → Plan → RaceFault → Type 0
IsRaceFault P plan NoMemory = Unit {0}
IsRaceFault P plan (Split actor step in_pass in_place) = AreSplit P plan (Split actor step in_pass in_place)
IsRaceFault P plan (Astray want found) = IsLossOf plan.counts (Astray want found)
