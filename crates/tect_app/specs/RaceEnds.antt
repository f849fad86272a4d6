-- What a race writes, and how it may end without a report.
use Rattle.std.specs.Prelude.{ℕ, ◌≡◌, ◌++◌, List, Option, codes}
use Rattle.std.specs.Fmt.{decimal}
use Rattle.std.specs.Io.KnownBytes.{Appends}
use Rattle.tect_ids.specs.declared.ids.Place.{Place}
use Rattle.tect_ids.specs.declared.script.Plan.{Plan}
use Rattle.tect_ids.specs.declared.script.ReportLine.{ReportLine}
use Rattle.place_kit.specs.declared.any.AnyKept.{AnyKept}
use Rattle.passes.specs.declared.pass.Pass.{Pass}
use Rattle.tect_edge.specs.Prefixes.{AppendsProperPrefix}
use Rattle.replay_stories.specs.Output.{lines_text, end_text}
use Rattle.race_ends.specs.declared.fault.RaceFault.{RaceFault}
use Rattle.race_ends.specs.declared.fault.RaceFault.TheVariants as faults
use Rattle.race_ends.specs.Faults.{IsRaceFault}
use Rattle.program_rules.specs.Served.{programs}
use Rattle.race_ends.specs.Raced.{IsRaced}
use Rattle.run_claims.specs.Claims.{IsHistory}

-- the lines of a report, and the end
abbrev pub race_text : List ReportLine → List ℕ
race_text report = lines_text report ++ end_text

-- The race came to one history of the plan, which is what its clients and its places kept, and all is so of it that is claimed of a
-- history; and the whole report of this history was written.
pub record IsRaceShown (plan : Plan) (old new : Option (List ℕ)) : Type 0 where
  pub places : List AnyKept
  pub passes : List Pass
  pub report : List ReportLine
  pub raced : IsRaced programs plan places passes report
  pub claim : IsHistory plan.counts raced.history
  pub written : Appends old new (race_text report)

-- a front of the report of such a history was written, and not all
pub record IsRaceCut (plan : Plan) (old new : Option (List ℕ)) : Type 0 where
  pub places : List AnyKept
  pub passes : List Pass
  pub report : List ReportLine
  pub raced : IsRaced programs plan places passes report
  pub claim : IsHistory plan.counts raced.history
  pub written : AppendsProperPrefix old new (race_text report)

abbrev pub split_text : ℕ → ℕ → List ℕ
split_text actor step = codes "split " ++ decimal actor ++ codes " " ++ decimal step ++ codes "\n"

abbrev pub astray_text : Place → List ℕ
astray_text place = codes "astray " ++ decimal place.0 ++ codes "\n"

-- the line that names a fault: by the actor and the step of the two entries that differ, or by the place of the machine that was
-- not found
abbrev pub IsNamedBy : RaceFault → List ℕ → Type 0
IsNamedBy faults.NoMemory line = ⊥
IsNamedBy (faults.Split actor step in_pass in_place) line = line ≡ split_text actor step
IsNamedBy (faults.Astray want found) line = line ≡ astray_text want.place

-- the line names a fault that a race of the plan may come to
pub record IsSplitLine (plan : Plan) (line : List ℕ) : Type 0 where
  pub fault : RaceFault
  pub cause : IsRaceFault programs plan fault
  pub named : IsNamedBy fault line
