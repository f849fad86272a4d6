-- The report of a race that is written, or a front of it.
use Rattle.std.proofs.Common.{◌≡◌, ℕ, List, Option, subst}
use Rattle.std.specs.Io.KnownBytes.{Appends}
use Rattle.tect_ids.specs.declared.script.Plan.{Plan}
use Rattle.tect_ids.specs.declared.script.ReportLine.{ReportLine}
use Rattle.tect_edge.specs.Prefixes.{AppendsProperPrefix}
use Rattle.place_kit.specs.declared.any.AnyKept.{AnyKept}
use Rattle.passes.specs.declared.pass.Pass.{Pass}
use Rattle.program_rules.specs.Served.{programs}
use Rattle.race_ends.specs.Raced.{IsRaced}
use Rattle.run_claims.proofs.Claims.{every_run_is_claimed}
use Rattle.tect_app.specs.RaceEnds.{race_text, IsRaceShown, IsRaceCut}

pub race_shown : (plan : Plan) (places : List AnyKept) (passes : List Pass) (report lines : List ReportLine) (old new : Option (List ℕ))
    → IsRaced programs plan places passes report → lines ≡ report
    → Appends old new (race_text lines) → IsRaceShown plan old new
race_shown plan places passes report lines old new raced same written = record {
  places = places;
  passes = passes;
  report = report;
  raced = raced;
  claim = every_run_is_claimed plan.counts raced.history raced.of_plan.run raced.of_plan.limits;
  written = subst (λ (ls : List ReportLine). Appends old new (race_text ls)) same written;
}

pub race_cut : (plan : Plan) (places : List AnyKept) (passes : List Pass) (report lines : List ReportLine) (old new : Option (List ℕ))
    → IsRaced programs plan places passes report → lines ≡ report
    → AppendsProperPrefix old new (race_text lines) → IsRaceCut plan old new
race_cut plan places passes report lines old new raced same written = record {
  places = places;
  passes = passes;
  report = report;
  raced = raced;
  claim = every_run_is_claimed plan.counts raced.history raced.of_plan.run raced.of_plan.limits;
  written = subst (λ (ls : List ReportLine). AppendsProperPrefix old new (race_text ls)) same written;
}
