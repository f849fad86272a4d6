-- What a replay writes: the lines of its report, and the end.
use Rattle.std.specs.Prelude.{ℕ, ◌≤◌, List, [], ◌∷◌, ◌++◌, length, take, codes, Option}
use Rattle.std.specs.Io.KnownBytes.{Appends}
use Rattle.std.specs.List.{flat_map}
use Rattle.tect_ids.specs.declared.script.Plan.{Plan}
use Rattle.tect_ids.specs.declared.script.ReportLine.{ReportLine}
use Rattle.tect_text.specs.ReportText.{report_text}
use Rattle.world_runs.specs.declared.event.Event.{Event}
use Rattle.world_runs.specs.Report.{report}

-- a line with its line feed
abbrev pub line_text : ReportLine → List ℕ
line_text line = report_text line ++ 10 ∷ []

abbrev pub lines_text : List ReportLine → List ℕ
lines_text ls = flat_map line_text ls

abbrev pub end_text : List ℕ
end_text = codes "end\n"

-- what a report shows of a history of the plan
abbrev pub plan_report : Plan → List Event → List ReportLine
plan_report plan history = report plan.clients history

abbrev pub output_text : Plan → List Event → List ℕ
output_text plan history = lines_text (plan_report plan history) ++ end_text

-- known bytes grew by a front of these, or by all of them
abbrev pub AppendsPrefix : Option (List ℕ) → Option (List ℕ) → List ℕ → Type 0
AppendsPrefix old new bytes = (n : ℕ) × (n ≤ length bytes) × Appends old new (take n bytes)
