-- What a played line has to show.
use Rattle.std.specs.Prelude.{List, [], ◌∷◌, map}
use Rattle.tect_ids.specs.declared.script.ReportLine.{ReportLine}
use Rattle.tect_ids.specs.declared.script.ReportLine.TheVariants as report_lines
use Rattle.tect_replay.specs.declared.lines.LineOutput.{LineOutput}
use Rattle.tect_replay.specs.declared.lines.LineOutput.TheVariants as shown

abbrev pub shown_lines : LineOutput → List ReportLine
shown_lines shown.Nothing = []
shown_lines (shown.Answer line) = line ∷ []
shown_lines (shown.Dump ls) = map report_lines.Dump ls.items
