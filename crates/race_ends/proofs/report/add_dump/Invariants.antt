use Rattle.std.proofs.Common.{◌≡◌, ◌++◌, map}
use Rattle.tect_ids.specs.declared.script.ReportLine.TheVariants.{Dump}
use Rattle.race_ends.proofs.report.add_dump.Given as goal

abbrev pub invariant-loop-line : goal.invariant-loop-line
invariant-loop-line l = l.report.items ≡ l.initial.report.items ++ map Dump l.yielded
