use Rattle.std.proofs.Common.{◌≡◌, take, map}
use Rattle.std.specs.Io.KnownBytes.{Appends}
use Rattle.tect_ids.specs.declared.script.ReportLine.TheVariants as lines
use Rattle.replay_stories.specs.Output.{lines_text}
use Rattle.tect_replay.proofs.writing.write_dump_lines.Given as goal

abbrev pub invariant-each : goal.invariant-each
invariant-each g l = record {
  written : Appends (g.K.Sink.written l.initial.sink) (g.K.Sink.written l.sink) (lines_text (map lines.Dump (take l.line-index l.lines)));
  kept : g.K.Sink.faults l.sink ≡ g.K.Sink.faults l.initial.sink;
}
