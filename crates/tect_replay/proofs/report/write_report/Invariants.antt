use Rattle.std.proofs.Common.{◌≡◌, take}
use Rattle.std.specs.Io.KnownBytes.{Appends}
use Rattle.replay_stories.specs.Output.{lines_text}
use Rattle.tect_replay.proofs.report.write_report.Given as goal

abbrev pub invariant-each : goal.invariant-each
invariant-each g l = record {
  written : Appends (g.K.Sink.written l.initial.sink) (g.K.Sink.written l.sink) (lines_text (take l.line-index l.lines));
  kept : g.K.Sink.faults l.sink ≡ g.K.Sink.faults l.initial.sink;
}
