use Rattle.std.proofs.Common.{◌≡◌, take}
use Rattle.std.specs.Io.KnownBytes.{Appends}
use Rattle.replay_stories.specs.Output.{lines_text, plan_report}
use Rattle.replay_stories.proofs.Reached.{HasPlayed}
use Rattle.tect_replay.proofs.script.replay.Given as goal

abbrev pub invariant-lines : goal.invariant-lines
invariant-lines g l = record {
  played : HasPlayed g.P.Programs.rules l.plan (take l.line-index l.plan.lines) l.world;
  written : Appends (g.K.Sink.written l.initial.sink) (g.K.Sink.written l.sink) (lines_text (plan_report l.plan l.world.history));
  kept : g.K.Sink.faults l.sink ≡ g.K.Sink.faults l.initial.sink;
}
