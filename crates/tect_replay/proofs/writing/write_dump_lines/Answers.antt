use Rattle.std.proofs.Common.{rules}
use Rattle.std.proofs.KnownBytes.{Appends-trans}
use Rattle.tect_replay.proofs.Results.{on_err}
use Rattle.replay_stories.proofs.Texts.{dump_more, dump_part}
use Rattle.tect_replay.proofs.writing.write_dump_lines.Goals as goal

pub returns-in_err-write_dump_line-clause-part : goal.returns-in_err-write_dump_line-clause-part
returns-in_err-write_dump_line-clause-part g c =
    on_err c.from_residual.result
    (dump_part c.args.lines.now c.each.line-index c.line-item.result _ _ _ c.each-test.true c.line-item.is c.each.invariant.written
    c.in_err-write_dump_line.ensures.part)

pub each-preserved : goal.each-preserved
each-preserved g c = record {
  written = rw (dump_more c.args.lines.now c.each.line-index c.line-item.result c.each-test.true c.line-item.is)
      (Appends-trans _ _ _ _ _ c.each.invariant.written c.in_ok-write_dump_line.ensures.whole);
  kept = search rules;
}
