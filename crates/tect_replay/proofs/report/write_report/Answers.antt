use Rattle.std.proofs.Common.{rules}
use Rattle.std.proofs.KnownBytes.{Appends-trans}
use Rattle.tect_replay.proofs.Results.{on_ok, on_err, on_err_by}
use Rattle.replay_stories.proofs.Texts.{proper_then}
use Rattle.tect_replay.proofs.ReportTexts.{line_more, report_part, all_lines}
use Rattle.tect_replay.proofs.report.write_report.Goals as goal

pub each-preserved : goal.each-preserved
each-preserved g c = record {
  written = rw (line_more c.args.lines.now c.each.line-index c.line-item.result c.each-test.true c.line-item.is)
      (Appends-trans _ _ _ _ _ c.each.invariant.written c.in_ok-write_line.ensures.whole);
  kept = search rules;
}

pub returns-in_err-write_line-clause-part : goal.returns-in_err-write_line-clause-part
returns-in_err-write_line-clause-part g c =
    on_err c.from_residual.result
    (report_part c.args.lines.now c.each.line-index c.line-item.result _ _ _ c.each-test.true c.line-item.is c.each.invariant.written
    c.in_err-write_line.ensures.part)

pub returns-clause-whole : goal.returns-clause-whole
returns-clause-whole g c =
    on_ok c.write_piece.result
    (λ whole. Appends-trans _ _ _ _ _ (all_lines c.args.lines.now c.each.line-index _ _ c.each-test.false c.each.invariant.written) whole)
    c.write_piece.ensures.whole

pub returns-clause-part : goal.returns-clause-part
returns-clause-part g c =
    on_err_by c.write_piece.result
    (λ part. proper_then _ _ _ _ _ (all_lines c.args.lines.now c.each.line-index _ _ c.each-test.false c.each.invariant.written) part)
    c.write_piece.ensures.part
