use Rattle.std.proofs.Common.{◌≡◌, ◌<◌, ◌≤◌, ◌+◌, [], length, get_or, refl, rules, ◌∙◌}
use Rattle.std.proofs.KnownBytes.{Appends-nil, Appends-trans}
use Rattle.replay_stories.specs.Plays.{PlaysLine}
use Rattle.tect_replay.specs.Shown.{shown_lines}
use Rattle.tect_replay.proofs.Results.{on_ok, on_err, on_err_by, kept_whole}
use Rattle.replay_stories.proofs.Reached.{played_none, can_play, played_next, text_next, cut_by, run_of_all}
use Rattle.replay_stories.proofs.Texts.{prefix_none, prefix_whole, prefix_then, proper_then}
use Rattle.tect_replay.proofs.script.replay.Goals as goal

pub returns-in_err-world-clause-cut : goal.returns-in_err-world-clause-cut
returns-in_err-world-clause-cut g c =
    on_err c.from_residual.result
    (cut_by g.P.Programs.rules c.args.plan.now 0 (record { counts = c.args.plan.now.counts; history = [] }) _ _ c.requires
    (played_none g.P.Programs.rules c.args.plan.now _ refl) (prefix_none _ _))

pub lines-init : goal.lines-init
lines-init g c = record {
  played = played_none g.P.Programs.rules c.args.plan.now c.in_ok-world.world c.in_ok-world.ensures;
  written = rw (c.in_ok-world.ensures) (Appends-nil _);
  kept = refl;
}

pub play_line-requires : goal.play_line-requires
play_line-requires g c =
    let plan = c.args.plan.now in
    let i = c.lines.line-index in
    let line = c.line-item.result in
    let lt : i < length plan.lines = rw (c.as_slice-lines.ensures) at c.lines-test.true in
    let at : line ≡ get_or plan.lines i line = rw (c.as_slice-lines.ensures) at c.line-item.is in
    rw (c.as_slice.ensures) (can_play g.P.Programs.rules plan i c.lines.world line c.requires lt at c.lines.invariant.played)

pub lines-preserved : goal.lines-preserved
lines-preserved g c =
    let plan = c.args.plan.now in
    let i = c.lines.line-index in
    let line = c.line-item.result in
    let ls = shown_lines c.in_ok-shown.shown in
    let lt : i < length plan.lines = rw (c.as_slice-lines.ensures) at c.lines-test.true in
    let at : line ≡ get_or plan.lines i line = rw (c.as_slice-lines.ensures) at c.line-item.is in
    let plays : PlaysLine g.P.Programs.rules plan.clients line c.lines.world c.play_line.new.world ls = rw (c.as_slice.ensures) at c.in_ok-shown.ensures in
    record {
      played = played_next g.P.Programs.rules plan i c.lines.world line c.requires lt at c.lines.invariant.played c.play_line.new.world ls plays;
      written = rw (text_next g.P.Programs.rules plan i c.lines.world line c.requires lt at c.lines.invariant.played c.play_line.new.world ls plays)
          (Appends-trans _ _ _ _ _ c.lines.invariant.written c.in_ok-write_shown.ensures.whole);
      kept = c.in_ok-write_shown.ensures.kept (λ h. absurd cc) ∙ c.lines.invariant.kept;
    }

pub returns-in_err-shown-clause-cut : goal.returns-in_err-shown-clause-cut
returns-in_err-shown-clause-cut g c =
    on_err c.from_residual-in_err-shown.result
    (cut_by g.P.Programs.rules c.args.plan.now c.lines.line-index c.lines.world _ _ c.requires c.lines.invariant.played
    (prefix_whole _ _ _ c.lines.invariant.written))

pub returns-in_err-write_shown-clause-cut : goal.returns-in_err-write_shown-clause-cut
returns-in_err-write_shown-clause-cut g c =
    let plan = c.args.plan.now in
    let i = c.lines.line-index in
    let line = c.line-item.result in
    let ls = shown_lines c.in_ok-shown.shown in
    let lt : i < length plan.lines = rw (c.as_slice-lines.ensures) at c.lines-test.true in
    let at : line ≡ get_or plan.lines i line = rw (c.as_slice-lines.ensures) at c.line-item.is in
    let plays : PlaysLine g.P.Programs.rules plan.clients line c.lines.world c.play_line.new.world ls = rw (c.as_slice.ensures) at c.in_ok-shown.ensures in
    on_err c.from_residual-in_err-write_shown.result
    (cut_by g.P.Programs.rules plan (i + 1) c.play_line.new.world _ _ c.requires
    (played_next g.P.Programs.rules plan i c.lines.world line c.requires lt at c.lines.invariant.played c.play_line.new.world ls plays)
    (rw (text_next g.P.Programs.rules plan i c.lines.world line c.requires lt at c.lines.invariant.played c.play_line.new.world ls plays)
    (prefix_then _ _ _ _ _ c.lines.invariant.written c.in_err-write_shown.ensures.part)))

pub returns-clause-whole : goal.returns-clause-whole
returns-clause-whole g c =
    let plan = c.args.plan.now in
    let le : length plan.lines ≤ c.lines.line-index = rw (c.as_slice-lines.ensures) at c.lines-test.false in
    on_ok c.write_piece.result
    (λ whole. record {
      history = c.lines.world.history;
      of_plan = run_of_all g.P.Programs.rules plan c.lines.line-index c.lines.world c.requires le c.lines.invariant.played;
      written = Appends-trans _ _ _ _ _ c.lines.invariant.written whole;
    })
    c.write_piece.ensures.whole

pub returns-clause-cut : goal.returns-clause-cut
returns-clause-cut g c =
    let plan = c.args.plan.now in
    let le : length plan.lines ≤ c.lines.line-index = rw (c.as_slice-lines.ensures) at c.lines-test.false in
    on_err_by c.write_piece.result
    (λ part. record {
      history = c.lines.world.history;
      of_plan = run_of_all g.P.Programs.rules plan c.lines.line-index c.lines.world c.requires le c.lines.invariant.played;
      written = proper_then _ _ _ _ _ c.lines.invariant.written part;
    })
    c.write_piece.ensures.part

pub returns-in_err-write_shown-clause-kept : goal.returns-in_err-write_shown-clause-kept
returns-in_err-write_shown-clause-kept g c =
    λ none. c.in_err-write_shown.ensures.kept
    (λ h. none (search (rules, h, c.from_residual-in_err-write_shown.ensures))) ∙ c.lines.invariant.kept

pub returns-clause-kept : goal.returns-clause-kept
returns-clause-kept g c = λ none. kept_whole c.write_piece.result c.write_piece.ensures.kept c.write_piece.ensures.only none ∙ c.lines.invariant.kept
