use Rattle.std.proofs.Common.{◌++◌, List, ap, sym, ◌∙◌}
use Rattle.entry_words.specs.declared.entry.Moment.{Moment}
use Rattle.merge_runs.specs.MergedRuns.{moments_at}
use Rattle.merge_runs.proofs.Spots.{flat_more}
use Rattle.merge_runs.proofs.sorted.keyed_moments.Goals as goal

pub loop-pass-preserved : goal.loop-pass-preserved
loop-pass-preserved c =
    let ps = c.args.passes.now in
    let n = c.loop-pass.pass in
    record {
      moments = c.in_ok-append.ensures.moments ∙ ap (λ (ms : List Moment). ms ++ moments_at ps n) c.loop-pass.invariant.moments
          ∙ sym (flat_more ps n c.loop-pass-test.true);
      spots = c.in_ok-append.ensures.spots;
    }
