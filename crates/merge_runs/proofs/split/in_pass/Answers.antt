use Rattle.std.proofs.Common.{◌≡◌, ◌≢◌, Some, None}
use Rattle.std.specs.List.{All, Contains}
use Rattle.merge_runs.specs.Merged.{entries_of}
use Rattle.merge_runs.specs.Splits.{IsInPass}
use Rattle.merge_runs.proofs.Matches.{match_weaker}
use Rattle.merge_runs.proofs.Splits.{none_in_pass}
use Rattle.merge_runs.proofs.split.in_pass.Goals as goal

pub returns-in-Some : goal.returns-in-Some
returns-in-Some c =
    let p = c.in-Some.pass.now in
    match_weaker c.entry_at.result
    (All (λ e. e.step ≢ c.args.step) (entries_of p)) (IsInPass c.args.passes.now c.args.actor c.args.step None)
    (λ e. Contains (entries_of p) e.now × (e.now.step ≡ c.args.step))
    (λ e. IsInPass c.args.passes.now c.args.actor c.args.step (Some e.now))
    c.entry_at.ensures
    (λ a. none_in_pass c.args.passes.now p c.args.actor c.args.step c.requires c.in-Some.ensures.0 c.in-Some.ensures.1 a)
    (λ e w. (p, c.in-Some.ensures.0, c.in-Some.ensures.1, w.0, w.1))
