use Rattle.std.proofs.Common.{List, sym, ◌∙◌, ap, subst, map}
use Rattle.std.specs.List.{All}
use Rattle.entry_words.specs.declared.entry.Moment.{Moment}
use Rattle.merge_runs.specs.declared.keyed.Keyed.{Keyed}
use Rattle.merge_runs.specs.declared.spot.Spot.{Spot}
use Rattle.merge_runs.specs.MergedRuns.{moment_at, IsSpot, IsOneHistory}
use Rattle.merge_runs.proofs.Spots.{at_moments, at_spots}
use Rattle.merge_runs.proofs.gathered.gathered_order.Goals as goal

pub returns-in-Ok-clause-one : goal.returns-in-Ok-clause-one
returns-in-Ok-clause-one c =
    let ps = c.args.passes.now in
    let read = c.in-Ok.ensures ∙ ap (λ (ks : List Keyed). map (λ k. k.at) ks) c.as_slice.ensures.value in
    let same = ap (λ (xs : List Spot). map (moment_at ps) xs) read ∙ at_moments ps c.in_ok-order.order.items c.in_ok-order.ensures.spots in
    subst (λ (ms : List Moment). IsOneHistory c.args.kepts.now ps ms) (sym same) c.in_ok-order.ensures.one

pub returns-in-Ok-clause-spots : goal.returns-in-Ok-clause-spots
returns-in-Ok-clause-spots c =
    let read = c.in-Ok.ensures ∙ ap (λ (ks : List Keyed). map (λ k. k.at) ks) c.as_slice.ensures.value in
    subst (λ (xs : List Spot). All (IsSpot c.args.passes.now) xs) (sym read)
    (at_spots c.args.passes.now c.in_ok-order.order.items c.in_ok-order.ensures.spots)
