use Rattle.std.proofs.Common.{arith, ap, length, List, subst}
use Rattle.std.specs.List.{HoldsAt}
use Rattle.std.proofs.lemmas.List.Elements.{AllWithin-more, at_read}
use Rattle.entry_words.specs.declared.entry.Moment.{Moment}
use Rattle.merge_runs.proofs.Trails.{IsNotAt, not_at}
use Rattle.merge_runs.proofs.Splits.{entry_found}
use Rattle.merge_runs.proofs.split.entry_at.Goals as goal

pub loop-moment-preserved : goal.loop-moment-preserved
loop-moment-preserved c =
    let xs = c.moments-moment-items.result.now in
    let i = c.loop-moment.moment-index in
    AllWithin-more (IsNotAt c.args.step) c.args.pass.now.moments.items 0 i c.loop-moment.invariant
    (subst (λ (ms : List Moment). HoldsAt (IsNotAt c.args.step) ms i) c.moments-moment-items.ensures
    (at_read xs (IsNotAt c.args.step) i c.moment-item.result c.loop-moment-test.true c.moment-item.is c.in_default.ensures))

pub returns-in-Some : goal.returns-in-Some
returns-in-Some c = (
  entry_found c.args.pass.now c.loop-moment.moment-index c.moments-moment-items.result.now c.moment-item.result c.in-Some.entry.now
      c.loop-moment-test.true c.moment-item.is c.moments-moment-items.ensures c.in-Some.ensures.0,
  c.in-Some.ensures.1,
)

pub returns : goal.returns
returns c =
    not_at c.args.step c.args.pass.now
    (λ k d l. c.loop-moment.invariant k d (omega arith) (let n =
    ap (λ (ms : List Moment). length ms) c.moments-moment-items.ensures in omega arith))
