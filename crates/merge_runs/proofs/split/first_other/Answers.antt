use Rattle.std.proofs.Common.{arith, subst, List}
use Rattle.entry_words.specs.declared.entry.Entry.{Entry}
use Rattle.place_kit.specs.Kept.{history_of}
use Rattle.merge_runs.specs.Splits.{IsFirst, IsOther}
use Rattle.merge_runs.proofs.Firsts.{first_flat, none_flat}
use Rattle.merge_runs.proofs.split.first_other.Goals as goal

pub returns-in-Some : goal.returns-in-Some
returns-in-Some c =
    let P : Entry → Type 0 = IsOther c.args.actor c.args.step c.args.in_pass.now in
    first_flat P history_of c.args.kepts.now c.loop-kept.kept-index c.kept-item.result c.in-Some.entry.now
    c.loop-kept-test.true c.kept-item.is
    (subst (λ (es : List Entry). IsFirst P es c.in-Some.entry.now) c.history.ensures c.in-Some.ensures) c.loop-kept.invariant

pub returns : goal.returns
returns c =
    none_flat (IsOther c.args.actor c.args.step c.args.in_pass.now) history_of c.args.kepts.now
    (λ k d l. c.loop-kept.invariant k d (omega arith) (omega arith))
