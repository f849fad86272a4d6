use Rattle.std.proofs.Common.{◌≡◌, ◌<◌, List, length, map, take, sym, ap, ◌∙◌, subst, arith}
use Rattle.std.proofs.lemmas.List.{drop_all, length-map, take_all}
use Rattle.entry_words.specs.declared.entry.Moment.{Moment}
use Rattle.entry_words.specs.Moments.{stamp_of}
use Rattle.all_shards.proofs.Lent.{read_map}
use Rattle.race_runs.proofs.Timing.{AllUpTo}
use Rattle.race_ends.proofs.Replays.{after_all, all_are_early, early_are, late_are, next_early, next_shards, none_is_late}
use Rattle.race_ends.proofs.replay.redo_up_to.Goals as goal

pub returns-then-stamp-clock-clause-store : goal.returns-then-stamp-clock-clause-store
returns-then-stamp-clock-clause-store c =
    let ms : List Moment = map (λ m. m.now) c.args.moments.now in
    let n : length ms ≡ length c.args.moments.now = length-map c.args.moments.now (λ m. m.now) in
    let m : Moment = c.index-moments-done.result.now in
    let here : c.args.clock < stamp_of m = omega (arith, c.if-stamp-clock.true, c.stamp.ensures) in
    let late = subst (λ (m : Moment). c.args.clock < stamp_of m)
    (read_map (λ m. m.now) c.args.moments.now c.loop-done.done c.index-moments-done.result c.index-moments-done.is) here in
    c.loop-done.invariant.store
    ∙ ap (λ (ns : List Moment). after_all c.args.shards.now ns)
    (sym (early_are c.args.clock c.loop-done.done ms m c.requires c.loop-done.invariant.early (omega (arith, n, c.loop-done-test.true))
    late))

pub returns-then-stamp-clock-clause-later : goal.returns-then-stamp-clock-clause-later
returns-then-stamp-clock-clause-later c =
    let ms : List Moment = map (λ m. m.now) c.args.moments.now in
    let n : length ms ≡ length c.args.moments.now = length-map c.args.moments.now (λ m. m.now) in
    let m : Moment = c.index-moments-done.result.now in
    let here : c.args.clock < stamp_of m = omega (arith, c.if-stamp-clock.true, c.stamp.ensures) in
    let late = subst (λ (m : Moment). c.args.clock < stamp_of m)
    (read_map (λ m. m.now) c.args.moments.now c.loop-done.done c.index-moments-done.result c.index-moments-done.is) here in
    sym (late_are c.args.clock c.loop-done.done ms m c.requires c.loop-done.invariant.early (omega (arith, n, c.loop-done-test.true)) late)

pub loop-done-preserved : goal.loop-done-preserved
loop-done-preserved c =
    let ms : List Moment = map (λ m. m.now) c.args.moments.now in
    let n : length ms ≡ length c.args.moments.now = length-map c.args.moments.now (λ m. m.now) in
    let m : Moment = c.index-moments-done.result.now in
    let at = read_map (λ m. m.now) c.args.moments.now c.loop-done.done c.index-moments-done.result c.index-moments-done.is in
    let inside : c.loop-done.done < length ms = omega (arith, n, c.loop-done-test.true) in
    record {
      early = next_early c.args.clock c.loop-done.done ms m inside at c.loop-done.invariant.early
          (omega (arith, c.if-stamp-clock.false, c.stamp.ensures));
      store = next_shards c.args.shards.now c.loop-done.shards c.redo.new.shards c.loop-done.done ms m inside at c.loop-done.invariant.store
          c.in_ok-redo.ensures;
    }

pub returns-clause-store : goal.returns-clause-store
returns-clause-store c =
    let ms : List Moment = map (λ m. m.now) c.args.moments.now in
    let n : length ms ≡ length c.args.moments.now = length-map c.args.moments.now (λ m. m.now) in
    let whole : take c.loop-done.done ms ≡ ms = take_all c.loop-done.done ms (omega (arith, n, c.loop-done-test.false)) in
    c.loop-done.invariant.store
    ∙ ap (λ (ns : List Moment). after_all c.args.shards.now ns)
    (whole ∙ sym (all_are_early c.args.clock ms (subst (λ (ns : List Moment). AllUpTo c.args.clock ns) whole c.loop-done.invariant.early)))

pub returns-clause-later : goal.returns-clause-later
returns-clause-later c =
    let ms : List Moment = map (λ m. m.now) c.args.moments.now in
    let n : length ms ≡ length c.args.moments.now = length-map c.args.moments.now (λ m. m.now) in
    let whole : take c.loop-done.done ms ≡ ms = take_all c.loop-done.done ms (omega (arith, n, c.loop-done-test.false)) in
    drop_all (length c.args.moments.now) ms (omega (arith, n))
    ∙ sym (none_is_late c.args.clock ms (subst (λ (ns : List Moment). AllUpTo c.args.clock ns) whole c.loop-done.invariant.early))
