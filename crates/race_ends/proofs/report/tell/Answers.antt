use Rattle.std.proofs.Common.{◌≡◌, ◌+◌, List, drop, length, map, rules, sym, ap, ◌∙◌, arith, subst}
use Rattle.std.proofs.lemmas.List.{drop-drop}
use Rattle.std.specs.List.{filter}
use Rattle.std.specs.Vec.Iter.{into_iter_items}
use Rattle.all_shards.specs.Whole.{WholeStore}
use Rattle.entry_words.specs.declared.entry.Moment.{Moment}
use Rattle.world_runs.specs.Events.{StampsRise}
use Rattle.whole_runs.specs.Woven.{is_late}
use Rattle.race_ends.specs.Told.{stored_up_to}
use Rattle.race_ends.proofs.Borrowed.{read_rest, more_within}
use Rattle.race_ends.proofs.Telling.{telling_begins, telling_rises, telling_goes_on, telling_ends}
use Rattle.race_ends.proofs.report.tell.Goals as goal

pub loop-part-init : goal.loop-part-init
loop-part-init c = record {
  within = omega arith;
  telling =
      telling_begins (map (λ m. m.now) c.args.moments.now) c.in_ok-shards.shards.store c.new-report.result.items c.args.last.items
      (into_iter_items c.into_iter-part-iterator.result) c.args.ended.items
      (ap (λ (w : WholeStore). w.store) c.in_ok-shards.ensures) c.new-report.ensures.items (search rules) c.requires.dumps;
}

pub redo_up_to-requires : goal.redo_up_to-requires
redo_up_to-requires c =
    let ms : List Moment = map (λ m. m.now) c.args.moments.now in
    subst (λ (ns : List Moment). StampsRise ns) (sym (read_rest (λ m. m.now) c.args.moments.now c.loop-part.done))
    (telling_rises ms (drop c.loop-part.done ms) c.loop-part.shards.store c.loop-part.report.items c.args.last.items c.requires.rising
    (into_iter_items c.loop-part.part-iterator) c.args.ended.items c.loop-part.invariant.telling)

pub loop-part-preserved : goal.loop-part-preserved
loop-part-preserved c =
    let ms : List Moment = map (λ m. m.now) c.args.moments.now in
    let done = c.loop-part.done in
    let more = c.in_ok-done.field-0 in
    let later : List Moment = drop done ms in
    let read = read_rest (λ m. m.now) c.args.moments.now done in
    let clock = c.in-Some.part.clock in
    let behind : drop (done + more) ms ≡ filter (is_late clock) later =
    sym (drop-drop more done ms) ∙ subst (λ (ns : List Moment). drop more ns ≡ filter (is_late clock) ns) read c.in_ok-done.ensures.later in
    let store = ap (λ (w : WholeStore). w.store) c.in_ok-done.ensures.store ∙ ap
    (λ (ns : List Moment). stored_up_to clock c.loop-part.shards.store ns) read in
    record {
      within = more_within (λ m. m.now) c.args.moments.now done more c.loop-part.invariant.within c.in_ok-done.ensures.within;
      telling =
          telling_goes_on ms later c.loop-part.shards.store c.loop-part.report.items c.args.last.items c.requires.rising
          c.in-Some.part (into_iter_items c.loop-part.part-iterator) (into_iter_items c.next.new.self) c.args.ended.items
          (drop (done + more) ms) c.redo_up_to.new.shards.store c.add_part.new.report.items c.loop-part.invariant.telling
          c.in-Some.ensures.steps.0 behind store c.in_ok-add_part.ensures;
    }

pub returns : goal.returns
returns c =
    let ms : List Moment = map (λ m. m.now) c.args.moments.now in
    let none : length (into_iter_items c.loop-part.part-iterator) ≡ 0 = sym c.loop-part.part-iterator.rest.ok.0 ∙ c.in-None.ensures.steps.0
    in
    c.in_ok-append.ensures.items
    ∙ telling_ends ms (drop c.loop-part.done ms) c.loop-part.shards.store c.loop-part.report.items c.args.last.items
    (into_iter_items c.loop-part.part-iterator) c.args.ended.items c.loop-part.invariant.telling none
