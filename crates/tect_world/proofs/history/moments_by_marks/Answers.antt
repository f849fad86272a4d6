use Rattle.std.proofs.Common.{◌+◌, ◌++◌, List, Bor, drop, map, ap, sym, ◌∙◌}
use Rattle.std.proofs.lemmas.List.{drop_more}
use Rattle.entry_words.specs.declared.entry.Moment.{Moment}
use Rattle.world_lives.specs.declared.marks.Mark.{Mark}
use Rattle.world_lives.specs.Order.{moments_in_order}
use Rattle.tect_world.specs.Telling.{left_by}
use Rattle.tect_world.proofs.Histories.{mark_at}
use Rattle.tect_world.proofs.history.moments_by_marks.Goals as goal

pub tell_mark-requires-clause-mark : goal.tell_mark-requires-clause-mark
tell_mark-requires-clause-mark g c = mark_at _ c.args.order.now c.each.mark-index _ c.each-test.true c.requires

pub each-preserved : goal.each-preserved
each-preserved g c = record {
  told = λ k. c.in_ok-tell_mark.ensures.told k (drop (c.each.mark-index + 1) c.args.order.now)
      ∙ ap (λ (ms : List Mark). map (λ (x : Bor Moment). x.now) c.each.told.items
      ++ moments_in_order ms (left_by k c.args.clients.now c.each.counts.items)) (sym (drop_more c.args.order.now c.each.mark-index _ c.each-test.true))
      ∙ c.each.invariant.told k;
  counts = c.tell_mark.ensures.counts;
}
