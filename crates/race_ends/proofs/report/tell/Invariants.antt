use Rattle.std.proofs.Common.{◌≤◌, drop, length, map}
use Rattle.std.specs.Vec.Iter.{into_iter_items}
use Rattle.race_ends.proofs.Telling.{Telling}
use Rattle.race_ends.proofs.report.tell.Given as goal

abbrev pub invariant-loop-part : goal.invariant-loop-part
invariant-loop-part l = record {
  within : l.done ≤ length l.moments;
  telling : Telling (map (λ m. m.now) l.moments) (drop l.done (map (λ m. m.now) l.moments)) l.shards.store l.report.items l.last.items
      (into_iter_items l.part-iterator) l.fn.ended.items;
}
