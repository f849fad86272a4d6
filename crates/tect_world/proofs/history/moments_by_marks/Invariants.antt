use Rattle.std.proofs.Common.{◌≡◌, ◌++◌, map, drop, length}
use Rattle.tect_ids.specs.declared.ids.Counts.{Counts}
use Rattle.tect_world.specs.Noted.{moments_by}
use Rattle.world_lives.specs.Order.{moments_in_order}
use Rattle.tect_world.specs.Telling.{left_by}
use Rattle.tect_world.proofs.history.moments_by_marks.Given as goal

abbrev pub invariant-each : goal.invariant-each
invariant-each g l = record {
  told : (k : Counts) → map (λ m. m.now) l.told.items ++ moments_in_order (drop l.mark-index l.order) (left_by k l.clients l.counts.items)
      ≡ moments_in_order l.order (moments_by k l.clients);
  counts : length l.counts.items ≡ length l.clients;
}
