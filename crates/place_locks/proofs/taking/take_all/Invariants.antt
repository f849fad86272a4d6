use Rattle.std.proofs.Common.{◌≡◌, ◌+◌, length}
use Rattle.tect_ids.specs.Places.{place_count}
use Rattle.place_kit.specs.Started.{StandFirst}
use Rattle.place_locks.proofs.taking.take_all.Given as goal

abbrev pub invariant-loop-at : goal.invariant-loop-at
invariant-loop-at l = record {
  can : (goal.iterator-loop-at).can_next l.at-iterator;
  finite : (goal.iterator-loop-at).is_finite l.at-iterator;
  left : length l.kepts.items + (goal.iterator-loop-at).remaining l.at-iterator ≡ place_count l.counts;
  first : StandFirst l.counts (length l.kepts.items) l.kepts.items;
}
