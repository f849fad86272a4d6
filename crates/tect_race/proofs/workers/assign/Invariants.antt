use Rattle.std.proofs.Common.{◌≡◌, length}
use Rattle.tect_race.specs.Ready.{AreAssigned}
use Rattle.tect_race.proofs.workers.assign.Given as goal

abbrev pub invariant-racers : goal.invariant-racers
invariant-racers g l = record {
  count : l.assigned ≡ length l.yielded;
  assigned : AreAssigned l.worker_count l.yielded l.workers.items;
}
