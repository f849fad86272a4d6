use Rattle.std.proofs.Common.{◌≡◌, IsOk}
use Rattle.std.specs.List.{All, flat_map}
use Rattle.tect_race.specs.Batches.{ended_workers}
use Rattle.tect_race.proofs.threads.all_ended.Given as goal

abbrev pub invariant-batches : goal.invariant-batches
invariant-batches g l = record {
  ended : All (λ batch. IsOk batch) l.yielded;
  joined : l.workers.items ≡ flat_map ended_workers l.yielded;
}
