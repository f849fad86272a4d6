use Rattle.std.proofs.Common.{◌≡◌, false, take}
use Rattle.std.specs.List.{list_any}
use Rattle.tect_race.specs.Batches.{is_of_worker}
use Rattle.tect_race.proofs.threads.is_busy.Given as goal

abbrev pub invariant-lines : goal.invariant-lines
invariant-lines g l = list_any (is_of_worker l.worker_count l.worker.number) (take l.line-index l.part) ≡ false
