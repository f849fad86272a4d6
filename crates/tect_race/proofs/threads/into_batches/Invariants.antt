use Rattle.tect_race.proofs.Cutting.{IsCut}
use Rattle.tect_race.proofs.threads.into_batches.Given as goal

abbrev pub invariant-workers : goal.invariant-workers
invariant-workers g l = IsCut l.worker_count l.part l.yielded l.batches.items l.batch.items l.has_busy
