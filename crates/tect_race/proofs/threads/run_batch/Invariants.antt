use Rattle.std.proofs.Common.{drop, slice_range}
use Rattle.std.specs.List.{AllZip}
use Rattle.tect_race.specs.Workers.{WorkerEnds}
use Rattle.tect_race.proofs.threads.run_batch.Given as goal

abbrev pub invariant-workers : goal.invariant-workers
invariant-workers g l =
    AllZip (WorkerEnds g.P.Programs.rules l.fn.shared.places.now l.fn.shared.clients.now l.fn.shared.worker_count
    (slice_range l.fn.shared.lines.now l.fn.start l.fn.end) (drop l.fn.end l.fn.shared.lines.now)) l.yielded l.done.items
