use Rattle.std.proofs.Common.{◌+◌, length, take, drop}
use Rattle.tect_race.specs.Workers.{WorkerRan}
use Rattle.tect_race.specs.Ready.{IsWorker}
use Rattle.tect_race.proofs.workers.run_worker.Given as goal

abbrev pub invariant-lines : goal.invariant-lines
invariant-lines g l = record {
  ran : WorkerRan g.P.Programs.rules l.fn.shared.clients.now (take l.line-index l.part) l.fn.worker l.worker;
  ready : IsWorker g.P.Programs.rules l.fn.shared.places.now (length l.fn.shared.clients.now) l.fn.shared.worker_count
      (drop (l.fn.start + l.line-index) l.fn.shared.lines.now) l.worker;
}
