use Rattle.std.proofs.Common.{◌∷◌, ◌++◌, [], List, length, drop, slice_range, sym, subst, ◌∙◌}
use Rattle.std.specs.List.{AllZip}
use Rattle.std.proofs.lemmas.Slice.Zip.{all_zipped_more}
use Rattle.tect_race.specs.declared.workers.Worker.{Worker}
use Rattle.tect_race.specs.Workers.{WorkerEnds}
use Rattle.std.proofs.lemmas.Iterator.Adapters.{YieldsList-from_vec}
use Rattle.std.proofs.lemmas.Iterator.Consumers.{YieldsList-turn}
use Rattle.std.proofs.lemmas.List.Elements.{All-get_or}
use Rattle.tect_race.specs.Ready.{IsWorker}
use Rattle.tect_race.proofs.threads.run_batch.Goals as goal

pub workers-preserved : goal.workers-preserved
workers-preserved g c =
    subst (λ (l : List (Worker g.row.P.Denot)). AllZip
    (WorkerEnds g.P.Programs.rules c.args.shared.now.places.now c.args.shared.now.clients.now c.args.shared.now.worker_count
    (slice_range c.args.shared.now.lines.now c.args.start c.args.end) (drop c.args.end c.args.shared.now.lines.now))
    (c.workers.yielded ++ c.in-Some.worker ∷ []) l) (sym c.in-Ok.ensures.items)
    (all_zipped_more
    (WorkerEnds g.P.Programs.rules c.args.shared.now.places.now c.args.shared.now.clients.now c.args.shared.now.worker_count
    (slice_range c.args.shared.now.lines.now c.args.start c.args.end) (drop c.args.end c.args.shared.now.lines.now)) c.workers.yielded
    c.workers.done.items c.in-Some.worker c.in_ok-ran.ran c.workers.invariant c.in_ok-ran.ensures.so)

pub run_worker-requires-clause-ready : goal.run_worker-requires-clause-ready
run_worker-requires-clause-ready g c =
    let began = c.into_iter-worker-iterator.ensures.into_iter_gives in
    let t = YieldsList-turn (YieldsList-from_vec c.args.batch.items began.0 (began.1 ∙ c.args.batch.ok.0)) c.workers.yielded c.workers.worker-iterator
    c.workers.yielded_by c.next.result c.next.new.self c.in-Some.worker c.in-Some.is c.next.ensures.steps in
    subst (IsWorker g.P.Programs.rules c.args.shared.now.places.now (length c.args.shared.now.clients.now) c.args.shared.now.worker_count
    (drop c.args.start c.args.shared.now.lines.now)) (sym t.1)
    (All-get_or (IsWorker g.P.Programs.rules c.args.shared.now.places.now (length c.args.shared.now.clients.now)
    c.args.shared.now.worker_count (drop c.args.start c.args.shared.now.lines.now)) c.args.batch.items (length c.workers.yielded) c.in-Some.worker
    t.0 c.requires.ready)
