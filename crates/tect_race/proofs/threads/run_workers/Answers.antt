use Rattle.std.proofs.Common.{rules, ◌≡◌, List, Vec, length, get_or, drop, slice_range, IsOk, sym, subst, ◌∙◌}
use Rattle.std.specs.declared.alloc.Global.{Global}
use Rattle.std.specs.List.{All, AllZip, flat_map}
use Rattle.tect_race.specs.declared.workers.Worker.{Worker}
use Rattle.tect_race.specs.Workers.{WorkerEnds}
use Rattle.tect_race.specs.Batches.{BatchCame, ended_workers}
use Rattle.tect_race.specs.Ready.{IsWorker}
use Rattle.tect_race.proofs.Collecting.{ended_ran, ended_ready}
use Rattle.tect_race.proofs.Batching.{Came, all_came, strays, workers_ended, each_batch, if_both}
use denote.Param.Send.{sendable}
use Rattle.std.proofs.Crossing.{crosses}
use Rattle.tect_race.proofs.Crossing.{Places-sync, Name-sync, Line-sync}
use Rattle.tect_race.proofs.threads.run_workers.Goals as goal
use Rattle.tect_race.proofs.threads.run_workers.Goals.{In-Ok, After-all_ended}

pub map_vec-requires-sync-F : goal.map_vec-requires-sync-F
map_vec-requires-sync-F g c κs within =
    let r = c.type_bounds.sync-R in
    let s = c.type_bounds.sync-G in
    search (sendable, crosses, Places-sync, Name-sync, Line-sync) depth 40 fits 4000

pub map_vec-requires-after_bounds : goal.map_vec-requires-after_bounds
map_vec-requires-after_bounds g c κs within i x low is =
    let all : All (IsWorker g.P.Programs.rules c.args.shared.now.places.now
    (length c.args.shared.now.clients.now) c.args.shared.now.worker_count
    (drop c.args.start c.args.shared.now.lines.now))
    (flat_map (λ (b : Vec (Worker g.row.P.Denot) Global). b.items) c.in_ok-batches.batches.items) =
    subst (λ (l : List (Worker g.row.P.Denot)). All
    (IsWorker g.P.Programs.rules c.args.shared.now.places.now (length c.args.shared.now.clients.now) c.args.shared.now.worker_count
    (drop c.args.start c.args.shared.now.lines.now)) l) (sym c.in_ok-batches.ensures.joined) c.requires.ready.workers in
    let ready : All
    (IsWorker g.P.Programs.rules c.args.shared.now.places.now (length c.args.shared.now.clients.now) c.args.shared.now.worker_count
    (drop c.args.start c.args.shared.now.lines.now)) x.items = subst
    (λ (y : Vec (Worker g.row.P.Denot) Global). All
    (IsWorker g.P.Programs.rules c.args.shared.now.places.now (length c.args.shared.now.clients.now) c.args.shared.now.worker_count
    (drop c.args.start c.args.shared.now.lines.now)) y.items) (sym is)
    (each_batch
    (IsWorker g.P.Programs.rules c.args.shared.now.places.now (length c.args.shared.now.clients.now) c.args.shared.now.worker_count
    (drop c.args.start c.args.shared.now.lines.now)) c.in_ok-batches.batches.items all i x low) in
    search rules

came : (g : _) (c : In-Ok g)
    → AllZip (Came g.P.Programs.rules c.args.shared.now.places.now c.args.shared.now.clients.now c.args.shared.now.worker_count
    (slice_range c.args.shared.now.lines.now c.args.start c.args.end) (drop c.args.end c.args.shared.now.lines.now))
    c.in_ok-batches.batches.items c.in-Ok.ran.items
came g c =
    all_came g.P.Programs.rules c.args.shared.now.places.now c.args.shared.now.clients.now c.args.shared.now.worker_count
    (slice_range c.args.shared.now.lines.now c.args.start c.args.end) (drop c.args.end c.args.shared.now.lines.now)
    c.in_ok-batches.batches.items c.in-Ok.ran.items
    (sym c.in-Ok.ran.ok.0 ∙ c.in-Ok.ensures.len ∙ c.in_ok-batches.batches.ok.0)
    (λ i b r low.
    let e = c.in-Ok.ensures.each i r low in
    let job : Vec (Worker g.row.P.Denot) Global = e.1.job in
    let fact : BatchCame g.P.Programs.rules c.args.shared.now.places.now c.args.shared.now.clients.now c.args.shared.now.worker_count
    (slice_range c.args.shared.now.lines.now c.args.start c.args.end) (drop c.args.end c.args.shared.now.lines.now) job.items
    (get_or c.in-Ok.ran.items i r) = search rules in
    subst (λ (y : Vec (Worker g.row.P.Denot) Global). Came g.P.Programs.rules c.args.shared.now.places.now c.args.shared.now.clients.now
    c.args.shared.now.worker_count
    (slice_range c.args.shared.now.lines.now c.args.start c.args.end) (drop c.args.end c.args.shared.now.lines.now) y
    (get_or c.in-Ok.ran.items i r)) (sym (e.1.job_is b)) fact)

pub all_ended-requires : goal.all_ended-requires
all_ended-requires g c = strays g.P.Programs.rules c.args.shared.now.places.now c.args.shared.now.clients.now c.args.shared.now.worker_count
    (slice_range c.args.shared.now.lines.now c.args.start c.args.end) (drop c.args.end c.args.shared.now.lines.now)
    c.in_ok-batches.batches.items c.in-Ok.ran.items (came g c)

ended : (g : _) (c : After-all_ended g) (ds : Vec (Worker g.row.P.Denot) Global) → All (λ batch. IsOk batch) c.in-Ok.ran.items
    → ds.items ≡ flat_map ended_workers c.in-Ok.ran.items
    → AllZip (WorkerEnds g.P.Programs.rules c.args.shared.now.places.now c.args.shared.now.clients.now c.args.shared.now.worker_count
    (slice_range c.args.shared.now.lines.now c.args.start c.args.end) (drop c.args.end c.args.shared.now.lines.now))
    c.args.workers.items ds.items
ended g c ds ok is =
    workers_ended g.P.Programs.rules c.args.shared.now.places.now c.args.shared.now.clients.now c.args.shared.now.worker_count
    (slice_range c.args.shared.now.lines.now c.args.start c.args.end) (drop c.args.end c.args.shared.now.lines.now) c.args.workers.items
    ds.items c.in_ok-batches.batches.items c.in-Ok.ran.items c.in_ok-batches.ensures
    (came g (goal.at.returns-in-Ok-clause-ran g c).In-Ok) ok is

pub returns-in-Ok-clause-ran : goal.returns-in-Ok-clause-ran
returns-in-Ok-clause-ran g c =
    if_both c.all_ended.result
    (λ ds ok is. ended_ran g.P.Programs.rules c.args.shared.now.places.now c.args.shared.now.clients.now c.args.shared.now.worker_count
    (slice_range c.args.shared.now.lines.now c.args.start c.args.end) (drop c.args.end c.args.shared.now.lines.now) c.args.workers.items
    ds.items (ended g c ds ok is)) c.all_ended.ensures.ended c.all_ended.ensures.joined

pub returns-in-Ok-clause-ready : goal.returns-in-Ok-clause-ready
returns-in-Ok-clause-ready g c =
    if_both c.all_ended.result
    (λ ds ok is. ended_ready g.P.Programs.rules c.args.shared.now.places.now c.args.shared.now.clients.now c.args.shared.now.worker_count
    (slice_range c.args.shared.now.lines.now c.args.start c.args.end) (drop c.args.start c.args.shared.now.lines.now)
    (drop c.args.end c.args.shared.now.lines.now) c.args.workers.items ds.items c.requires.ready (ended g c ds ok is))
    c.all_ended.ensures.ended c.all_ended.ensures.joined
