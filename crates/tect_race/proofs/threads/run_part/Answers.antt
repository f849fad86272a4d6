use Rattle.std.proofs.Common.{◌≡◌, ◌<◌, length, drop, sym, subst, ◌∙◌}
use Rattle.tect_race.specs.Ready.{AreAssigned, CanBeCollected}
use Rattle.tect_race.proofs.Collecting.{can_collect, racers_ran, racers_ready, workers_ready}
use Rattle.tect_race.proofs.threads.run_part.Goals as goal
use Rattle.tect_race.proofs.threads.run_part.Goals.{In_ok-done, In_ok-collected}

pub run_workers-requires-clause-ready : goal.run_workers-requires-clause-ready
run_workers-requires-clause-ready g c κs within =
    let shared = c.args.shared.now in
    workers_ready g.P.Programs.rules shared.worker_count c.requires.workers shared.places.now (length shared.clients.now)
    (drop c.args.start shared.lines.now)
    c.args.racers.items c.in_ok-assigned.assigned.items c.requires.all c.requires.ready c.in_ok-assigned.ensures

pub collect-requires-clause-some : goal.collect-requires-clause-some
collect-requires-clause-some g c =
    let p : In_ok-done g = (goal.at.collect-requires-clause-some g c).In_ok-done in
    subst (λ k. 0 < k) (sym p.in_ok-done.ensures.ready.count) p.requires.workers

as_many : (g : _) (p : In_ok-done g) → p.len-clients.result ≡ length p.args.shared.now.clients.now
as_many g p = p.len-clients.ensures ∙ p.args.racers.ok.0 ∙ p.requires.all

pub collect-requires-clause-can : goal.collect-requires-clause-can
collect-requires-clause-can g c =
    let p : In_ok-done g = (goal.at.collect-requires-clause-can g c).In_ok-done in
    let shared = p.args.shared.now in
    subst (λ n. CanBeCollected n p.in_ok-done.done.items) (sym (as_many g p))
    (can_collect g.P.Programs.rules shared.worker_count p.requires.workers shared.places.now (length shared.clients.now)
    (drop p.args.end shared.lines.now)
    p.in_ok-done.done.items p.in_ok-done.ensures.ready)

-- the clients that were collected are those of the workers
still_assigned : (g : _) (c : In_ok-collected g) (p : In_ok-done g)
    → AreAssigned (length p.in_ok-done.done.items) c.in_ok-collected.collected.items p.in_ok-done.done.items
    → AreAssigned p.args.shared.now.worker_count c.in_ok-collected.collected.items p.in_ok-done.done.items
still_assigned g c p a =
    subst (λ k. AreAssigned k c.in_ok-collected.collected.items p.in_ok-done.done.items) p.in_ok-done.ensures.ready.count a

pub returns-clause-ran : goal.returns-clause-ran
returns-clause-ran g c =
    let p : In_ok-done g = (goal.at.returns-clause-ran g c).In_ok-done in
    let shared = p.args.shared.now in
    racers_ran g.P.Programs.rules shared.worker_count p.requires.workers shared.clients.now _ p.args.racers.items
    c.in_ok-collected.collected.items
    p.in_ok-assigned.assigned.items p.in_ok-done.done.items p.in_ok-assigned.ensures
    (still_assigned g c p c.in_ok-collected.ensures.assigned)
    (c.in_ok-collected.ensures.all ∙ p.len-clients.ensures ∙ p.args.racers.ok.0) p.in_ok-done.ensures.ran

pub returns-clause-ready : goal.returns-clause-ready
returns-clause-ready g c =
    let p : In_ok-done g = (goal.at.returns-clause-ready g c).In_ok-done in
    let shared = p.args.shared.now in
    racers_ready g.P.Programs.rules shared.worker_count p.requires.workers shared.places.now (length shared.clients.now)
    (drop p.args.end shared.lines.now)
    c.in_ok-collected.collected.items p.in_ok-done.done.items (still_assigned g c p c.in_ok-collected.ensures.assigned)
    p.in_ok-done.ensures.ready
