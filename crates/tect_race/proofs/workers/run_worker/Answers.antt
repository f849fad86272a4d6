use Rattle.std.proofs.Common.{◌≡◌, ◌+◌, ◌-◌, ◌<◌, ◌≤◌, ◌∷◌, ◌++◌, [], List, length, take, drop, get_or, sym, ap, subst, ◌∙◌, arith}
use Rattle.std.proofs.lemmas.List.{take_all, take_more}
use Rattle.std.proofs.lemmas.List.Elements.{All-get_or}
use Rattle.tect_ids.specs.declared.script.Line.{Line}
use Rattle.tect_race.specs.Workers.{WorkerRan}
use Rattle.racer_stories.specs.Ready.{IsOfClient}
use Rattle.tect_race.specs.Ready.{IsWorker}
use Rattle.tect_race.proofs.WorkerLines.{worker_ran_none, worker_ran_on, worker_ready_on}
use Rattle.list_laws.proofs.Parts.{length_part, next_line}
use Rattle.tect_race.proofs.workers.run_worker.Goals as goal

pub lines-init : goal.lines-init
lines-init g c = record {
  ran = worker_ran_none g.P.Programs.rules c.args.shared.now.clients.now c.args.worker;
  ready = subst (λ k. IsWorker g.P.Programs.rules c.args.shared.now.places.now
      (length c.args.shared.now.clients.now) c.args.shared.now.worker_count
      (drop k c.args.shared.now.lines.now) c.args.worker)
      (let e : c.args.start ≡ c.args.start + 0 = omega arith in e) c.requires.ready;
}

pub lines-preserved : goal.lines-preserved
lines-preserved g c =
    let part : List Line = take (c.args.end - c.args.start) (drop c.args.start c.args.shared.now.lines.now) in
    let within : c.lines.line-index < length part = c.lines-test.true in
    let line : Line = c.line-item.result in
    let is : get_or part c.lines.line-index line ≡ line = sym c.line-item.is in
    let left = next_line c.args.shared.now.lines.now c.args.start c.args.end c.lines.line-index line c.requires.part.0 c.requires.part.1
    within in
    let more = take_more part c.lines.line-index line within in
    record {
      ran = subst (λ (ls : List Line). WorkerRan g.P.Programs.rules c.args.shared.now.clients.now ls c.args.worker c.play_line.new.worker)
          (sym (more ∙ ap (λ x. take c.lines.line-index part ++ x ∷ []) is))
          (worker_ran_on g.P.Programs.rules c.args.shared.now.clients.now (take c.lines.line-index part) line c.args.worker c.lines.worker
          c.play_line.new.worker c.lines.invariant.ran c.in_ok-play_line.ensures.plays);
      ready = worker_ready_on g.P.Programs.rules c.args.shared.now.places.now c.args.shared.now.clients.now
          (length c.args.shared.now.clients.now)
          c.args.shared.now.worker_count line (drop (c.args.start + (c.lines.line-index + 1)) c.args.shared.now.lines.now)
          c.lines.worker c.play_line.new.worker
          (subst (λ (ls : List Line). IsWorker g.P.Programs.rules c.args.shared.now.places.now (length c.args.shared.now.clients.now)
          c.args.shared.now.worker_count ls c.lines.worker)
          (left ∙ ap (λ x. x ∷ drop (c.args.start + (c.lines.line-index + 1)) c.args.shared.now.lines.now) is) c.lines.invariant.ready)
          c.in_ok-play_line.ensures.plays;
    }

pub returns : goal.returns
returns g c =
    let part : List Line = take (c.args.end - c.args.start) (drop c.args.start c.args.shared.now.lines.now) in
    let len : length part ≡ c.args.end - c.args.start = length_part c.args.shared.now.lines.now c.args.start c.args.end c.requires.part.0
    c.requires.part.1 in
    let past : length part ≤ c.lines.line-index = c.lines-test.false in
    let low : c.lines.line-index ≤ length part = c.lines.auto.line-index-end in
    record {
      so = record {
        ran = subst (λ (ls : List Line). WorkerRan g.P.Programs.rules c.args.shared.now.clients.now ls c.args.worker c.lines.worker)
            (take_all c.lines.line-index part past) c.lines.invariant.ran;
        ready = subst (λ k. IsWorker g.P.Programs.rules c.args.shared.now.places.now
            (length c.args.shared.now.clients.now) c.args.shared.now.worker_count
            (drop k c.args.shared.now.lines.now) c.lines.worker)
            (let q = c.requires.part.0 in let e : c.args.start + c.lines.line-index ≡ c.args.end = omega arith in e)
            c.lines.invariant.ready;
      };
    }

pub play_line-requires-clause-client : goal.play_line-requires-clause-client
play_line-requires-clause-client g c =
    let part : List Line = take (c.args.end - c.args.start) (drop c.args.start c.args.shared.now.lines.now) in
    let within : c.lines.line-index < length part = c.lines-test.true in
    let line : Line = c.line-item.result in
    subst (IsOfClient (length c.args.shared.now.clients.now)) (sym c.line-item.is)
    (All-get_or (IsOfClient (length c.args.shared.now.clients.now)) part c.lines.line-index line within c.requires.clients)

pub play_line-requires-clause-ready : goal.play_line-requires-clause-ready
play_line-requires-clause-ready g c =
    let part : List Line = take (c.args.end - c.args.start) (drop c.args.start c.args.shared.now.lines.now) in
    let within : c.lines.line-index < length part = c.lines-test.true in
    let line : Line = c.line-item.result in
    let is : get_or part c.lines.line-index line ≡ line = sym c.line-item.is in
    let left = next_line c.args.shared.now.lines.now c.args.start c.args.end c.lines.line-index line c.requires.part.0 c.requires.part.1
    within in (
      drop (c.args.start + (c.lines.line-index + 1)) c.args.shared.now.lines.now,
      subst (λ (ls : List Line). IsWorker g.P.Programs.rules c.args.shared.now.places.now (length c.args.shared.now.clients.now)
          c.args.shared.now.worker_count ls c.lines.worker)
          (left ∙ ap (λ x. x ∷ drop (c.args.start + (c.lines.line-index + 1)) c.args.shared.now.lines.now) is) c.lines.invariant.ready,
    )
