use Rattle.std.proofs.Common.{◌≡◌, ◌<◌, ◌%◌, ◌-◌, ◌++◌, List, length, Some, slice_get, option_to_list, refl, sym, ap, subst, ◌∙◌, arith}
use Rattle.std.proofs.lemmas.Option.{slice_get_read}
use Rattle.racers.specs.declared.racer.Racer.{Racer}
use Rattle.tect_race.specs.declared.workers.Worker.{Worker}
use Rattle.tect_race.specs.Ready.{AreAssigned, AreCollected}
use Rattle.tect_race.proofs.Assigning.{collectable, collected_none, collected_within, collected_some, collected_on, collected_all}
use Rattle.tect_race.proofs.workers.collect.Goals as goal
use Rattle.tect_race.proofs.workers.collect.Goals.{After-pop, After-drop-workers-2}

pub clients-init : goal.clients-init
clients-init g c =
    let as_many : c.len-count.result ≡ length c.args.workers.items = c.len-count.ensures ∙ c.args.workers.ok.0 in
    let all = collectable c.args.clients c.args.workers.items c.requires.some c.requires.can in
    let assigned = subst (λ k. AreAssigned k all.0 c.args.workers.items) (sym as_many) all.2 in (
      all.0,
      all.1,
      assigned,
      subst (λ (l : List (Racer g.row.P.Denot)). AreCollected c.len-count.result c.args.clients all.0 c.args.workers.items l)
          (sym c.new-racers.ensures.items) (collected_none c.len-count.result c.args.clients all.0 c.args.workers.items all.1 assigned),
    )

some_worker : (g : _) (c : After-pop g) → 0 < c.len-count.result
some_worker g c = subst (λ k. 0 < k) (sym (c.len-count.ensures ∙ c.args.workers.ok.0)) c.requires.some

found : (g : _) (c : After-pop g) → slice_get c.clients.workers.items
    ((c.clients.client - 1) % c.len-count.result) ≡ Some c.index_mut.result.now
found g c =
    slice_get_read c.clients.workers.items (length c.clients.workers.items) ((c.clients.client - 1) % c.len-count.result)
    c.index_mut.result.now refl
    (collected_within c.len-count.result (some_worker g c) c.clients.client c.clients-test.true c.clients.invariant.0
    c.clients.workers.items c.clients.racers.items c.clients.invariant.3) c.index_mut.ensures.value

pub unreachable-requires : goal.unreachable-requires
unreachable-requires g c =
    let p : After-pop g = (goal.at.unreachable-requires g c).After-pop in
    let s = collected_some p.len-count.result (some_worker g p) p.clients.client p.clients-test.true p.clients.invariant.0
    p.clients.workers.items p.clients.racers.items p.clients.invariant.3 p.index_mut.result.now (found g p) in
    let none : p.index_mut.result.now.racers.len ≡ 0 = c.in_default.ensures.cases.0 in
    let len = p.index_mut.result.now.racers.ok.0 in
    omega arith

pub clients-preserved : goal.clients-preserved
clients-preserved g c =
    let p : After-pop g = (goal.at.clients-preserved g c).After-pop in
    let is = c.clients.invariant in
    let new : Worker g.row.P.Denot = record { number = c.index_mut.result.now.number; racers = c.pop.new.self } in (
      is.0,
      is.1,
      is.2,
      collected_on c.len-count.result (some_worker g p) c.clients.client c.clients-test.true is.0 c.clients.workers.items
          c.clients.racers.items is.3 c.index_mut.result.now (found g p) new c.in-Some.racer c.push.new.self.items refl
          (c.pop.ensures.items ∙ ap (λ o. c.pop.new.self.items ++ option_to_list o) c.in-Some.is) c.in_ok-push.ensures.items,
    )

-- all were taken
collected : (g : _) (c : After-drop-workers-2 g) → c.reverse.new.self.items ≡ c.clients.invariant.0
collected g c =
    let none : c.clients.client ≡ 0 = (let h = c.clients-test.false in omega arith) in
    let is = c.clients.invariant in
    c.reverse.ensures.items ∙ collected_all c.len-count.result is.0 c.clients.workers.items c.clients.racers.items
    (subst (λ k. AreCollected c.len-count.result k is.0 c.clients.workers.items c.clients.racers.items) none is.3)

pub returns-clause-all : goal.returns-clause-all
returns-clause-all g c = ap (λ (l : List (Racer g.row.P.Denot)). length l) (collected g c) ∙ c.clients.invariant.1

pub returns-clause-assigned : goal.returns-clause-assigned
returns-clause-assigned g c =
    subst (λ (l : List (Racer g.row.P.Denot)). AreAssigned (length c.args.workers.items) l c.args.workers.items) (sym (collected g c))
    (subst (λ k. AreAssigned k c.clients.invariant.0 c.args.workers.items) (c.len-count.ensures ∙ c.args.workers.ok.0)
    c.clients.invariant.2)
