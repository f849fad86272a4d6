use Rattle.std.proofs.Common.{◌≡◌, ◌%◌, ◌+◌, ◌∷◌, ◌++◌, [], List, length, length-append, Some, set, slice_get, get_or, refl, sym, ap, subst, ◌∙◌}
use Rattle.std.proofs.lemmas.Option.{slice_get_read}
use Rattle.tect_race.specs.declared.workers.Worker.{Worker}
use Rattle.tect_race.specs.Ready.{AreAssigned}
use Rattle.tect_race.proofs.Assigning.{worker_within, assigned_on}
use Rattle.std.proofs.lemmas.Iterator.Adapters.{YieldsList-from_vec}
use Rattle.std.proofs.lemmas.Iterator.Consumers.{YieldsList-end}
use Rattle.std.proofs.lemmas.List.{map-id}
use Rattle.racers.specs.declared.racer.Racer.{Racer}
use Rattle.tect_race.proofs.workers.assign.Goals as goal

pub racers-preserved : goal.racers-preserved
racers-preserved g c =
    let count : c.racers.assigned ≡ length c.racers.yielded = c.racers.invariant.count in
    let old : Worker g.row.P.Denot = c.index_mut.result.now in
    let new : Worker g.row.P.Denot = record { number = c.index_mut.result.now.number; racers = c.push.new.self } in
    let within = worker_within c.args.worker_count c.requires c.racers.yielded c.racers.yielded c.racers.workers.items
    c.racers.invariant.assigned in
    let here : slice_get c.racers.workers.items (length c.racers.yielded % c.args.worker_count) ≡ Some old =
    slice_get_read c.racers.workers.items (length c.racers.workers.items) (length c.racers.yielded % c.args.worker_count) old refl within
    (c.index_mut.ensures.value ∙ ap (λ k. get_or c.racers.workers.items (k % c.args.worker_count) old) count) in
    record {
      count = ap (λ k. k + 1) count ∙ sym (length-append c.racers.yielded (c.in-Some.racer ∷ []));
      assigned = subst
          (λ k. AreAssigned c.args.worker_count (c.racers.yielded ++ c.in-Some.racer ∷ [])
          (set c.racers.workers.items (k % c.args.worker_count) new)) (sym count)
          (assigned_on c.args.worker_count c.requires c.racers.yielded c.racers.workers.items c.in-Some.racer old new
          c.racers.invariant.assigned here refl c.in_ok-push.ensures.items);
    }

pub returns : goal.returns
returns g c =
    let began = c.into_iter-racer-iterator.ensures.into_iter_gives in
    let t = YieldsList-end (YieldsList-from_vec c.args.racers.items began.0 (began.1 ∙ c.args.racers.ok.0)) c.racers.yielded c.racers.racer-iterator
    c.racers.yielded_by c.next.result c.next.new.self c.in-None.is c.next.ensures.steps in
    subst (λ (rs : List (Racer g.row.P.Denot)). AreAssigned c.args.worker_count rs c.racers.workers.items)
    (sym (map-id c.racers.yielded) ∙ t.0) c.racers.invariant.assigned
