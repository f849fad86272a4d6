use Rattle.list_laws.proofs.Pairs.{zip_push}
use Rattle.racer_stories.specs.Passes.{IsPassOf}
use Rattle.std.proofs.Common.{List, sym, subst, ◌∙◌}
use Rattle.std.specs.List.{AllZip}
use Rattle.std.proofs.lemmas.Iterator.Adapters.{YieldsList-from_vec}
use Rattle.std.proofs.lemmas.Iterator.Consumers.{YieldsList-end}
use Rattle.std.proofs.lemmas.List.{map-id}
use Rattle.racers.specs.declared.racer.Racer.{Racer}
use Rattle.tect_race.proofs.rounds.take_passes.Goals as goal

pub racers-preserved : goal.racers-preserved
racers-preserved g c =
    rw c.in_ok-push.ensures.items
    (zip_push IsPassOf c.racers.yielded c.racers.passes.items c.in-Some.racer c.into_pass-pass.result.0 c.racers.invariant
    (record { actor = c.into_pass-pass.ensures.pass.0; moments = c.into_pass-pass.ensures.pass.2 }))

pub returns : goal.returns
returns g c =
    let began = c.into_iter-racer-iterator.ensures.into_iter_gives in
    let t = YieldsList-end (YieldsList-from_vec c.args.racers.items began.0 (began.1 ∙ c.args.racers.ok.0)) c.racers.yielded c.racers.racer-iterator
    c.racers.yielded_by c.next.result c.next.new.self c.in-None.is c.next.ensures.steps in
    subst (λ (rs : List (Racer g.row.P.Denot)). AllZip IsPassOf rs c.racers.passes.items) (sym (map-id c.racers.yielded) ∙ t.0)
    c.racers.invariant
