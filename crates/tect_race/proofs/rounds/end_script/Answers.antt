use Rattle.std.proofs.Common.{◌≡◌, ◌≤◌, List, length, sym, ap, subst, ◌∙◌}
use Rattle.std.specs.List.{All, AllZip, flat_map}
use Rattle.std.proofs.lemmas.List.{with_items_is}
use Rattle.racers.specs.declared.racer.Racer.{Racer}
use Rattle.racer_stories.specs.Passes.{IsPassOf}
use Rattle.racer_stories.specs.Closed.{AllClosed, Closed}
use Rattle.tect_race.proofs.Coming.{come_to_end}
use Rattle.list_laws.proofs.Pairs.{zip_length}
use Rattle.tect_race.proofs.rounds.end_script.Goals as goal

pub returns-clause-run : goal.returns-clause-run
returns-clause-run g c =
    let shared = c.args.shared.now in
    let ts : List (Racer g.row.P.Denot) = c.in_ok-racers.racers.items in
    let us : List (Racer g.row.P.Denot) = c.end_part.new.racers in
    let ps = c.in_ok-passes.passes.items in
    let k = c.in_ok-part.part.clock in
    let value : c.deref_mut.result.now ≡ ts = c.deref_mut.ensures.value in
    let high : All (λ r. r.client.clock ≤ k) ts = subst (All (λ r. r.client.clock ≤ k)) value c.in_ok-part.ensures.highest in
    let closed : AllClosed g.P.Programs.rules k ts us = subst (λ (l : List
    (Racer g.row.P.Denot)). AllClosed g.P.Programs.rules k l us) value c.in_ok-part.ensures.closed in
    let told = c.in_ok-part.ensures.answers
    ∙ ap (λ (l : List (Racer g.row.P.Denot)). flat_map (λ (r : Racer g.row.P.Denot). r.answers.items) l) value in
    let len : length us ≡ c.in_ok-racers.racers.len = zip_length (Closed g.P.Programs.rules k) ts us closed
    ∙ sym c.in_ok-racers.racers.ok.0 in
    let taken : AllZip IsPassOf us ps = subst (λ (l : List (Racer g.row.P.Denot)). AllZip IsPassOf l ps)
    (with_items_is c.in_ok-racers.racers us len)
    c.in_ok-passes.ensures in
    come_to_end g.P.Programs.rules shared.places.now shared.clients.now shared.lines.now c.args.progress ts us ps k
    c.in_ok-part.part.answers.items
    c.requires.places c.requires.script.asked c.requires.come
    c.in_ok-racers.ensures.ran c.in_ok-racers.ensures.ready c.in_ok-part.ensures.clock.1 high closed taken told
