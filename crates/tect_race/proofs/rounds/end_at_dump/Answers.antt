use Rattle.std.proofs.Common.{◌≡◌, ◌+◌, ◌≤◌, List, length, drop, take, sym, ap, subst, ◌∙◌, arith, rules}
use Rattle.std.specs.List.{All, flat_map}
use Rattle.std.proofs.lemmas.List.{with_items_is}
use Rattle.racers.specs.declared.racer.Racer.{Racer}
use Rattle.race_ends.specs.declared.ended.EndedPart.{EndedPart}
use Rattle.racer_stories.specs.Closed.{AllClosed, Closed}
use Rattle.tect_race.specs.Progress.{Stood}
use Rattle.racer_stories.specs.Ready.{IsOfClient}
use Rattle.tect_race.proofs.Coming.{come_on}
use Rattle.list_laws.proofs.Pairs.{zip_length}
use Rattle.list_laws.proofs.Parts.{none_yet}
use Rattle.std.proofs.lemmas.Option.{slice_get_within}
use Rattle.tect_race.proofs.rounds.end_at_dump.Goals as goal

pub returns-clause-dumped : goal.returns-clause-dumped
returns-clause-dumped g c =
    let counts = c.args.shared.now.places.now in
    let names = c.args.shared.now.clients.now in
    let ls = c.args.shared.now.lines.now in
    let next = c.args.dump + 1 in
    let ts : List (Racer g.row.P.Denot) = c.in_ok-racers.racers.items in
    let us : List (Racer g.row.P.Denot) = c.end_part.new.racers in
    let e : EndedPart = c.in_ok-part.part in
    let value : c.deref_mut.result.now ≡ ts = c.deref_mut.ensures.value in
    let high : All (λ r. r.client.clock ≤ e.clock) ts = subst (All (λ r. r.client.clock ≤ e.clock)) value c.in_ok-part.ensures.highest in
    let closed : AllClosed g.P.Programs.rules e.clock ts us = subst (λ (l : List
    (Racer g.row.P.Denot)). AllClosed g.P.Programs.rules e.clock l us) value c.in_ok-part.ensures.closed in
    let told = c.in_ok-part.ensures.answers
    ∙ ap (λ (l : List (Racer g.row.P.Denot)). flat_map (λ (r : Racer g.row.P.Denot). r.answers.items) l) value in
    let len : length us ≡ c.in_ok-racers.racers.len = zip_length (Closed g.P.Programs.rules e.clock) ts us closed
    ∙ sym c.in_ok-racers.racers.ok.0 in
    let stood = come_on g.P.Programs.rules counts names ls c.args.progress ts us c.args.dump e c.requires.dump c.requires.come
    c.in_ok-racers.ensures.ran
    c.in_ok-racers.ensures.ready high closed told in
    let kept = subst (λ (l : List EndedPart). Stood g.P.Programs.rules counts names (take next ls) (drop next ls) e.clock us l)
    (sym c.in-Ok.ensures.items)
    stood in
    record {
      low = omega arith;
      part = none_yet (IsOfClient (length names)) ls next;
      stood = subst (λ (l : List (Racer g.row.P.Denot)). Stood g.P.Programs.rules counts names (take next ls)
          (drop next ls) e.clock l c.push.new.self.items)
          (sym (with_items_is c.in_ok-racers.racers us len)) kept;
    }

pub run_part-requires-clause-part : goal.run_part-requires-clause-part
run_part-requires-clause-part g c κs within =
    let below = slice_get_within c.args.shared.now.lines.now c.args.dump _ c.requires.dump in
    (c.requires.come.low, omega (arith, below))

pub overflow_add-result : goal.overflow_add-result
overflow_add-result g c =
    let below = slice_get_within c.args.shared.now.lines.now c.args.dump _ c.requires.dump in
    search (rules, below, c.well_formed)
