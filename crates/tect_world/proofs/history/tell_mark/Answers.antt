use Rattle.std.proofs.Common.{◌∷◌, ◌++◌, Bor, map, ap, sym, ◌∙◌, subst}
use Rattle.world_lives.specs.declared.marks.Mark.{Mark}
use Rattle.entry_words.specs.declared.entry.Moment.{Moment}
use Rattle.world_lives.specs.Order.{moments_in_order}
use Rattle.tect_world.specs.Telling.{left_by, IsMarkOf}
use Rattle.tect_world.proofs.Histories.{mark_step, on_both}
use Rattle.tect_world.proofs.history.tell_mark.Goals as goal

pub returns-in-Actor-clause-told : goal.returns-in-Actor-clause-told
returns-in-Actor-clause-told g c = λ k ms.
    let ls = c.args.clients.now in
    let a = c.in-Actor.actor in
    let own = subst (IsMarkOf _) c.in-Actor.is c.requires.mark in
    on_both c.tell_next.result c.tell_next.ensures.told c.tell_next.ensures.left
    (λ first later.
    mark_step k ls c.args.counts.now.items a own.0 own.1 c.requires.counts c.index-clients-actor.result c.index-clients-actor.is
    c.index_mut.result.now c.tell_next.new.count c.index_mut.ensures.value ms _ _ first later
    ∙ ap (λ (m : Mark). map (λ (x : Bor Moment). x.now) c.args.told.now.items ++ moments_in_order (m ∷ ms)
    (left_by k ls c.args.counts.now.items)) (sym c.in-Actor.is))
