use Rattle.std.proofs.Common.{◌∙◌, ap, refl, ◌++◌, ◌∷◌, []}
use Rattle.tect_ids.specs.declared.ids.OpId.{OpId}
use Rattle.world_runs.specs.declared.event.Event.TheVariants.{Own}
use Rattle.world_runs.specs.declared.event.Happening.TheVariants.{Ended}
use Rattle.program_forms.specs.Lacks.{no_room}
use Rattle.clients.specs.ClientInside.{told_actor}
use Rattle.clients.proofs.Begins.{refused_end}
use Rattle.clients.proofs.Closings.{runs_here, some_here}
use Rattle.clients.proofs.Stands.{stands_op}
use Rattle.clients.proofs.client.Client.end_refused.Goals as goal

pub invariant_of-self : goal.invariant_of-self
invariant_of-self g c =
    let P = g.P.Programs.rules in
    let a = c.self.inside in
    refused_end P a
    (record { counts = a.counts; actor = c.end.new.self; pass = a.pass; refused = c.push_event.new.events; transactions = a.transactions })
    c.self.invariant refl refl (runs_here P a c.args.self.now c.self.invariant c.self.view_is c.requires.running)
    (some_here P a c.args.self.now c.self.invariant c.self.view_is c.requires.refused) refl
    c.end.ensures (c.push_event.ensures.items ∙ ap (λ (o : OpId). a.refused.items ++ Own o (Ended no_room) ∷ [])
    (c.op-op.ensures.op ∙ stands_op P (told_actor P a) a.actor c.self.invariant.stands))
