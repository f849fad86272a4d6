use Rattle.std.proofs.Common.{◌≡◌, ◌∙◌, ◌<◌, ap, refl, arith, List, ◌++◌, ◌∷◌, []}
use Rattle.std.specs.Prelude.{vec_len, vec_capacity}
use Rattle.tect_ids.specs.declared.ids.OpId.{OpId}
use Rattle.world_runs.specs.declared.event.Event.{Event}
use Rattle.world_runs.specs.declared.event.Event.TheVariants.{Own}
use Rattle.world_runs.specs.declared.event.Happening.TheVariants.{NotBegun}
use Rattle.clients.specs.ActorState.{next_op_of, op_of}
use Rattle.clients.specs.ClientInside.{told_actor}
use Rattle.clients.proofs.Begins.{refused_client}
use Rattle.clients.proofs.Closings.{idle_here, goes_here, few_here, full_here, actor_idle}
use Rattle.clients.proofs.Reserved.{reserved_refused}
use Rattle.clients.proofs.client.Client.refuse.Goals as goal

pub invariant_of-self : goal.invariant_of-self
invariant_of-self g c =
    let a = c.self.inside in
    reserved_refused g.P.Programs.rules a c.self.invariant
    (record { counts = a.counts; actor = a.actor; pass = a.pass; refused = c.reserve.new.self; transactions = a.transactions })
    c.in_err-reserve.ensures.items c.in_err-reserve.ensures.len (omega (arith, c.in_err-reserve.ensures.capacity))

pub invariant_of-self-2 : goal.invariant_of-self-2
invariant_of-self-2 g c =
    let P = g.P.Programs.rules in
    let a = c.self.inside in
    let l = c.args.self.now in
    let here = actor_idle P a l c.self.invariant c.self.view_is c.requires.idle c.requires.goes_on in
    let items : c.push_event.new.events.items ≡ a.refused.items ++ Own (next_op_of (told_actor P a)) (NotBegun c.args.command) ∷ [] =
    c.push_event.ensures.items ∙ ap (λ (es : List Event). es ++ Own c.op-op.result (NotBegun c.args.command) ∷ [])
    c.in_ok-reserve.ensures.items
    ∙ ap (λ (o : OpId). a.refused.items ++ Own o (NotBegun c.args.command) ∷ [])
    (c.op-op.ensures.op ∙ ap op_of c.begin_refused.ensures ∙ ap next_op_of here) in
    let space : vec_len c.push_event.new.events < vec_capacity c.push_event.new.events = omega (
      arith,
      c.in_ok-reserve.ensures.ok,
      c.in_ok-reserve.ensures.capacity,
      c.in_ok-reserve.ensures.len,
      c.push_event.ensures.len,
      c.push_event.ensures.room,
    ) in
    refused_client P a
    (record { counts = a.counts; actor = c.begin_refused.new.self; pass = a.pass; refused = c.push_event.new.events; transactions = 0 })
    c.self.invariant refl refl c.args.command (idle_here P a l c.self.invariant c.self.view_is c.requires.idle)
    (goes_here P a l c.self.invariant c.self.view_is c.requires.goes_on)
    (few_here P a l c.self.invariant c.self.view_is c.requires.few) c.requires.served
    (full_here P a l c.self.invariant c.self.view_is c.requires.full)
    c.begin_refused.ensures items refl space
