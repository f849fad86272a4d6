use Rattle.std.proofs.Common.{◌≡◌, ap, ◌∙◌, subst}
use Rattle.std.specs.Prelude.{IfOk}
use Rattle.store_rules.specs.declared.any.AnyReply.{AnyReply}
use Rattle.store_rules.specs.Store.{store_reply, store_step}
use Rattle.all_shards.specs.Whole.{WholeStore}
use Rattle.all_shards.proofs.Lent.{on_ok}
use Rattle.all_shards.proofs.Stepped.{done, keeps, layer_is, reply_is}
use Rattle.all_shards.proofs.shards.Shards.do_request.Goals as goal

pub step-requires : goal.step-requires
step-requires c = layer_is c.self.inside.counts c.self.inside.machines.items c.self.invariant c.place-place.result c.args.req.now
    c.place-place.ensures c.index_mut-machine.result.now c.index_mut-machine.ensures.value

pub invariant_of-self : goal.invariant_of-self
invariant_of-self c = keeps c.self.inside.counts c.self.inside.machines.items c.self.invariant c.place-place.result c.args.req.now
    c.place-place.ensures c.index_mut-machine.result.now c.index_mut-machine.ensures.value c.step.new.self c.step.result
    c.step.ensures.steps c.step.ensures.layer c.step.ensures.err

pub returns-clause-reply : goal.returns-clause-reply
returns-clause-reply c =
    subst (λ (x : AnyReply). IfOk c.step.result (λ reply. reply ≡ x))
    (reply_is c.self.inside.counts c.self.inside.machines.items c.self.invariant c.place-place.result c.args.req.now c.place-place.ensures
    c.index_mut-machine.result.now c.index_mut-machine.ensures.value
    ∙ ap (λ (w : WholeStore). store_reply w.store c.args.req.now) c.self.view_is)
    c.step.ensures.answers

pub returns-clause-ok : goal.returns-clause-ok
returns-clause-ok c = on_ok c.step.result c.step.ensures.steps (λ step.
    let all = done c.self.inside.counts c.self.inside.machines.items c.self.invariant c.place-place.result c.args.req.now
    c.place-place.ensures c.index_mut-machine.result.now c.index_mut-machine.ensures.value c.step.new.self step in
    (λ i. record { counts = c.self.inside.counts; store = all i }) ∙ ap
    (λ (w : WholeStore). let x : WholeStore = record w { store = store_step w.store c.args.req.now } in x) c.self.view_is)
