use Rattle.std.proofs.Common.{◌≡◌, ap, ◌∙◌, subst}
use Rattle.std.specs.Prelude.{IfOk}
use Rattle.store_rules.specs.declared.any.AnyReply.{AnyReply}
use Rattle.store_rules.specs.Store.{store_reply}
use Rattle.all_shards.specs.Whole.{WholeStore}
use Rattle.all_shards.proofs.Stepped.{layer_is, reply_is}
use Rattle.all_shards.proofs.shards.Shards.reply.Goals as goal

pub reply-requires : goal.reply-requires
reply-requires c = layer_is c.self.inside.counts c.self.inside.machines.items c.self.invariant c.place-place.result c.args.req.now
    c.place-place.ensures c.index-machine.result.now c.index-machine.ensures

pub returns : goal.returns
returns c =
    subst (λ (x : AnyReply). IfOk c.reply.result (λ reply. reply ≡ x))
    (reply_is c.self.inside.counts c.self.inside.machines.items c.self.invariant c.place-place.result c.args.req.now c.place-place.ensures
    c.index-machine.result.now c.index-machine.ensures
    ∙ ap (λ (w : WholeStore). store_reply w.store c.args.req.now) c.self.view_is)
    c.reply.ensures
