use Rattle.std.proofs.Common.{ap}
use Rattle.store_rules.specs.Names.{Names}
use Rattle.name_shard.proofs.Limited.{limit_put}
use Rattle.name_shard.proofs.shard.NameShard.bind.Goals as goal

pub invariant_of-self-2 : goal.invariant_of-self-2
invariant_of-self-2 c =
    rw c.in_ok-put.ensures.stored (limit_put c.self.inside.entries c.args.key.now _
    c.self.invariant (rw (ap (λ (s : Names). s.entries) c.self.view_is) c.requires))
