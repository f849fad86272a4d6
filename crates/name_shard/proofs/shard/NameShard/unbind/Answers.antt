use Rattle.name_shard.proofs.Limited.{limit_taken}
use Rattle.name_shard.proofs.shard.NameShard.unbind.Goals as goal

pub invariant_of-self : goal.invariant_of-self
invariant_of-self c = rw c.take.ensures.others (limit_taken c.self.inside.entries c.args.key.now c.self.invariant)
