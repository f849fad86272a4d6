use Rattle.std.proofs.Common.{Some}
use Rattle.tect_ids.specs.declared.key.Upper.TheVariants.{Row}
use Rattle.block_shard.proofs.IndexKept.{index_granted}
use Rattle.block_shard.proofs.shard.BlockShard.grant.Goals as goal

pub invariant_of-self : goal.invariant_of-self
invariant_of-self c =
    index_granted c.self.inside.index c.self.inside.blocks c.args.blk c.self.invariant c.args.hold (Some (Row c.args.file)) c.grant_hold.result
    c.grant_hold.new.blocks c.grant_hold.ensures.listed c.grant_hold.ensures.unchanged
