use Rattle.block_shard.proofs.IndexKept.{index_sealed}
use Rattle.block_shard.proofs.shard.BlockShard.seal_block.Goals as goal

pub invariant_of-self : goal.invariant_of-self
invariant_of-self c = rw c.seal.ensures (index_sealed c.self.inside.index c.self.inside.blocks c.args.blk c.self.invariant)
