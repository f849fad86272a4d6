use Rattle.std.proofs.Common.{None}
use Rattle.block_shard.proofs.IndexKept.{index_held}
use Rattle.block_shard.proofs.shard.BlockShard.release.Goals as goal

pub invariant_of-self : goal.invariant_of-self
invariant_of-self c = rw c.release_hold.ensures (index_held c.self.inside.index c.self.inside.blocks c.args.blk c.self.invariant c.args.hold None)
