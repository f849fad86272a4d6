use Rattle.block_shard.proofs.IndexKept.{index_of_none}
use Rattle.block_shard.proofs.shard.BlockShard.new.Goals as goal

pub invariant_of-result : goal.invariant_of-result
invariant_of-result c = rw (c.new.ensures, c.new-2.ensures) index_of_none
