use Rattle.std.proofs.Common.{None, arith}
use Rattle.block_shard.proofs.SameBlocks.{same_blocks}
use Rattle.block_shard.proofs.requests.seal.Goals as goal

pub returns-in_default : goal.returns-in_default
returns-in_default c = grind (arith, c.get_mut.follows, c.in_default.is, same_blocks c.args.blocks.now c.args.blk None)
