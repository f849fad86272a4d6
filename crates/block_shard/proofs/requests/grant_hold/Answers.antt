use Rattle.std.proofs.Common.{None, Some, arith}
use Rattle.block_shard.proofs.SameBlocks.{same_blocks}
use Rattle.block_shard.proofs.requests.grant_hold.Goals as goal

pub returns-in-None-clause-listed : goal.returns-in-None-clause-listed
returns-in-None-clause-listed c = grind (arith, c.get_mut.follows, c.in-None.is, same_blocks c.args.blocks.now c.args.blk None)

pub returns-in-Some-clause-unchanged : goal.returns-in-Some-clause-unchanged
returns-in-Some-clause-unchanged c = grind (
  arith,
  c.get_mut.follows,
  c.in-Some.is,
  c.grant.ensures.err,
  same_blocks c.args.blocks.now c.args.blk (Some c.in-Some.block.now),
)
