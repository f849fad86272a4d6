use Rattle.std.proofs.Common.{◌≡◌, map}
use Rattle.map_words.specs.Pairs.{pair_of}
use Rattle.block_shard.proofs.shard.BlockShard.blocks.Given as goal

abbrev pub invariant-loop-blk : goal.invariant-loop-blk
invariant-loop-blk l = l.blocks.items ≡ map (λ x. x.0) (map pair_of l.yielded)
