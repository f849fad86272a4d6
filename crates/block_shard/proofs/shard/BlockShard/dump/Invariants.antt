use Rattle.std.proofs.Common.{◌≡◌, map}
use Rattle.map_words.specs.Pairs.{pair_of}
use Rattle.store_rules.specs.Dumps.{block_line}
use Rattle.block_shard.proofs.shard.BlockShard.dump.Given as goal

abbrev pub invariant-loop-blk : goal.invariant-loop-blk
invariant-loop-blk l = l.lines.items ≡ map block_line (map pair_of l.yielded)
