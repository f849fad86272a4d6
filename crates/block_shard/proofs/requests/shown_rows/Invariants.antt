use Rattle.std.proofs.Common.{◌≡◌, map}
use Rattle.map_words.specs.Pairs.{pair_of}
use Rattle.store_rules.specs.Blocks.{shown_row}
use Rattle.block_shard.proofs.requests.shown_rows.Given as goal

abbrev pub invariant-loop-disk : goal.invariant-loop-disk
invariant-loop-disk l = l.items.items ≡ map shown_row (map pair_of l.yielded)
