use Rattle.std.proofs.Common.{◌≡◌, map}
use Rattle.map_words.specs.Pairs.{pair_of}
use Rattle.store_rules.specs.Dumps.{chunk_line}
use Rattle.disk_store.proofs.shard.Disk.dump.Given as goal

abbrev pub invariant-loop-chunk : goal.invariant-loop-chunk
invariant-loop-chunk l = l.lines.items ≡ map chunk_line (map pair_of l.yielded)
