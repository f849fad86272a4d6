use Rattle.std.proofs.Common.{◌≡◌, map}
use Rattle.map_words.specs.Pairs.{pair_of}
use Rattle.store_rules.specs.Dumps.{file_line}
use Rattle.file_shard.proofs.shard.FileShard.dump.Given as goal

abbrev pub invariant-loop-file : goal.invariant-loop-file
invariant-loop-file l = l.lines.items ≡ map file_line (map pair_of l.yielded)
