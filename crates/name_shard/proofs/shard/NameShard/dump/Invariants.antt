use Rattle.std.proofs.Common.{◌≡◌, map}
use Rattle.std.specs.List.{flat_map}
use Rattle.map_words.specs.Pairs.{pair_of}
use Rattle.store_rules.specs.Dumps.{dir_lines}
use Rattle.name_shard.proofs.shard.NameShard.dump.Given as goal

abbrev pub invariant-loop-dir : goal.invariant-loop-dir
invariant-loop-dir l = l.lines.items ≡ flat_map (dir_lines l.self) (map pair_of l.yielded)
