use Rattle.std.proofs.Common.{◌≡◌, map, ◌++◌, ◌∷◌}
use Rattle.map_words.specs.Pairs.{pair_of}
use Rattle.store_rules.specs.Dumps.{dir_line, entry_line}
use Rattle.name_shard.proofs.shard.NameShard.dump_dir.Given as goal

abbrev pub invariant-loop-key : goal.invariant-loop-key
invariant-loop-key l = l.lines.items ≡ l.fn.lines.items ++ dir_line l.self (l.fn.dir, l.directory) ∷ map entry_line (map pair_of l.yielded)
