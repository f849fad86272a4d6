use Rattle.std.proofs.Common.{◌≡◌, map}
use Rattle.map_words.specs.Pairs.{pair_of}
use Rattle.store_rules.specs.Names.{listed}
use Rattle.name_shard.proofs.shard.NameShard.listed.Given as goal

abbrev pub invariant-loop-key : goal.invariant-loop-key
invariant-loop-key l = l.items.items ≡ map listed (map pair_of l.yielded)
