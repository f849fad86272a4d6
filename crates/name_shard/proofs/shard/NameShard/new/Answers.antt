use Rattle.std.proofs.Common.{arith}
use Rattle.store_rules.specs.declared.names.DirectoryEntry.{DirectoryEntry}
use Rattle.key_words.proofs.Counts.{len-within_empty}
use Rattle.name_shard.proofs.shard.NameShard.new.Goals as goal

pub invariant_of-result : goal.invariant_of-result
invariant_of-result c = record { count = λ d. grind (arith, c.new-2.ensures, len-within_empty DirectoryEntry d) }
