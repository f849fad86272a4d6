use Rattle.std.proofs.Common.{rules}
use Rattle.tect_ids.specs.Keys.{node_eq, dir_eq, file_eq}
use Rattle.name_shard.proofs.bindings.is_node.Goals as goal

pub returns : goal.returns
unfolding node_eq dir_eq file_eq
returns c = search rules
