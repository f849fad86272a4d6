use Rattle.std.proofs.Common.{◌≡◌, map, take}
use Rattle.tree_model.specs.Tree.{block_part}
use Rattle.tree_model.proofs.files.block_parts.Given as goal

abbrev pub invariant-loop-block : goal.invariant-loop-block
invariant-loop-block l = l.parts.items ≡ map block_part (take l.block-index l.blocks)
