use Rattle.std.proofs.Common.{◌≡◌, ◌++◌, map, take}
use Rattle.layers.proofs.lent.add_blocks.Given as goal

abbrev pub invariant-loop-blk : goal.invariant-loop-blk
invariant-loop-blk l = l.ids.items ≡ l.fn.ids.items ++ map (λ x. x.0) (take l.blk-index l.blk-items)
