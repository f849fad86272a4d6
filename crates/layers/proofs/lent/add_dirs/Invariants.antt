use Rattle.std.proofs.Common.{◌≡◌, ◌++◌, map, take}
use Rattle.layers.proofs.lent.add_dirs.Given as goal

abbrev pub invariant-loop-dir : goal.invariant-loop-dir
invariant-loop-dir l = l.ids.items ≡ l.fn.ids.items ++ map (λ x. x.0) (take l.dir-index l.dir-items)
