use Rattle.std.proofs.Common.{◌≡◌, ◌++◌, map, take}
use Rattle.layers.proofs.lent.add_disks.Given as goal

abbrev pub invariant-loop-one : goal.invariant-loop-one
invariant-loop-one l = l.ids.items ≡ l.fn.ids.items ++ map (λ x. x.0) (take l.one-index l.one-items)
