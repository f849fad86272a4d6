use Rattle.std.proofs.Common.{◌≡◌, ◌++◌, map, take}
use Rattle.layers.proofs.lent.add_files.Given as goal

abbrev pub invariant-loop-file : goal.invariant-loop-file
invariant-loop-file l = l.ids.items ≡ l.fn.ids.items ++ map (λ x. x.0) (take l.file-index l.file-items)
