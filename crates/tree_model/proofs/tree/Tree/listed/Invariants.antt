use Rattle.std.proofs.Common.{◌≡◌, ◌++◌, map}
use Rattle.std.specs.FinMap.{entries}
use Rattle.key_words.specs.Maps.{within}
use Rattle.tree_model.specs.Tree.{as_listed}
use Rattle.tree_model.proofs.tree.Tree.listed.Given as goal

-- what is listed so far, followed by what is left
abbrev pub invariant-loop-key : goal.invariant-loop-key
invariant-loop-key l = l.items.items ++ map as_listed l.key-iterator ≡ map as_listed (entries (within l.self.entries l.fn.dir))
