use Rattle.std.proofs.Common.{◌≡◌}
use Rattle.std.specs.Fn.{FnReturnsAt}
use Rattle.sorted_vec.proofs.Changed.{changed, keys}
use Rattle.sorted_vec.proofs.sorted.SortedVec.map_values.Given as goal

abbrev pub invariant-loop-pair : goal.invariant-loop-pair
invariant-loop-pair g l =
    goal.F-IsAlwaysCallable g l.make
    × (keys l.pair-items ≡ keys l.initial.pair-items)
    × ((f : g.row.V.Denot → g.row.V.Denot) → ((v w : g.row.V.Denot) → FnReturnsAt g.F.Fn l.make v w → w ≡ f v)
    → l.pair-items ≡ changed f l.pair-index l.initial.pair-items)
