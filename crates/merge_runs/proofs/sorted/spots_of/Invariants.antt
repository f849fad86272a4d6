use Rattle.std.proofs.Common.{◌≡◌, map, take}
use Rattle.merge_runs.proofs.sorted.spots_of.Given as goal

abbrev pub invariant-loop-k : goal.invariant-loop-k
invariant-loop-k l = l.spots.items ≡ map (λ k. k.at) (take l.k-index l.keyed)
