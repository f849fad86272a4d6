use Rattle.std.proofs.Common.{◌≡◌, map, take}
use Rattle.merge_runs.specs.Keyed.{moment_in}
use Rattle.merge_runs.proofs.sorted.moments.Given as goal

abbrev pub invariant-loop-k : goal.invariant-loop-k
invariant-loop-k l = map (λ m. m.now) l.moments.items ≡ map moment_in (take l.k-index l.keyed)
