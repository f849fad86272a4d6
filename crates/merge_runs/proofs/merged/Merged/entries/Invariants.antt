use Rattle.std.proofs.Common.{◌≡◌, map, take}
use Rattle.merge_runs.proofs.merged.Merged.entries.Given as goal

abbrev pub invariant-loop-at : goal.invariant-loop-at
invariant-loop-at l = map (λ r. r.now) l.lent.items ≡ take l.at l.self.entries
