use Rattle.std.specs.List.{AllWithin}
use Rattle.merge_runs.proofs.Trails.{IsNotAt}
use Rattle.merge_runs.proofs.split.entry_at.Given as goal

abbrev pub invariant-loop-moment : goal.invariant-loop-moment
invariant-loop-moment l = AllWithin (IsNotAt l.step) l.pass.moments.items 0 l.moment-index
