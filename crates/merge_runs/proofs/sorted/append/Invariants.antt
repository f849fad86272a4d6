use Rattle.std.proofs.Common.{◌≡◌, ◌++◌, map, take}
use Rattle.std.specs.List.{All}
use Rattle.merge_runs.specs.Keyed.{moment_in, IsAt}
use Rattle.merge_runs.specs.MergedRuns.{moments_at}
use Rattle.merge_runs.proofs.sorted.append.Given as goal

abbrev pub invariant-loop-moment : goal.invariant-loop-moment
invariant-loop-moment l = record {
  moments : map moment_in l.all.items ≡ map moment_in l.initial.all.items ++ take l.moment (moments_at l.passes l.pass);
  spots : All (IsAt l.passes) l.all.items;
}
