use Rattle.std.proofs.Common.{◌≡◌, map, take}
use Rattle.std.specs.List.{All, flat_map}
use Rattle.merge_runs.specs.Keyed.{moment_in, IsAt}
use Rattle.merge_runs.specs.Merged.{moments_of}
use Rattle.merge_runs.proofs.sorted.keyed_moments.Given as goal

abbrev pub invariant-loop-pass : goal.invariant-loop-pass
invariant-loop-pass l = record {
  moments : map moment_in l.all.items ≡ flat_map moments_of (take l.pass l.passes);
  spots : All (IsAt l.passes) l.all.items;
}
