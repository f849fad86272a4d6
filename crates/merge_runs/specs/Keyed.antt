-- Moments with the numbers by which they are sorted.
use Rattle.std.specs.Prelude.{◌≡◌, ℕ, List}
use Rattle.entry_words.specs.declared.entry.Moment.{Moment}
use Rattle.entry_words.specs.Moments.{stamp_of, place_of_moment, actor_of}
use Rattle.passes.specs.declared.pass.Pass.{Pass}
use Rattle.merge_runs.specs.declared.keyed.Keyed.{Keyed}
use Rattle.merge_runs.specs.MergedRuns.{moment_at, IsSpot}

abbrev pub moment_in : Keyed → Moment
moment_in k = k.moment.now

abbrev pub key_in : Keyed → ℕ × ℕ × ℕ
key_in k = (stamp_of k.moment.now, place_of_moment k.moment.now, actor_of k.moment.now)

-- it stands where it says
abbrev pub IsAt : List Pass → Keyed → Type 0
IsAt ps k = IsSpot ps k.at × (moment_at ps k.at ≡ k.moment.now)
