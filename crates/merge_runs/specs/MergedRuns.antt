-- One history, of which each moment is told by where it stands.
use Rattle.std.specs.Prelude.{ℕ, ◌<◌, List, [], length, map, slice_index_or, IsPermutation}
use Rattle.std.specs.List.{All, flat_map}
use Rattle.place_kit.specs.declared.any.AnyKept.{AnyKept}
use Rattle.entry_words.specs.declared.entry.Moment.{Moment}
use Rattle.entry_words.specs.declared.entry.Moment.TheVariants.{Local}
use Rattle.entry_words.specs.declared.entry.Note.TheVariants.{Stopped}
use Rattle.passes.specs.declared.pass.Pass.{Pass}
use Rattle.merge_runs.specs.declared.spot.Spot.{Spot}
use Rattle.merge_runs.specs.Merged.{Agree, IsInOrder, IsStored, moments_of, trails as all_trails, RestrictsToHistories, RestrictsToTrails}

-- what contracts see: the places and the passes, and the one list of all moments
pub record MergedRuns : Type 0 where
  pub places : List AnyKept
  pub passes : List Pass
  pub entries : List Moment

-- stands in where no moment does
abbrev pub no_moment : Moment
no_moment = Local 0 0 (Stopped (record { actor = 0; number = 0 }))

abbrev pub moments_at : List Pass → ℕ → List Moment
moments_at ps n = slice_index_or (map moments_of ps) n []

abbrev pub moment_at : List Pass → Spot → Moment
moment_at ps at = slice_index_or (moments_at ps at.pass) at.moment no_moment

-- a moment stands there
abbrev pub IsSpot : List Pass → Spot → Type 0
IsSpot ps at = (at.pass < length ps) × (at.moment < length (moments_at ps at.pass))

-- The moments are those of the passes, in order; those of each actor are its pass, and the transactions of each place its history.
pub record IsOneHistory (ks : List AnyKept) (ps : List Pass) (ms : List Moment) : Type 0 where
  pub agree : Agree ks ps
  pub whole : IsPermutation (flat_map moments_of ps) ms
  pub order : IsInOrder ms
  pub trails : RestrictsToTrails ps ms
  pub histories : RestrictsToHistories ks ms
  pub stored : All (IsStored ks) (all_trails ps)
