-- The kept machines of a store, in order, each with the label that it was started with. So the kind of each follows from its place.
use Rattle.std.specs.Prelude.{◌≡◌, ℕ, Some, List, length, slice_get}
use Rattle.tect_ids.specs.declared.ids.Counts.{Counts}
use Rattle.tect_ids.specs.Places.{place_count}
use Rattle.place_kit.specs.declared.any.AnyKept.{AnyKept}
use Rattle.entry_words.specs.Labels.{label_at}
use Rattle.place_kit.specs.Kept.{label_of}

-- these stand at the first places
pub record StandFirst (c : Counts) (count : ℕ) (ks : List AnyKept) : Type 0 where
  pub number : length ks ≡ count
  pub labels : (n : ℕ) (k : AnyKept) → slice_get ks n ≡ Some k → label_of k ≡ label_at c n

-- these stand at all places
abbrev pub AreStarted : Counts → List AnyKept → Type 0
AreStarted c ks = StandFirst c (place_count c) ks
