-- Why the machines of all places are lost when they are taken out.
use Rattle.std.specs.Prelude.{◌≡◌, ◌≢◌, ◌<◌}
use Rattle.tect_ids.specs.declared.ids.Counts.{Counts}
use Rattle.tect_ids.specs.Places.{place_count}
use Rattle.entry_words.specs.Labels.{label_at}
use Rattle.entry_words.specs.declared.entry.Refused.{Refused}
use Rattle.entry_words.specs.declared.entry.Refused.TheVariants.{NoMemory, HistoryFull, Astray}

-- for want of memory, or since another machine was found at one of the places
abbrev pub IsLoss : Counts → Refused → Type 0
IsLoss c NoMemory = Unit {0}
IsLoss c (HistoryFull place) = ⊥
IsLoss c (Astray want found) = (want.place.0 < place_count c) × (want ≡ label_at c want.place.0) × (found ≢ want)
