-- What the places keep makes the replies of the whole store.
use Rattle.std.specs.Prelude.{◌≡◌, List, filter}
use Rattle.std.specs.List.{All}
use Rattle.tect_ids.specs.declared.ids.Counts.{Counts}
use Rattle.tect_ids.specs.Places.{HasPlaces}
use Rattle.store_rules.specs.Store.{opening_store}
use Rattle.place_kit.specs.declared.any.AnyKept.{AnyKept}
use Rattle.entry_words.specs.declared.entry.Moment.{Moment}
use Rattle.place_kit.specs.Kept.{history_of, place_of}
use Rattle.entry_words.specs.Moments.{is_at, trail_of}
use Rattle.place_kit.specs.Started.{AreStarted}
use Rattle.world_runs.specs.Events.{IsPlaced, events_of}
use Rattle.world_runs.specs.OwnRuns.{RepliesAre}

-- at each place the entries of the moments are the history that is kept there
abbrev pub PlacesReply : Type 0
PlacesReply =
    (counts : Counts) (ks : List AnyKept) (ms : List Moment) → HasPlaces counts → AreStarted counts ks
    → All (λ k. trail_of (filter (is_at (place_of k)) ms) ≡ history_of k) ks → All (IsPlaced counts) ms
    → RepliesAre opening_store (events_of ms)
