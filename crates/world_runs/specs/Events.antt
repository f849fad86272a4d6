-- The events that an actor's own moments are.
use Rattle.std.specs.Prelude.{◌≡◌, ℕ, ◌≤◌, List, [], ◌∷◌, map, filter}
use Rattle.std.specs.List.{All}
use Rattle.tect_ids.specs.declared.ids.Counts.{Counts}
use Rattle.tect_ids.specs.declared.ids.OpId.{OpId}
use Rattle.tect_ids.specs.declared.answer.Answer.{Answer}
use Rattle.tect_ids.specs.declared.answer.Answer.TheVariants as answers
use Rattle.entry_words.specs.declared.entry.Moment.{Moment}
use Rattle.entry_words.specs.declared.entry.Moment.TheVariants.{Act, Local}
use Rattle.entry_words.specs.declared.entry.Note.TheVariants as notes
use Rattle.entry_words.specs.Moments.{stamp_of}
use Rattle.store_rules.specs.Places.{request_place}
use Rattle.world_runs.specs.declared.event.Event.{Event}
use Rattle.world_runs.specs.declared.event.Event.TheVariants.{Own}
use Rattle.world_runs.specs.declared.event.Happening.TheVariants.{Began, Acted, Ended, Stopped, Failed}
use Rattle.world_runs.specs.Races.{is_own}

-- an end for want of memory or room is a failure
abbrev pub end_event : OpId → Answer → Event
end_event op answers.NoMemory = Own op (Failed answers.NoMemory)
end_event op (answers.HistoryFull p) = Own op (Failed (answers.HistoryFull p))
end_event op a = Own op (Ended a)

abbrev pub event_of : Moment → Event
event_of (Act e h) = Own (record { actor = e.actor; number = e.number }) (Acted e.req e.reply h)
event_of (Local stamp actor (notes.Began op c)) = Own op (Began c)
event_of (Local stamp actor (notes.Ended op a)) = end_event op a
event_of (Local stamp actor (notes.Stopped op)) = Own op Stopped

abbrev pub events_of : List Moment → List Event
events_of = map event_of

-- the events of one actor
abbrev pub own : ℕ → List Event → List Event
own actor = filter (is_own actor)

-- each transaction is at the place of its request
abbrev pub IsPlaced : Counts → Moment → Type 0
IsPlaced counts (Act e h) = e.place ≡ request_place counts e.req
IsPlaced counts (Local stamp actor note) = Unit {0}

-- each note is of an op of its actor
abbrev pub IsOwnNote : Moment → Type 0
IsOwnNote (Act e h) = Unit {0}
IsOwnNote (Local stamp actor (notes.Began op c)) = op.actor ≡ actor
IsOwnNote (Local stamp actor (notes.Ended op a)) = op.actor ≡ actor
IsOwnNote (Local stamp actor (notes.Stopped op)) = op.actor ≡ actor

-- the stamps do not fall
abbrev pub StampsRise : List Moment → Type 0
StampsRise [] = Unit {0}
StampsRise (m ∷ ms) = All (λ n. stamp_of m ≤ stamp_of n) ms × StampsRise ms
