-- One list of all that the passes keep.
use Rattle.std.specs.Prelude.{◌≡◌, ℕ, true, List, [], ◌∷◌, ◌++◌, ◌⊎◌, filter, length}
use Rattle.std.specs.List.{All}
use Rattle.entry_words.specs.declared.entry.Moment.{Moment}
use Rattle.entry_words.specs.Moments.{is_of, rises, steps_count, trail_of}
use Rattle.world_runs.specs.declared.event.Event.{Event}
use Rattle.world_runs.specs.declared.event.Event.TheVariants.{Dumped}
use Rattle.world_runs.specs.Events.{event_of, IsOwnNote, IsPlaced}
use Rattle.world_runs.specs.Refusals.{IsOfRefused}
use Rattle.world_lives.specs.Life.{Life}

-- no moment notes it: a dump, or an event of an op that was refused, as those before tell
abbrev pub IsUnnoted : List Event → Event → Type 0
IsUnnoted before e = IsOfRefused before e ⊎ (e ≡ Dumped)

-- Of events that come after those before: the noted ones are these moments, in their order.
abbrev pub NotesAfter : List Event → List Event → List Moment → Type 0
NotesAfter before [] [] = Unit {0}
NotesAfter before [] (m ∷ ms) = ⊥
NotesAfter before (e ∷ es) [] = IsUnnoted before e × NotesAfter (before ++ e ∷ []) es []
NotesAfter before (e ∷ es) (m ∷ ms) =
    (IsUnnoted before e × NotesAfter (before ++ e ∷ []) es (m ∷ ms)) ⊎ ((e ≡ event_of m) × NotesAfter (before ++ e ∷ []) es ms)

-- The noted events of the history are these moments, in their order.
abbrev pub Notes : List Event → List Moment → Type 0
Notes es ms = NotesAfter [] es ms

-- The steps of the transactions among them count up from 0.
abbrev pub StepsCountUp : List Moment → Type 0
StepsCountUp ms = steps_count 0 (length (trail_of ms)) (trail_of ms) ≡ true

-- These are all moments of all actors: in their order they are the noted events of the history, and each is stamped later than
-- those before it. Each transaction is at the place of its request, each note is of an op of its actor, and the steps of each
-- actor's transactions count up from 0.
pub record IsTold (w : Life) (ms : List Moment) : Type 0 where
  pub told : Notes w.history ms
  pub placed : All (IsPlaced w.counts) ms
  pub noted : All IsOwnNote ms
  pub steps : (actor : ℕ) → StepsCountUp (filter (is_of actor) ms)
  pub last : ℕ
  pub rising : rises 0 last ms ≡ true
