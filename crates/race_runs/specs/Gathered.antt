-- One history of all clients' stories, and what it shows.
use Rattle.std.specs.Prelude.{◌≡◌, ℕ, ◌+◌, ◌≤◌, Bool, true, false, Some, List, [], ◌∷◌, ◌++◌, length, map, filter, count_by, slice_get}
use Rattle.std.specs.List.{All, flat_map}
use Rattle.tect_ids.specs.declared.ids.Counts.{Counts}
use Rattle.tect_ids.specs.declared.script.Line.{Line}
use Rattle.tect_ids.specs.declared.script.Line.TheVariants as script_lines
use Rattle.tect_ids.specs.declared.script.ReportLine.{ReportLine}
use Rattle.tect_ids.specs.declared.script.ReportLine.TheVariants as report_lines
use Rattle.tect_ids.specs.Places.{HasPlaces}
use Rattle.store_rules.specs.Dumps.{store_dump}
use Rattle.store_rules.specs.Store.{Store, opening_store}
use Rattle.place_kit.specs.declared.any.AnyKept.{AnyKept}
use Rattle.entry_words.specs.declared.entry.Moment.{Moment}
use Rattle.place_kit.specs.Kept.{history_of, place_of}
use Rattle.entry_words.specs.Moments.{actor_of, is_at, is_of, trail_of}
use Rattle.place_kit.specs.Started.{AreStarted}
use Rattle.world_runs.specs.declared.event.Event.{Event}
use Rattle.program_forms.specs.Kinds.{Programs}
use Rattle.world_runs.specs.Actors.{idle_actor}
use Rattle.world_runs.specs.Moments.{IsWorldRun}
use Rattle.world_runs.specs.Races.{FollowsByClient, concerns, race_report}
use Rattle.world_runs.specs.Events.{events_of}
use Rattle.world_runs.specs.OwnRuns.{stored_after}
use Rattle.world_runs.specs.Limits.{KeepsLimits}
use Rattle.world_runs.specs.Events.{StampsRise}
use Rattle.world_runs.specs.Smooth.{OwnEndsAtOnce}
use Rattle.whole_runs.specs.Woven.{AreSilent, Cut, is_early, woven}
use Rattle.race_runs.specs.Stories.{Part, Story, IsStory, all_moments}

-- the part of each story before the next dump, and the stories from then on
abbrev pub part_of : Story → Part
part_of s = elim s.ended [ [] ↦ s.last | p ∷ ps ↦ p ]

abbrev pub rest_of : Story → Story
rest_of s = record s { ended = elim s.ended [ [] ↦ [] | p ∷ ps ↦ ps ] }

abbrev pub silent_now : List Story → List Event
silent_now = flat_map (λ s. (part_of s).silent)

abbrev pub silent_last : List Story → List Event
silent_last = flat_map (λ s. s.last.silent)

abbrev pub answers_now : List Story → List ReportLine
answers_now = flat_map (λ s. (part_of s).answers)

abbrev pub answers_last : List Story → List ReportLine
answers_last = flat_map (λ s. s.last.answers)

-- where the dumps stand, with the events of the ops that were refused before each
abbrev pub cuts_of : List ℕ → List Story → List Cut
cuts_of [] ss = []
cuts_of (k ∷ ks) ss = record { stamp = k; silent = silent_now ss } ∷ cuts_of ks (map rest_of ss)

abbrev pub history_of_race : List ℕ → List Story → List Moment → List Event
history_of_race clocks ss ms = woven (cuts_of clocks ss) (silent_last ss) ms

-- the store behind the moments that are stamped up to a number
abbrev pub store_at : ℕ → List Moment → Store
store_at k ms = stored_after opening_store (events_of (filter (is_early k) ms))

-- the answers of each part, client by client, and the dump behind it
abbrev pub told : List ℕ → List Story → List Moment → List ReportLine
told [] ss ms = answers_last ss
told (k ∷ ks) ss ms = answers_now ss ++ map report_lines.Dump (store_dump (store_at k ms)) ++ told ks (map rest_of ss) ms

-- a line of one of so many clients, or a dump
abbrev pub IsLineOf : ℕ → Line → Type 0
IsLineOf clients (script_lines.Client client actor act) = (1 ≤ actor) × (actor ≤ clients)
IsLineOf clients script_lines.Dump = Unit {0}
IsLineOf clients (script_lines.Store counts) = ⊥
IsLineOf clients script_lines.Sweep = ⊥
IsLineOf clients (script_lines.Lose disk) = ⊥

abbrev pub is_dump : Line → Bool
is_dump (script_lines.Client client actor act) = false
is_dump script_lines.Dump = true
is_dump (script_lines.Store counts) = false
is_dump script_lines.Sweep = false
is_dump (script_lines.Lose disk) = false

-- These are the stories of all clients, in their order, and one list of all their moments in the order of the stamps; and what each
-- place keeps is what this list says of it.
pub record AreGathered {S : Type 0} (P : Programs S) (counts : Counts) (names : List (List ℕ)) (lines : List Line) (clocks : List ℕ)
    (ss : List Story) (ks : List AnyKept) (ms : List Moment) : Type 0 where
  pub places : HasPlaces counts
  pub asked : All (IsLineOf (length names)) lines
  pub dumps : count_by is_dump lines ≡ length clocks
  pub number : length ss ≡ length names
  pub numbered : (i : ℕ) (s : Story) → slice_get ss i ≡ Some s → s.actor ≡ i + 1
  pub stories : All (IsStory P counts names lines clocks) ss
  pub rising : StampsRise ms
  pub trails : All (λ s. filter (is_of s.actor) ms ≡ all_moments s.ended s.last) ss
  pub known : All (λ m. (1 ≤ actor_of m) × (actor_of m ≤ length ss)) ms
  pub started : AreStarted counts ks
  pub histories : All (λ k. trail_of (filter (is_at (place_of k)) ms) ≡ history_of k) ks

-- Then the history is a run of the world that keeps the limits and follows the script by client, in which each client ends a command at
-- once when its last reply gave the answer, and its report is what is told.
pub record IsRaceRun {S : Type 0} (P : Programs S) (counts : Counts) (names : List (List ℕ)) (lines : List Line)
    (history : List Event) (told : List ReportLine) : Type 0 where
  pub run : IsWorldRun P counts history
  pub limits : KeepsLimits P counts history
  pub prompt : (actor : ℕ) → OwnEndsAtOnce P counts idle_actor (filter (concerns actor) history)
  pub follows : FollowsByClient lines history
  pub report : race_report names history ≡ told

-- and what no moment notes of it is of refused ops
abbrev pub GatheredStoriesAreRun : {S : Type 0} → Programs S → Type 0
GatheredStoriesAreRun P =
    (counts : Counts) (names : List (List ℕ)) (lines : List Line) (clocks : List ℕ) (ss : List Story) (ks : List AnyKept) (ms : List Moment)
    → AreGathered P counts names lines clocks ss ks ms
    → IsRaceRun P counts names lines (history_of_race clocks ss ms) (told clocks ss ms) × AreSilent (cuts_of clocks ss) (silent_last ss)
