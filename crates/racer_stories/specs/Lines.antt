-- What a racer does in lines of the script.
use Rattle.std.specs.Prelude.{◌≡◌, ◌≢◌, ℕ, ◌⊎◌, List, filter}
use Rattle.std.specs.List.{AllZip}
use Rattle.tect_ids.specs.declared.script.Line.{Line}
use Rattle.tect_ids.specs.declared.script.Line.TheVariants as lines
use Rattle.program_forms.specs.Kinds.{Programs}
use Rattle.entry_words.specs.declared.entry.Moment.{Moment}
use Rattle.world_runs.specs.declared.event.Event.{Event}
use Rattle.world_runs.specs.Races.{line_concerns}
use Rattle.whole_runs.specs.ClientLines.{DoesLines}
use Rattle.racers.specs.declared.racer.Racer.{Racer}
use Rattle.racers.specs.Lives.{busy_in, news_events}
use Rattle.racers.specs.Lines.{Adds, Plays}

-- It did its lines among these.
pub record Ran {S : Type 0} (P : Programs S) (names : List (List ℕ)) (ls : List Line) (old new : Racer S) : Type 0 where
  pub news : List Moment
  pub more : List Event
  pub adds : Adds P names old new news more
  pub does : DoesLines old.client.actor (busy_in P old.client) (filter (line_concerns old.client.actor) ls) (news_events news more)
      (busy_in P new.client)

-- all racers
abbrev pub RacersRan : {S : Type 0} → Programs S → List (List ℕ) → List Line → List (Racer S) → List (Racer S) → Type 0
RacersRan P names ls = AllZip (Ran P names ls)

-- It did the line if that is its own, and else nothing.
abbrev pub PlaysOrRests : {S : Type 0} → Programs S → List (List ℕ) → Line → Racer S → Racer S → Type 0
PlaysOrRests P names (lines.Client client actor act) old new =
    ((actor ≢ old.client.actor) × (new ≡ old)) ⊎ ((actor ≡ old.client.actor) × Plays P names act old new)
PlaysOrRests P names line old new = ⊥
