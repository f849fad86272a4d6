-- The clients of a race before its lines.
use Rattle.std.specs.Prelude.{◌≡◌, ℕ, ◌+◌, ◌<◌, ◌^◌, List, [], length, Some, slice_get}
use Rattle.std.specs.List.{All}
use Rattle.tect_ids.specs.declared.ids.Counts.{Counts}
use Rattle.tect_ids.specs.declared.script.Line.{Line}
use Rattle.program_forms.specs.Kinds.{Programs}
use Rattle.whole_runs.specs.ClientStates.{FitStates}
use Rattle.clients.specs.Lives.{idle_life}
use Rattle.race_runs.specs.Gathered.{IsLineOf}
use Rattle.racers.specs.declared.racer.Racer.{Racer}

pub record AreNew {S : Type 0} (counts : Counts) (clients : ℕ) (rs : List (Racer S)) : Type 0 where
  pub count : length rs ≡ clients
  pub lives : (i : ℕ) (r : Racer S) → slice_get rs i ≡ Some r → r.client ≡ idle_life (i + 1) counts
  pub answers : (i : ℕ) (r : Racer S) → slice_get rs i ≡ Some r → r.answers.items ≡ []

-- lines that are in turn, each a dump's or one of so many clients'
pub record IsScript {S : Type 0} (P : Programs S) (clients : ℕ) (ls : List Line) : Type 0 where
  pub in_turn : FitStates P ls
  pub few : length ls < 2 ^ 31
  pub asked : All (IsLineOf clients) ls
