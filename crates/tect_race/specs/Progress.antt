-- How far a race has come in its script.
use Rattle.std.specs.Prelude.{◌≡◌, ℕ, ◌≤◌, List, length, map, take, drop, count_by, slice_range}
use Rattle.std.specs.List.{All}
use Rattle.tect_ids.specs.declared.ids.Counts.{Counts}
use Rattle.tect_ids.specs.declared.script.Line.{Line}
use Rattle.program_forms.specs.Kinds.{Programs}
use Rattle.race_runs.specs.Gathered.{is_dump}
use Rattle.race_runs.specs.Stories.{Story}
use Rattle.racers.specs.declared.racer.Racer.{Racer}
use Rattle.race_ends.specs.EndedParts.{HaveEnded}
use Rattle.race_ends.specs.HaveRun.{clocks_of}
use Rattle.race_ends.specs.declared.ended.EndedPart.{EndedPart}
use Rattle.racer_stories.specs.Ready.{AreRacers, IsOfClient}
use Rattle.racer_stories.specs.Standing.{AllStand, last_clock}
use Rattle.tect_race.specs.declared.rounds.Progress.{Progress}

-- These lines are done, and ended parts at their dumps, the last one at that clock. All clients are ready for the lines that are left.
pub record Stood {S : Type 0} (P : Programs S) (counts : Counts) (names : List (List ℕ)) (done left : List Line) (clock : ℕ)
    (rs : List (Racer S)) (es : List EndedPart) : Type 0 where
  pub all : length rs ≡ length names
  pub ready : AreRacers P counts left rs
  pub stories : List Story
  pub stand : AllStand P counts names done (clocks_of es) rs stories
  pub ended : HaveEnded es (map (λ s. s.ended) stories)
  pub dumps : count_by is_dump done ≡ length es
  pub clock_is : last_clock 0 (clocks_of es) ≡ clock

-- The lines before the progress' start are done, and those from there up to the line of that number are clients' lines.
pub record HasCome {S : Type 0} (P : Programs S) (counts : Counts) (names : List (List ℕ)) (lines : List Line) (number : ℕ) (p : Progress S)
    : Type 0 where
  pub low : p.start ≤ number
  pub part : All (IsOfClient (length names)) (slice_range lines p.start number)
  pub stood : Stood P counts names (take p.start lines) (drop p.start lines) p.clock p.racers.items p.ended.items
