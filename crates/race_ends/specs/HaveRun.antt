-- What the clients of a race have done when the lines of some parts are done.
use Rattle.std.specs.Prelude.{◌≡◌, ℕ, ◌+◌, Some, List, [], ◌∷◌, length, map, count_by, slice_get}
use Rattle.std.specs.List.{All, AllZip}
use Rattle.tect_ids.specs.declared.ids.Counts.{Counts}
use Rattle.tect_ids.specs.declared.script.Line.{Line}
use Rattle.tect_ids.specs.declared.script.ReportLine.{ReportLine}
use Rattle.tect_ids.specs.Places.{HasPlaces}
use Rattle.program_forms.specs.Kinds.{Programs}
use Rattle.race_runs.specs.Stories.{Story, IsStory, all_moments}
use Rattle.race_runs.specs.Gathered.{IsLineOf, is_dump, answers_now, answers_last, rest_of}
use Rattle.passes.specs.declared.pass.Pass.{Pass}
use Rattle.race_ends.specs.declared.ended.EndedPart.{EndedPart}

-- the story is of what the client noted, and a story of these lines
pub record HasStory {S : Type 0} (P : Programs S) (counts : Counts) (names : List (List ℕ)) (lines : List Line) (clocks : List ℕ) (p : Pass)
    (s : Story) : Type 0 where
  pub actor : s.actor ≡ p.actor
  pub moments : p.moments.items ≡ all_moments s.ended s.last
  pub story : IsStory P counts names lines clocks s

abbrev pub clocks_of : List EndedPart → List ℕ
clocks_of = map (λ p. p.clock)

-- the answers of each part are those of the stories, client by client
abbrev pub HaveAnswers : List EndedPart → List ReportLine → List Story → Type 0
HaveAnswers [] last ss = last ≡ answers_last ss
HaveAnswers (p ∷ ps) last ss = (p.answers.items ≡ answers_now ss) × HaveAnswers ps last (map rest_of ss)

-- All clients did these lines, and these are their passes, in first-seen order. Dumps ended the first parts; the answers of the last
-- part are the further lines.
pub record HaveRun {S : Type 0} (P : Programs S) (counts : Counts) (names : List (List ℕ)) (lines : List Line) (passes : List Pass)
    (ended : List EndedPart) (last : List ReportLine) : Type 0 where
  pub places : HasPlaces counts
  pub asked : All (IsLineOf (length names)) lines
  pub dumps : count_by is_dump lines ≡ length ended
  pub number : length passes ≡ length names
  pub numbered : (i : ℕ) (p : Pass) → slice_get passes i ≡ Some p → p.actor ≡ i + 1
  pub stories : List Story
  pub each : AllZip (HasStory P counts names lines (clocks_of ended)) passes stories
  pub answers : HaveAnswers ended last stories
