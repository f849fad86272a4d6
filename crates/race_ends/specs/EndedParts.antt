-- The answers of the parts that ended.
use Rattle.std.specs.Prelude.{◌≡◌, List, [], ◌∷◌, map}
use Rattle.std.specs.List.{flat_map}
use Rattle.tect_ids.specs.declared.script.ReportLine.{ReportLine}
use Rattle.race_runs.specs.Stories.{Part}
use Rattle.race_ends.specs.declared.ended.EndedPart.{EndedPart}

-- the answers of a client's first part, and its parts behind that
abbrev pub first_answers : List Part → List ReportLine
first_answers [] = []
first_answers (p ∷ ps) = p.answers

abbrev pub later_parts : List Part → List Part
later_parts [] = []
later_parts (p ∷ ps) = ps

-- the answers of the parts that ended are those of the clients' parts, client by client
abbrev pub HaveEnded : List EndedPart → List (List Part) → Type 0
HaveEnded [] parts = Unit {0}
HaveEnded (e ∷ es) parts = (e.answers.items ≡ flat_map first_answers parts) × HaveEnded es (map later_parts parts)
