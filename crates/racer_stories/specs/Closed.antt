-- What a racer is when a part of the script ends.
use Rattle.std.specs.Prelude.{◌≡◌, ℕ, max, List, [], ◌++◌}
use Rattle.std.specs.List.{AllZip}
use Rattle.program_forms.specs.Kinds.{Programs}
use Rattle.clients.specs.Lives.{IsLife}
use Rattle.tect_ids.specs.declared.script.ReportLine.{ReportLine}
use Rattle.racers.specs.declared.racer.Racer.{Racer}

-- A part ends: the clock is raised, and the answers are taken out.
pub record Closed {S : Type 0} (P : Programs S) (clock : ℕ) (old new : Racer S) : Type 0 where
  pub client : new.client ≡ record old.client { clock = max old.client.clock clock }
  pub answers : new.answers.items ≡ []
  pub life : IsLife P new.client

-- and added to others
pub record Ended {S : Type 0} (P : Programs S) (clock : ℕ) (old new : Racer S) (before after : List ReportLine) : Type 0 where
  pub closed : Closed P clock old new
  pub told : after ≡ before ++ old.answers.items

abbrev pub AllClosed : {S : Type 0} → Programs S → ℕ → List (Racer S) → List (Racer S) → Type 0
AllClosed P clock = AllZip (Closed P clock)
