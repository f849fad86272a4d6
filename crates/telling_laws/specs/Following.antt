-- The small machine follows each run.
use Rattle.std.specs.Prelude.{List}
use Rattle.tect_ids.specs.declared.ids.Counts.{Counts}
use Rattle.program_forms.specs.Kinds.{Programs}
use Rattle.world_runs.specs.declared.event.Event.{Event}
use Rattle.world_runs.specs.Moments.{IsWorldRun, moment}
use Rattle.claim_words.specs.Commands.{content_in}
use Rattle.telling_laws.specs.View.{Shows}
use Rattle.telling_laws.specs.Telling.{tree_of}

-- after each run the store shows the tree that the run's steps made
abbrev pub RunsShowTree : {S : Type 0} → Programs S → Type 0
RunsShowTree P = (counts : Counts) (es : List Event) → IsWorldRun P counts es → Shows (moment P counts es).store (content_in es) (tree_of es)
