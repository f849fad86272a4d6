-- What explains the answer of any command: its point, or that it lacks a name.
use Rattle.std.specs.Prelude.{◌≡◌, List, ◌⊎◌}
use Rattle.tect_ids.specs.declared.ids.OpId.{OpId}
use Rattle.tect_ids.specs.declared.command.Command.{Command}
use Rattle.tect_ids.specs.declared.answer.Answer.{Answer}
use Rattle.tect_ids.specs.declared.answer.Answer.TheVariants as answers
use Rattle.world_runs.specs.declared.event.Event.{Event}
use Rattle.claim_words.specs.TreeSteps.{tree_steps}
use Rattle.claim_words.specs.Points.{Point, LacksName}

abbrev pub names_because : List Event → OpId → Command → Answer → Type 0
names_because history op c a = Point (tree_steps history) op c a ⊎ (LacksName c × (a ≡ answers.NoName))
