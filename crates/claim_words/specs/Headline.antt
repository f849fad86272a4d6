-- What is claimed of the answers of a history: each is the one that the small machine gives at the command's point.
use Rattle.std.specs.Prelude.{◌≡◌, ℕ, true, Some, List, [], take, slice_get, ◌⊎◌}
use Rattle.tect_ids.specs.declared.ids.Counts.{Counts}
use Rattle.tect_ids.specs.declared.ids.OpId.{OpId}
use Rattle.tect_ids.specs.declared.command.Command.{Command}
use Rattle.tect_ids.specs.declared.answer.Answer.{Answer}
use Rattle.tree_model.specs.Tree.{opening_tree}
use Rattle.world_runs.specs.declared.event.Event.{Event}
use Rattle.world_runs.specs.declared.event.Event.TheVariants.{Own}
use Rattle.world_runs.specs.declared.event.Happening.TheVariants.{Began, Ended}
use Rattle.world_runs.specs.Refusals.{was_refused}
use Rattle.program_forms.specs.Lacks.{no_room}
pub use Rattle.claim_words.specs.Commands.{begun_by, or_later, command_of}
use Rattle.claim_words.specs.TreeSteps.{tree_steps, IsTreeRun}
use Rattle.claim_words.specs.Points.{of_op}
use Rattle.claim_words.specs.Because.{because}

-- the history explains the op's answer, by what explains answers
pub record ExplainsBy (why : List Event → OpId → Command → Answer → Type 0) (history : List Event) (op : OpId) (a : Answer) : Type 0 where
  pub command : Command
  pub begun : command_of history op ≡ Some command
  pub because : why history op command a

abbrev pub Explains : Counts → List Event → OpId → Answer → Type 0
Explains counts history op a = ExplainsBy (because counts) history op a

-- the answer of a refused op says that there was no room
abbrev pub HadNoRoom : List Event → OpId → Answer → Type 0
HadNoRoom history op a = (was_refused history op ≡ true) × (a ≡ no_room)

-- The steps of the history are a run of the small machine, each reply allowed; an op has no step before it begins; and
-- where an op ended with an answer, the history before explains it, or the op was refused for want of room.
pub record HeadlineBy (why : List Event → OpId → Command → Answer → Type 0) (history : List Event) : Type 0 where
  pub tree : IsTreeRun opening_tree (tree_steps history)
  pub begins : (place : ℕ) (op : OpId) (c : Command) → slice_get history place ≡ Some (Own op (Began c))
      → of_op op (tree_steps (take place history)) ≡ []
  pub answers : (place : ℕ) (op : OpId) (a : Answer) → slice_get history place ≡ Some (Own op (Ended a))
      → ExplainsBy why (take place history) op a ⊎ HadNoRoom (take place history) op a

abbrev pub Headline : Counts → List Event → Type 0
Headline counts history = HeadlineBy (because counts) history
