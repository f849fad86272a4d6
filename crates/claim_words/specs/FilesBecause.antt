-- What explains the answer of a command on the contents of files, beside its point.
use Rattle.std.specs.Prelude.{◌≡◌, ℕ, ◌<◌, Bool, Some, None, List, [], ◌∷◌, ◌++◌, length, max, ◌⊎◌}
use Rattle.std.specs.FinMap.{get}
use Rattle.tect_ids.specs.declared.ids.Counts.{Counts}
use Rattle.tect_ids.specs.declared.ids.DirId.{DirId}
use Rattle.tect_ids.specs.declared.ids.FileId.{FileId}
use Rattle.tect_ids.specs.declared.ids.Node.TheVariants.{File}
use Rattle.tect_ids.specs.declared.ids.OpId.{OpId}
use Rattle.tect_ids.specs.declared.values.RowPart.{RowPart}
use Rattle.tect_ids.specs.declared.command.Command.{Command}
use Rattle.tect_ids.specs.declared.command.Command.TheVariants as commands
use Rattle.tect_ids.specs.declared.answer.Answer.{Answer}
use Rattle.tect_ids.specs.declared.answer.Answer.TheVariants as answers
use Rattle.tect_ids.specs.Numbers.{root}
use Rattle.tect_ids.specs.Paths.{but_last}
use Rattle.tree_model.specs.declared.step.TreeReply.TheVariants.{Ok}
use Rattle.tree_model.specs.declared.step.TreeStep.TheVariants as step
use Rattle.tree_model.specs.declared.step.StepValue.TheVariants as shown
use Rattle.tree_model.specs.Tree.{opening_tree, tree_reply}
use Rattle.world_runs.specs.declared.event.Event.{Event}
use Rattle.world_runs.specs.declared.event.Event.TheVariants.{Own}
use Rattle.world_runs.specs.declared.event.Happening.TheVariants.{Began}
use Rattle.claim_words.specs.TreeSteps.{Told, tree_steps, tree_after}
use Rattle.claim_words.specs.Points.{of_op, Walked, FoundSource}
use Rattle.claim_words.specs.Opened.{opened_in}

-- The bytes are those that the tree says of all blocks that the op's listing showed, at the moment of that listing: its walk had led to
-- the file's directory, and it had found the file there.
pub record ReadPoint (history : List Told) (op : OpId) (p : List (List ℕ)) (bytes : List ℕ) : Type 0 where
  pub before : List Told
  pub file : FileId
  pub sealed : Bool
  pub rows : List RowPart
  pub later : List Told
  pub there : history ≡ before ++ record { op = op; does = step.Blocks file; says = Ok (shown.Blocks sealed rows) } ∷ later
  pub dir : DirId
  pub walked : Walked root (but_last p) (of_op op before) dir []
  pub found : FoundSource (of_op op before) dir p (File file)
  pub by_tree : tree_reply (tree_after opening_tree before) op (step.Read file (length rows)) ≡ Ok (shown.Bytes bytes)

abbrev pub IsRead : List Told → OpId → List (List ℕ) → Answer → Type 0
IsRead history op p a = (bytes : List ℕ) × (a ≡ answers.Read bytes) × ReadPoint history op p bytes

-- as the op began, its actor had opened no file at that path
pub record WasNotOpen (history : List Event) (op : OpId) (c : Command) (p : List (List ℕ)) : Type 0 where
  pub before : List Event
  pub later : List Event
  pub there : history ≡ before ++ Own op (Began c) ∷ later
  pub never : get (opened_in before op.actor) p ≡ None

-- as the op began, what its actor had opened last at that path was this file, with this token
pub record WasOpen (history : List Event) (op : OpId) (c : Command) (p : List (List ℕ)) (f : FileId) (token : OpId) : Type 0 where
  pub before : List Event
  pub later : List Event
  pub there : history ≡ before ++ Own op (Began c) ∷ later
  pub last : get (opened_in before op.actor) p ≡ Some record { file = f; token = token }

-- on how many disks a block lies, at least one
abbrev pub copies_needed : Counts → ℕ
copies_needed c = max c.copies 1

-- the root is no file; what the actor did not open it can't append to; and there have to be disks for all copies
abbrev pub files_because : Counts → List Event → OpId → Command → Answer → Type 0
files_because counts history op (commands.Open p) a = (p ≡ []) × (a ≡ answers.IsDir)
files_because counts history op (commands.Blocks p) a = (p ≡ []) × (a ≡ answers.IsDir)
files_because counts history op (commands.Read p) a = ((p ≡ []) × (a ≡ answers.IsDir)) ⊎ IsRead (tree_steps history) op p a
files_because counts history op (commands.Append p bytes) a =
    (WasNotOpen history op (commands.Append p bytes) p × (a ≡ answers.NotOpen))
    ⊎ ((counts.disks < copies_needed counts) × (a ≡ answers.FewDisks counts.disks (copies_needed counts)))
files_because counts history op c a = ⊥
