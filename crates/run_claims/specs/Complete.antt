-- When a command must succeed: where nothing that it met refused it.
use Rattle.std.specs.Prelude.{◌≡◌, ◌≢◌, ◌<◌, ℕ, false, Some, List, [], ◌∷◌, take, slice_get, ◌⊎◌}
use Rattle.std.specs.List.{AllByRecursion}
use Rattle.tect_ids.specs.declared.ids.Counts.{Counts}
use Rattle.tect_ids.specs.declared.ids.DirId.{DirId}
use Rattle.tect_ids.specs.declared.ids.Node.TheVariants.{Dir, File}
use Rattle.tect_ids.specs.declared.ids.OpId.{OpId}
use Rattle.tect_ids.specs.declared.command.Command.{Command}
use Rattle.tect_ids.specs.declared.command.Command.TheVariants as commands
use Rattle.tect_ids.specs.declared.answer.Answer.{Answer}
use Rattle.tect_ids.specs.declared.answer.Answer.TheVariants as answers
use Rattle.tree_model.specs.declared.step.StepValue.{StepValue}
use Rattle.tree_model.specs.declared.step.StepValue.TheVariants as shown
use Rattle.tree_model.specs.declared.step.TreeReply.{TreeReply}
use Rattle.tree_model.specs.declared.step.TreeReply.TheVariants.{Ok, Refused}
use Rattle.world_runs.specs.declared.event.Event.{Event}
use Rattle.world_runs.specs.declared.event.Event.TheVariants.{Own}
use Rattle.world_runs.specs.declared.event.Happening.TheVariants.{Ended, Failed}
use Rattle.world_runs.specs.Limits.{IsFull}
use Rattle.world_runs.specs.Refusals.{was_refused}
use Rattle.claim_words.specs.Points.{way, of_op, LacksName}
use Rattle.claim_words.specs.TreeSteps.{Told, tree_steps}
use Rattle.claim_words.specs.Headline.{command_of}
use Rattle.claim_words.specs.FilesBecause.{WasNotOpen, copies_needed}

-- the answers of a command that did what it was to do
abbrev pub Succeeds : Answer → Type 0
Succeeds answers.Done = Unit {0}
Succeeds (answers.Found n) = Unit {0}
Succeeds (answers.Entries items) = Unit {0}
Succeeds (answers.Opened f token) = Unit {0}
Succeeds (answers.Appended b i) = Unit {0}
Succeeds (answers.Blocks rows) = Unit {0}
Succeeds (answers.Read bytes) = Unit {0}
Succeeds _ = ⊥

-- the tree refused nothing at the step
abbrev pub WentWell : Told → Type 0
WentWell s = (value : StepValue) × (s.says ≡ Ok value)

abbrev pub IsNoFile : TreeReply → Type 0
IsNoFile (Ok (shown.Node (File f))) = ⊥
IsNoFile (Ok (shown.Node (Dir d))) = Unit {0}
IsNoFile (Ok shown.Done) = Unit {0}
IsNoFile (Ok (shown.Parent p sealed)) = Unit {0}
IsNoFile (Ok (shown.Entries sealed items)) = Unit {0}
IsNoFile (Ok (shown.Attached i)) = Unit {0}
IsNoFile (Ok (shown.Blocks sealed rows)) = Unit {0}
IsNoFile (Ok (shown.Bytes bytes)) = Unit {0}
IsNoFile (Refused why) = Unit {0}

-- the first steps of a command are the looks on its way, one for each name: no file was found there
abbrev pub FindsNoFile : List (List ℕ) → List Told → Type 0
FindsNoFile [] own = Unit {0}
FindsNoFile (n ∷ names) [] = Unit {0}
FindsNoFile (n ∷ names) (s ∷ own) = IsNoFile s.says × FindsNoFile names own

abbrev pub IsNoDir : Told → Type 0
IsNoDir s = (d : DirId) → s.says ≢ Ok (shown.Node (Dir d))

-- behind its walk a command was shown no directory
abbrev pub SawNoDir : List (List ℕ) → List Told → Type 0
SawNoDir [] own = AllByRecursion IsNoDir own
SawNoDir (n ∷ names) [] = Unit {0}
SawNoDir (n ∷ names) (s ∷ own) = SawNoDir names own

-- where a command leads to a file's contents, it does not come to a directory
abbrev pub LedToFile : Command → List Told → Type 0
LedToFile (commands.Open p) own = SawNoDir (way (commands.Open p)) own
LedToFile (commands.Blocks p) own = SawNoDir (way (commands.Blocks p)) own
LedToFile (commands.Read p) own = SawNoDir (way (commands.Read p)) own
LedToFile c own = Unit {0}

-- what a command on a file's contents lacks from the first: the root is no file; and to append, an open file and disks for all copies
abbrev pub LacksFile : Counts → List Event → OpId → Command → Type 0
LacksFile counts history op (commands.Open p) = p ≡ []
LacksFile counts history op (commands.Blocks p) = p ≡ []
LacksFile counts history op (commands.Read p) = p ≡ []
LacksFile counts history op (commands.Append p bytes) =
    WasNotOpen history op (commands.Append p bytes) p ⊎ (counts.disks < copies_needed counts)
LacksFile counts history op c = ⊥

-- what the op's command met, whose own steps these are: it has the names, files and disks that it needs, nothing was refused, and each
-- look on its way (of a listing also the last look, where the way led) found no file, and where it needs a file, no directory
pub record MeetsNoBar (counts : Counts) (history : List Event) (op : OpId) (c : Command) (own : List Told) : Type 0 where
  pub named : ¬ LacksName c
  pub able : ¬ LacksFile counts history op c
  pub allowed : AllByRecursion WentWell own
  pub led : FindsNoFile (way c) own
  pub to_file : LedToFile c own

-- An op that ended and was not refused had begun a command, and where that met no bar it has succeeded. An op that failed found
-- no memory, or its actor's own history was full at that moment.
pub record IsComplete (counts : Counts) (history : List Event) : Type 0 where
  pub succeeds : (place : ℕ) (op : OpId) (a : Answer) → slice_get history place ≡ Some (Own op (Ended a))
      → was_refused (take place history) op ≡ false
      → (c : Command) × (command_of (take place history) op ≡ Some c)
      × (MeetsNoBar counts (take place history) op c (of_op op (tree_steps (take place history))) → Succeeds a)
  pub fails : (place : ℕ) (op : OpId) (a : Answer) → slice_get history place ≡ Some (Own op (Failed a))
      → (a ≡ answers.NoMemory) ⊎ IsFull (take place history) op.actor
