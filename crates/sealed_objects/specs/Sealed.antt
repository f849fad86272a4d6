-- What is sealed stays as it is.
use Rattle.std.specs.Prelude.{◌≡◌, ℕ, true, List, ◌∷◌, ◌++◌}
use Rattle.tect_ids.specs.declared.ids.DirId.{DirId}
use Rattle.tect_ids.specs.declared.ids.FileId.{FileId}
use Rattle.tect_ids.specs.declared.ids.OpId.{OpId}
use Rattle.tect_ids.specs.declared.values.Listed.{Listed}
use Rattle.tect_ids.specs.declared.values.RowPart.{RowPart}
use Rattle.tree_model.specs.declared.step.TreeReply.TheVariants.{Ok}
use Rattle.tree_model.specs.declared.step.TreeStep.TheVariants as step
use Rattle.tree_model.specs.declared.step.StepValue.TheVariants as shown
use Rattle.tree_model.specs.Tree.{opening_tree, tree_reply}
use Rattle.world_runs.specs.declared.event.Event.{Event}
use Rattle.claim_words.specs.TreeSteps.{Told, tree_steps, tree_after}

-- once a listing has shown these entries of a sealed directory, the tree lists them after all steps
abbrev pub SealedDirsStay : List Told → Type 0
SealedDirsStay steps =
    (before later : List Told) (op other : OpId) (d : DirId) (items : List Listed)
    → steps ≡ before ++ record { op = op; does = step.List d; says = Ok (shown.Entries true items) } ∷ later
    → tree_reply (tree_after opening_tree steps) other (step.List d) ≡ Ok (shown.Entries true items)

-- the same of a sealed file's blocks; and each reading of it gives what it gave then
abbrev pub SealedFilesStay : List Told → Type 0
SealedFilesStay steps =
    (before later : List Told) (op other : OpId) (f : FileId) (rows : List RowPart)
    → steps ≡ before ++ record { op = op; does = step.Blocks f; says = Ok (shown.Blocks true rows) } ∷ later
    → (tree_reply (tree_after opening_tree steps) other (step.Blocks f) ≡ Ok (shown.Blocks true rows))
    × ((n : ℕ) → tree_reply (tree_after opening_tree steps) other (step.Read f n)
    ≡ tree_reply (tree_after opening_tree before) other (step.Read f n))

-- so it is by the steps of this history
pub record SealedObjectsStay (history : List Event) : Type 0 where
  pub dirs : SealedDirsStay (tree_steps history)
  pub files : SealedFilesStay (tree_steps history)
