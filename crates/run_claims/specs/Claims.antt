-- What is claimed of every history, in whatever order its transactions came.
use Rattle.std.specs.Prelude.{◌≡◌, ◌≢◌, ℕ, Some, List, slice_get}
use Rattle.tect_ids.specs.declared.ids.Counts.{Counts}
use Rattle.tect_ids.specs.declared.ids.OpId.{OpId}
use Rattle.tect_ids.specs.declared.ids.Place.{Place}
use Rattle.tect_ids.specs.declared.answer.Answer.{Answer}
use Rattle.tect_ids.specs.declared.answer.Answer.TheVariants.{Odd}
use Rattle.tect_ids.specs.declared.command.Command.{Command}
use Rattle.world_runs.specs.declared.event.Event.{Event}
use Rattle.world_runs.specs.declared.event.Event.TheVariants.{Own}
use Rattle.world_runs.specs.declared.event.Happening.TheVariants.{Ended}
use Rattle.store_rules.specs.Store.{opening_store}
use Rattle.program_rules.specs.Served.{programs}
use Rattle.world_runs.specs.OwnRuns.{stored_after}
use Rattle.telling_laws.specs.View.{Shows}
use Rattle.tree_model.specs.Tree.{opening_tree}
use Rattle.claim_words.specs.Commands.{content_in}
use Rattle.claim_words.specs.TreeSteps.{tree_steps, tree_after}
use Rattle.claim_words.specs.Headline.{Headline, command_of}
use Rattle.claim_words.specs.Sound.{IsSound, AfterEachFront}
use Rattle.claim_words.specs.Granted.{GrantedHoldsAreListed}
use Rattle.claim_words.specs.Attached.{AttachedBlocksStand, AttachesAreToOpened, TokensAreLast, TokensAreOpens}
use Rattle.world_runs.specs.Moments.{IsWorldRun}
use Rattle.world_runs.specs.Limits.{KeepsLimits}
use Rattle.sealed_objects.specs.Sealed.{SealedObjectsStay}
use Rattle.run_claims.specs.Bounds.{IsShort}
use Rattle.run_claims.specs.Complete.{IsComplete}

-- the store, without its holds and with the contents of blocks, is the tree that the small machine's steps made
abbrev pub ShowsTree : List Event → Type 0
ShowsTree history = Shows (stored_after opening_store history) (content_in history) (tree_after opening_tree (tree_steps history))

-- It is a run of the world, within the limits of its actors' histories. The store is sound at each moment, lists each hold that was
-- granted and neither bound nor given up, and shows the small machine's tree; each block that was attached is whole, with the bytes that
-- were appended, in all copies, and its file has its row; a block is attached only to the file, and with the token, that its op's actor had
-- opened last at its path, and this token was the last that was written into the file; each token was written by an open, and is that open;
-- what a listing showed of a sealed directory or file stays as it is; each answer is the one that the tree gives at the command's
-- point, or says that there was no room to begin; none says that a reply was odd; each command takes few transactions; and one that met
-- nothing that refused it has succeeded.
pub record IsHistory (counts : Counts) (history : List Event) : Type 0 where
  pub run : IsWorldRun programs counts history
  pub limits : KeepsLimits programs counts history
  pub sound : AfterEachFront IsSound history
  pub granted : AfterEachFront GrantedHoldsAreListed history
  pub shown : AfterEachFront ShowsTree history
  pub attached : AfterEachFront (AttachedBlocksStand counts) history
  pub opened : AttachesAreToOpened history
  pub tokens : TokensAreLast history
  pub opens : TokensAreOpens history
  pub sealed : AfterEachFront SealedObjectsStay history
  pub answers : Headline counts history
  pub not_odd : (op : OpId) (a : Answer) (n : ℕ) → slice_get history n ≡ Some (Own op (Ended a)) → (place : Place) → a ≢ Odd place
  pub short : (op : OpId) (c : Command) → command_of history op ≡ Some c → IsShort counts history op c
  pub complete : IsComplete counts history

abbrev pub EveryRunIsClaimed : Type 0
EveryRunIsClaimed =
    (counts : Counts) (history : List Event) → IsWorldRun programs counts history → KeepsLimits programs counts history
    → IsHistory counts history
