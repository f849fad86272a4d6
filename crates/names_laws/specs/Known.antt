-- What each operation knows in its states, and when its answer is decided; those on the contents of files have a crate of their own.
use Rattle.std.specs.Prelude.{◌≡◌, ◌≢◌, true, false, None, is_some}
use Rattle.tect_ids.specs.declared.ids.DirId.{DirId}
use Rattle.tect_ids.specs.declared.ids.Hold.{Hold}
use Rattle.tect_ids.specs.declared.ids.Node.{Node}
use Rattle.tect_ids.specs.declared.ids.Node.TheVariants.{Dir}
use Rattle.tect_ids.specs.declared.ids.OpId.{OpId}
use Rattle.tect_ids.specs.declared.key.Key.{Key}
use Rattle.tect_ids.specs.declared.answer.Answer.{Answer}
use Rattle.tect_ids.specs.Keys.{hold_eq}
use Rattle.tect_ids.specs.Numbers.{own_hold}
use Rattle.store_rules.specs.Names.{key_in}
use Rattle.program_forms.specs.Memories.{Memory}
use Rattle.program_rules.specs.declared.states.Make.{Make}
use Rattle.program_rules.specs.declared.states.Make.TheVariants as making
use Rattle.program_rules.specs.declared.states.Delete.{Delete}
use Rattle.program_rules.specs.declared.states.Delete.TheVariants as deleting
use Rattle.program_rules.specs.declared.states.Rename.{Rename}
use Rattle.program_rules.specs.declared.states.Rename.TheVariants as renaming
use Rattle.program_rules.specs.declared.operation.OperationState.{OperationState}
use Rattle.program_rules.specs.declared.operation.OperationState.TheVariants as states
use Rattle.program_rules.specs.NamePairs.{OldAndNew}
use Rattle.program_rules.specs.Operations.{operation_decided}
use Rattle.program_rules.specs.Served.{Program}
use Rattle.store_pasts.specs.Worlds.{World}
use Rattle.store_pasts.specs.Pasts.{was_made, IsGranted}
use Rattle.store_pasts.specs.Later.{actor_of}
use Rattle.program_laws.specs.Known.{Deciding, Known, IsNewOp, is_odd}
use Rattle.part_laws.specs.Parts.{next_known, next_deciding}
use Rattle.part_laws.specs.Walks.{OnItsWay, walk_known, walk_deciding}
use Rattle.part_laws.specs.Releases.{ReleaseKnows}
use Rattle.file_laws.specs.Known.{open_known, append_known, blocks_known, read_known}

-- the hold is the op's own, and its only one; it was granted for that entry, and is not bound yet
pub record HasOwnHold (w : World) (op : OpId) (h : Hold) (n : Node) (k : Key) : Type 0 where
  pub own : h ≡ own_hold op
  pub granted : IsGranted w h n k
  pub one : (other : Hold) → other.op ≡ op → hold_eq other (own_hold op) ≡ false → w.ghost.given other ≡ None

-- what was made has no name yet, and is the actor's
pub record MakeBindKnows (w : World) (op : OpId) (h : Hold) (n : Node) (k : Key) : Type 0 where
  pub hold : HasOwnHold w op h n k
  pub unnamed : w.ghost.home n ≡ None
  pub mine : actor_of n ≡ op.actor

abbrev pub MakeKnows : World → OpId → Memory → Make → Type 0
MakeKnows w op m (making.New kind d n) = OnItsWay w op m d
MakeKnows w op m (making.Bind kind k n h) = MakeBindKnows w op h n k
MakeKnows w op m (making.Release r) = ReleaseKnows w op m r

abbrev pub DeleteKnows : World → OpId → Memory → Delete → Type 0
DeleteKnows w op m (deleting.Unbind k) = IsNewOp w op
DeleteKnows w op m (deleting.Release r) = ReleaseKnows w op m r

-- a node that was found was named; the two names differ
pub record RenameGrantKnows (w : World) (op : OpId) (d : DirId) (p : OldAndNew) (n : Node) : Type 0 where
  pub made : was_made w.ghost (Dir d) ≡ true
  pub new : IsNewOp w op
  pub other : p.from ≢ p.to
  pub named : is_some (w.ghost.home n) ≡ true

pub record RenameSwapKnows (w : World) (op : OpId) (d : DirId) (p : OldAndNew) (n : Node) (h : Hold) : Type 0 where
  pub hold : HasOwnHold w op h n (key_in d p.to)
  pub other : p.from ≢ p.to

abbrev pub RenameKnows : World → OpId → Memory → Rename → Type 0
RenameKnows w op m (renaming.Find d from to) = OnItsWay w op m d
RenameKnows w op m (renaming.Grant d p n) = RenameGrantKnows w op d p n
RenameKnows w op m (renaming.Swap d p n h) = RenameSwapKnows w op d p n h
RenameKnows w op m (renaming.Release r) = ReleaseKnows w op m r

-- ---- all of them

abbrev pub OperationKnows : World → OpId → Memory → OperationState → Type 0
OperationKnows w op m (states.Look s) = IsNewOp w op
OperationKnows w op m (states.List s) = IsNewOp w op
OperationKnows w op m (states.Make s) = MakeKnows w op m s
OperationKnows w op m (states.Delete s) = DeleteKnows w op m s
OperationKnows w op m (states.Rename s) = RenameKnows w op m s
OperationKnows w op m (states.Open s) = open_known.Knows w op m s
OperationKnows w op m (states.Append s) = append_known.Knows w op m s
OperationKnows w op m (states.Blocks s) = blocks_known.Knows w op m s
OperationKnows w op m (states.Read s) = read_known.Knows w op m s
OperationKnows w op m (states.Seal s) = IsNewOp w op

abbrev pub operation_known : Known OperationState Answer
operation_known = record { Knows = OperationKnows; Ends = λ w a. is_odd a ≡ false }

abbrev pub operation_deciding : Deciding OperationState Answer
operation_deciding = record { decided = operation_decided }

-- ---- of a running command, which first walks

abbrev pub names_known : Known Program Answer
names_known = next_known (walk_known operation_known)

abbrev pub names_deciding : Deciding Program Answer
names_deciding = next_deciding (walk_deciding operation_deciding)
