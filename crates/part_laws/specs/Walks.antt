-- What a walk knows, and what it asks of the operation behind it.
use Rattle.std.specs.Prelude.{◌≡◌, ◌≤◌, true, false, Option, None}
use Rattle.tect_ids.specs.declared.ids.DirId.{DirId}
use Rattle.tect_ids.specs.declared.ids.Node.TheVariants.{Dir}
use Rattle.tect_ids.specs.declared.ids.OpId.{OpId}
use Rattle.tect_ids.specs.declared.answer.Answer.{Answer}
use Rattle.program_forms.specs.Memories.{Memory}
use Rattle.program_parts.specs.declared.walking.Walking.{Walking}
use Rattle.program_parts.specs.declared.walking.Walking.TheVariants.{Way, There}
use Rattle.store_pasts.specs.Worlds.{World}
use Rattle.store_pasts.specs.Pasts.{was_made}
use Rattle.program_laws.specs.Known.{Deciding, Known, IsNewOp, is_odd}

-- on its way it knows that the directory was made, that its op has no hold, and that a serial is left for what it is to make
pub record OnItsWay (w : World) (op : OpId) (m : Memory) (d : DirId) : Type 0 where
  pub made : was_made w.ghost (Dir d) ≡ true
  pub new : IsNewOp w op
  pub left : m.serial ≤ op.number

abbrev pub WalkKnows : {O S : Type 0} → Known S Answer → World → OpId → Memory → Walking O S → Type 0
WalkKnows N w op m (Way d n ns o) = OnItsWay w op m d
WalkKnows N w op m (There s) = N.Knows w op m s

abbrev pub walk_known : {O S : Type 0} → Known S Answer → Known (Walking O S) Answer
walk_known N = record { Knows = WalkKnows N; Ends = λ w a. is_odd a ≡ false }

abbrev pub walk_decided : {O S : Type 0} → Deciding S Answer → Walking O S → Option Answer
walk_decided D (Way d n ns o) = None
walk_decided D (There s) = D.decided s

abbrev pub walk_deciding : {O S : Type 0} → Deciding S Answer → Deciding (Walking O S) Answer
walk_deciding D = record { decided = walk_decided D }

-- the operation begins with what a walk knows, nothing of it is decided then, and its answer is not odd
pub record BeginsLaws {O S : Type 0} (begins : O → DirId → S) (D : Deciding S Answer) (N : Known S Answer) : Type 0 where
  pub undecided : (o : O) (d : DirId) → D.decided (begins o d) ≡ None
  pub knows : (w : World) (op : OpId) (m : Memory) (o : O) (d : DirId) → OnItsWay w op m d → N.Knows w op m (begins o d)
  pub plain : (w : World) (a : Answer) → N.Ends w a → is_odd a ≡ false
