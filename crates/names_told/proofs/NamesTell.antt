-- the history explains the answers of commands
use Rattle.std.proofs.Common.{◌≡◌, ℕ, None, List, [], ◌∷◌, ◌++◌, refl, sym, ap, subst, ◌∙◌, inl, inr}
use Rattle.std.proofs.lemmas.List.{append-nil}
use Rattle.tect_ids.specs.declared.ids.Counts.{Counts}
use Rattle.tect_ids.specs.declared.ids.OpId.{OpId}
use Rattle.tect_ids.specs.declared.command.Command.{Command}
use Rattle.tect_ids.specs.declared.answer.Answer.{Answer}
use Rattle.tect_ids.specs.Numbers.{root}
use Rattle.program_forms.specs.Memories.{Memory}
use Rattle.program_parts.specs.declared.next.Next.{Next}
use Rattle.program_parts.specs.declared.next.Next.TheVariants.{Goes, Comes}
use Rattle.program_parts.specs.declared.walking.Walking.TheVariants.{There}
use Rattle.program_parts.specs.Parts.{within}
use Rattle.file_rules.specs.declared.states.Append.{Append}
use Rattle.file_rules.specs.Append.{append_starts}
use Rattle.program_rules.specs.declared.operation.OperationState.TheVariants as states
use Rattle.program_rules.specs.Operations.{begins_in}
use Rattle.program_rules.specs.Served.{Begun, Walks, Appends, LacksName, WantsFile, begun, started, is_served, programs}
use Rattle.world_runs.specs.declared.event.Event.{Event}
use Rattle.world_runs.specs.declared.event.Event.TheVariants.{Own}
use Rattle.world_runs.specs.declared.event.Happening.TheVariants.{Began}
use Rattle.part_laws.specs.Walks.{walk_deciding}
use Rattle.claim_words.specs.Commands.{command_of}
use Rattle.claim_words.specs.Opened.{opened_in}
use Rattle.claim_words.specs.Points.{way, of_op}
use Rattle.claim_words.specs.TreeSteps.{tree_steps}
use Rattle.telling_laws.specs.Telling.{TellingLaws}
use Rattle.telling_laws.specs.Parts.{NextTells, walk_telling}
use Rattle.telling_laws.proofs.Histories.{steps_more}
use Rattle.telling_laws.proofs.Steps.{WalkedTo}
use Rattle.telling_laws.proofs.PartsTell.{part_telling_laws}
use Rattle.telling_laws.proofs.WalksTell.{walk_on_tells, walk_tells}
use Rattle.names_laws.specs.Known.{operation_deciding, names_deciding}
use Rattle.file_laws.specs.Known.{append_deciding}
use Rattle.files_told.specs.FilesTelling.{append_telling}
use Rattle.files_told.proofs.Begins.{append_tells_as_it_begins}
use Rattle.names_told.specs.NamesTelling.{Fits, operation_telling, names_telling}
use Rattle.names_told.proofs.Commands.{BeginsSo, begins_so}
use Rattle.names_told.proofs.Operations.{operations_tell, walks_tell}

-- ---- as it begins

module _ (counts : Counts) (h : List Event) (op : OpId) (none : of_op op (tree_steps h) ≡ []) (c : Command) where
  -- the history then
  abbrev then_begun : List Event
  then_begun = h ++ Own op (Began c) ∷ []

  still_none : of_op op (tree_steps then_begun) ≡ []
  still_none = ap (of_op op) (steps_more h (Own op (Began c)) ∙ append-nil (tree_steps h)) ∙ none

  at_root : WalkedTo then_begun op c root (way c)
  at_root = rw still_none (refl, refl)

  begins_tells : (m : Memory) → command_of h op ≡ None → m.opened ≡ opened_in h op.actor → (b : Begun) → begun c ≡ b → BeginsSo c b
      → NextTells (walk_deciding operation_deciding) (walk_telling Fits (operation_telling counts)) then_begun op c (started counts m b)
  begins_tells m new opened (Walks p o) e so =
      walk_on_tells begins_in Fits (walks_tell counts) then_begun op c root p o (rw so at_root)
      (subst (λ (w : List (List ℕ)). begun c ≡ Walks w o) so e)
  begins_tells m new opened (Appends p bytes) e so =
      append_tells (append_starts counts m p bytes)
      (subst (λ (k : Command). NextTells append_deciding (append_telling counts) (h ++ Own op (Began k) ∷ []) op k
      (append_starts counts m p bytes)) (sym so) (append_tells_as_it_begins counts h op p bytes m new opened))
    where
      append_tells : (n : Next Append Answer) → NextTells append_deciding (append_telling counts) then_begun op c n
          → NextTells (walk_deciding operation_deciding) (walk_telling Fits (operation_telling counts)) then_begun op c
          (within There (within states.Append n))
      append_tells (Goes s) t = t
      append_tells (Comes a) t = t
  begins_tells m new opened LacksName e so = inl (inl (inr (so, refl)))
  begins_tells m new opened WantsFile e so = inl (inr (so counts then_begun op))

-- ---- all of it

pub names_tell_so : (counts : Counts) → TellingLaws counts programs names_deciding (names_telling counts)
names_tell_so counts = part_telling_laws (walk_tells begins_in Fits (walks_tell counts) (operations_tell counts)) is_served
    (λ counts m c. started counts m (begun c))
    (λ h op c m served unbegun none opened.
    begins_tells counts h op none c m unbegun opened (begun c) refl (begins_so c served))
