-- the commands keep the laws of programs
use Rattle.std.proofs.Common.{◌≡◌, ◌≤◌, ℕ, true, Option, Some, None, List, refl, sym, subst}
use Rattle.tect_ids.specs.declared.ids.Counts.{Counts}
use Rattle.tect_ids.specs.declared.ids.Node.TheVariants.{Dir}
use Rattle.tect_ids.specs.declared.ids.OpId.{OpId}
use Rattle.tect_ids.specs.declared.answer.Answer.{Answer}
use Rattle.tect_ids.specs.declared.command.Command.{Command}
use Rattle.tect_ids.specs.declared.command.Command.TheVariants as commands
use Rattle.tect_ids.specs.Numbers.{root}
use Rattle.tect_ids.specs.Paths.{but_last}
use Rattle.program_forms.specs.Memories.{Memory}
use Rattle.program_parts.specs.declared.next.Next.{Next}
use Rattle.program_parts.specs.declared.walking.Walking.{Walking}
use Rattle.program_parts.specs.declared.walking.Walking.TheVariants.{There}
use Rattle.program_parts.specs.Parts.{within}
use Rattle.program_parts.specs.Walks.{walking}
use Rattle.program_rules.specs.declared.operation.Operation.{Operation}
use Rattle.program_rules.specs.declared.states.NewNode.TheVariants as new_node
use Rattle.program_rules.specs.declared.operation.Operation.TheVariants as operation
use Rattle.program_rules.specs.declared.operation.OperationState.{OperationState}
use Rattle.program_rules.specs.declared.operation.OperationState.TheVariants as states
use Rattle.program_rules.specs.Operations.{begins_in, operations}
use Rattle.program_rules.specs.Served.{Walks, last_of, walks_to, walks_to_file, renames, programs, started, begun}
use Rattle.store_pasts.specs.Worlds.{World}
use Rattle.store_pasts.specs.Pasts.{was_made}
use Rattle.program_laws.specs.Known.{Deciding, Known, IsNewOp, HasSaid, Remembers}
use Rattle.program_laws.specs.Laws.{KindLaws, DecidedLaws, HoldLaws, ProgramLaws}
use Rattle.part_laws.specs.Parts.{PartLaws, NextKnows}
use Rattle.part_laws.specs.Walks.{walk_known, walk_deciding}
use Rattle.part_laws.proofs.AsKinds.{kind_laws, decided_laws, hold_laws}
use Rattle.part_laws.proofs.Walks.{walk_laws, on_knows}
use Rattle.part_laws.proofs.Within.{within_knows}
use Rattle.file_rules.specs.declared.states.Append.{Append}
use Rattle.file_rules.specs.Append.{append_starts}
use Rattle.file_laws.specs.Known.{append_known}
use Rattle.file_laws.proofs.Begins.{append_begins}
use Rattle.names_laws.specs.Known.{operation_known, operation_deciding, names_known, names_deciding}
use Rattle.names_laws.proofs.Operations.{operations_laws, begins_laws}

-- a walk along the path, and then the operation
abbrev pub walk_names : Known (Walking Operation OperationState) Answer
walk_names = walk_known operation_known

abbrev pub walk_decides : Deciding (Walking Operation OperationState) Answer
walk_decides = walk_deciding operation_deciding

names_laws : PartLaws (walking begins_in operations) walk_decides walk_names
names_laws = walk_laws begins_in operations_laws begins_laws

pub names_kind_laws : KindLaws (programs.kind) names_deciding names_known
names_kind_laws = kind_laws names_laws

pub names_decided_laws : DecidedLaws (programs.kind) names_deciding names_known
names_decided_laws = decided_laws names_laws

pub names_hold_laws : HoldLaws (programs.kind) names_deciding names_known
names_hold_laws = hold_laws names_laws

-- an append begins as a part of the whole
append_within : (w : World) (op : OpId) (m : Memory) (n : Next Append Answer) → NextKnows append_known w op m n
    → NextKnows walk_names w op m (within There (within states.Append n))
append_within w op m n k =
    within_knows There operation_known walk_names w op m (λ s t. t) (λ a e. e) (within states.Append n)
    (within_knows states.Append append_known operation_known w op m (λ s t. t) (λ a e. e) n k)

-- A command begins at the root, which was made; an append by what its actor opened.
module _ (c : Counts) (w : World) (op : OpId) (m : Memory) (k : Command) (rooted : was_made w.ghost (Dir root) ≡ true) (new : IsNewOp w op)
    (said : HasSaid w op k) (remembers : Remembers w op.actor m) (left : m.serial ≤ op.number) where
  walks : (p : List (List ℕ)) (o : Operation) → NextKnows walk_names w op m (started c m (Walks p o))
  walks p o = on_knows begins_in operations_laws begins_laws w op m root p o record { made = rooted; new = new; left = left }

  walks_named : (p : List (List ℕ)) (o : Option (List ℕ)) (f : List ℕ → Operation)
      → NextKnows walk_names w op m (started c m (walks_to p o f))
  walks_named p None f = refl
  walks_named p (Some n) f = walks (but_last p) (f n)

  walks_renaming : (p : List (List ℕ)) (from to : Option (List ℕ)) → NextKnows walk_names w op m (started c m (renames p from to))
  walks_renaming p from None = refl
  walks_renaming p from (Some to) = walks_named p from (λ n. operation.Rename n to)

  walks_for_file : (p : List (List ℕ)) (o : Option (List ℕ)) (f : List ℕ → Operation)
      → NextKnows walk_names w op m (started c m (walks_to_file p o f))
  walks_for_file p None f = refl
  walks_for_file p (Some n) f = walks (but_last p) (f n)

  starts_knows : (b : Command) → b ≡ k → NextKnows walk_names w op m (started c m (begun b))
  starts_knows (commands.Look p) e = walks (but_last p) (operation.Look (last_of p))
  starts_knows (commands.List p) e = walks p operation.List
  starts_knows (commands.Create p) e = walks_named p (last_of p) (λ n. operation.Make new_node.File n)
  starts_knows (commands.Mkdir p) e = walks_named p (last_of p) (λ n. operation.Make new_node.Dir n)
  starts_knows (commands.Delete p) e = walks_named p (last_of p) (λ n. operation.Delete n)
  starts_knows (commands.Rename p to) e = walks_renaming p (last_of p) (last_of to)
  starts_knows (commands.Open p) e = walks_for_file p (last_of p) (λ n. operation.Open p n)
  starts_knows (commands.Append p bytes) e =
      append_within w op m (append_starts c m p bytes)
      (append_begins c w op m (commands.Append p bytes) p bytes refl new (subst (λ (b : Command). HasSaid w op b) (sym e) said) remembers left)
  starts_knows (commands.Blocks p) e = walks_for_file p (last_of p) (λ n. operation.Blocks n)
  starts_knows (commands.Read p) e = walks_for_file p (last_of p) (λ n. operation.Read n)
  starts_knows (commands.Seal p) e = walks (but_last p) (operation.Seal (last_of p))
  starts_knows b e = refl

pub names_program_laws : ProgramLaws programs names_deciding names_known
names_program_laws = record {
  kind = names_kind_laws;
  begins = λ c w op m k rooted new said remembers left served. starts_knows c w op m k rooted new said remembers left k refl;
  plain = λ w a e. e;
}
