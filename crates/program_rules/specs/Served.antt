-- Which commands are served, how each begins, and their programs: a walk, and then the operation.
use Rattle.std.specs.Prelude.{ℕ, Bool, true, false, Option, Some, None, List, [], ◌∷◌}
use Rattle.tect_ids.specs.declared.ids.Counts.{Counts}
use Rattle.tect_ids.specs.declared.answer.Answer.{Answer}
use Rattle.tect_ids.specs.declared.answer.Answer.TheVariants.{NoName, IsDir}
use Rattle.tect_ids.specs.declared.command.Command.{Command}
use Rattle.tect_ids.specs.declared.command.Command.TheVariants as commands
use Rattle.tect_ids.specs.Numbers.{root}
use Rattle.tect_ids.specs.Paths.{but_last, last_name}
use Rattle.program_forms.specs.Memories.{Memory}
use Rattle.program_forms.specs.Kinds.{Programs}
use Rattle.program_parts.specs.declared.next.Next.{Next}
use Rattle.program_parts.specs.declared.next.Next.TheVariants.{Goes, Comes}
use Rattle.program_parts.specs.declared.walking.Walking.{Walking}
use Rattle.program_parts.specs.declared.walking.Walking.TheVariants.{There}
use Rattle.program_parts.specs.Parts.{within, kind_of}
use Rattle.program_parts.specs.Walks.{walk_on, walking}
use Rattle.file_rules.specs.Append.{append_starts}
use Rattle.program_rules.specs.declared.states.NewNode.TheVariants as new
use Rattle.program_rules.specs.declared.operation.Operation.{Operation}
use Rattle.program_rules.specs.declared.operation.Operation.TheVariants as operation
use Rattle.program_rules.specs.declared.operation.OperationState.{OperationState}
use Rattle.program_rules.specs.declared.operation.OperationState.TheVariants.{Append}
use Rattle.program_rules.specs.Operations.{begins_in, operations}

-- A command walks along a path and then does its operation, or it appends to what its actor opened at a path. Or it lacks a name that it
-- needs, or wants the contents of the root, which is no file.
pub data Begun : Type 0 where
  Walks : List (List ℕ) → Operation → Begun
  Appends : List (List ℕ) → List ℕ → Begun
  LacksName : Begun
  WantsFile : Begun

-- the last name, if there is one
abbrev pub last_of : List (List ℕ) → Option (List ℕ)
last_of [] = None
last_of (n ∷ ns) = Some (last_name (n ∷ ns))

-- to the directory of the path's last name, where the operation needs that name
abbrev pub walks_to : List (List ℕ) → Option (List ℕ) → (List ℕ → Operation) → Begun
walks_to p None f = LacksName
walks_to p (Some n) f = Walks (but_last p) (f n)

abbrev pub renames : List (List ℕ) → Option (List ℕ) → Option (List ℕ) → Begun
renames p from None = LacksName
renames p from (Some to) = walks_to p from (λ n. operation.Rename n to)

-- to the directory of a file
abbrev pub walks_to_file : List (List ℕ) → Option (List ℕ) → (List ℕ → Operation) → Begun
walks_to_file p None f = WantsFile
walks_to_file p (Some n) f = Walks (but_last p) (f n)

abbrev pub begun : Command → Begun
begun (commands.Look p) = Walks (but_last p) (operation.Look (last_of p))
begun (commands.List p) = Walks p operation.List
begun (commands.Create p) = walks_to p (last_of p) (λ n. operation.Make new.File n)
begun (commands.Mkdir p) = walks_to p (last_of p) (λ n. operation.Make new.Dir n)
begun (commands.Delete p) = walks_to p (last_of p) (λ n. operation.Delete n)
begun (commands.Rename p to) = renames p (last_of p) (last_of to)
begun (commands.Open p) = walks_to_file p (last_of p) (λ n. operation.Open p n)
begun (commands.Append p bytes) = Appends p bytes
begun (commands.Blocks p) = walks_to_file p (last_of p) (λ n. operation.Blocks n)
begun (commands.Read p) = walks_to_file p (last_of p) (λ n. operation.Read n)
begun (commands.Seal p) = Walks (but_last p) (operation.Seal (last_of p))
begun _ = LacksName

abbrev pub is_served : Command → Bool
is_served (commands.Look p) = true
is_served (commands.List p) = true
is_served (commands.Create p) = true
is_served (commands.Mkdir p) = true
is_served (commands.Delete p) = true
is_served (commands.Rename p to) = true
is_served (commands.Open p) = true
is_served (commands.Append p bytes) = true
is_served (commands.Blocks p) = true
is_served (commands.Read p) = true
is_served (commands.Seal p) = true
is_served _ = false

-- a running command: it walks, or is in a state of its operation, or has its answer
abbrev pub Program : Type 0
Program = Next (Walking Operation OperationState) Answer

-- One that lacks a name or a file has its answer at once, and so may an append have, by what its actor knows.
abbrev pub started : Counts → Memory → Begun → Program
started counts m (Walks p o) = Goes (walk_on begins_in root p o)
started counts m (Appends p bytes) = within There (within Append (append_starts counts m p bytes))
started counts m LacksName = Comes NoName
started counts m WantsFile = Comes IsDir

abbrev pub programs : Programs Program
programs = record {
  kind = kind_of (walking begins_in operations);
  serves = is_served;
  starts = λ counts m c. started counts m (begun c);
}
