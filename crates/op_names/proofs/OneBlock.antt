-- The hold of a running append is at the block that it made: at the start, and at each reply.
use Rattle.std.specs.Prelude.{ℕ, List, [], ◌∷◌, Option, Some, None}
use Rattle.tect_ids.specs.declared.ids.Counts.{Counts}
use Rattle.tect_ids.specs.declared.ids.DirId.{DirId}
use Rattle.tect_ids.specs.declared.ids.Node.{Node}
use Rattle.tect_ids.specs.declared.ids.Node.TheVariants as nodes
use Rattle.tect_ids.specs.declared.ids.OpId.{OpId}
use Rattle.tect_ids.specs.declared.ids.Place.{Place}
use Rattle.tect_ids.specs.declared.key.Key.{Key}
use Rattle.tect_ids.specs.declared.answer.Answer.{Answer}
use Rattle.tect_ids.specs.declared.command.Command.{Command}
use Rattle.tect_ids.specs.Numbers.{root, object_number}
use Rattle.store_rules.specs.declared.any.AnyReq.{AnyReq}
use Rattle.store_rules.specs.declared.any.AnyReply.{AnyReply}
use Rattle.store_rules.specs.Names.{key_in}
use Rattle.store_rules.specs.Places.{request_place}
use Rattle.store_rules.specs.Views.{as_found}
use Rattle.program_forms.specs.Memories.{Memory}
use Rattle.program_parts.specs.declared.next.Next.{Next}
use Rattle.program_parts.specs.declared.next.Next.TheVariants.{Goes, Comes}
use Rattle.program_parts.specs.declared.walking.Walking.TheVariants.{Way, There}
use Rattle.program_parts.specs.Parts.{within}
use Rattle.program_parts.specs.Walks.{walk_on, walked, walk_asks}
use Rattle.file_rules.specs.declared.states.Append.{Append}
use Rattle.file_rules.specs.Append.{append_starts, append_hears}
use Rattle.program_rules.specs.declared.operation.Operation.{Operation}
use Rattle.program_rules.specs.declared.operation.Operation.TheVariants as operation
use Rattle.program_rules.specs.declared.operation.OperationState.{OperationState}
use Rattle.program_rules.specs.declared.operation.OperationState.TheVariants as states
use Rattle.program_rules.specs.Operations.{begins_in, operations, operation_hears}
use Rattle.program_rules.specs.Served.{Program, Begun, Walks, Appends, LacksName, WantsFile, begun, started}
use Rattle.op_files.specs.OneBlock.{GoesOnSo}
use Rattle.op_files.proofs.OneBlock.{begins_of_one_block, stays_of_one_block}
use Rattle.op_names.specs.Going.{went_on}
use Rattle.op_names.specs.OneBlock.{IsOfOneBlock, RunsWithOneBlock}

-- where an operation goes on
abbrev OperationGoesOnSo : Next OperationState Answer → Type 0
OperationGoesOnSo (Goes s) = IsOfOneBlock s
OperationGoesOnSo (Comes a) = Unit {0}

any_so : {S : Type 0} (f : S → OperationState) → ((s : S) → IsOfOneBlock (f s)) → (n : Next S Answer) → OperationGoesOnSo (within f n)
any_so f so (Goes s) = so s
any_so f so (Comes a) = tt

append_so : (n : Next Append Answer) → GoesOnSo n → OperationGoesOnSo (within states.Append n)
append_so (Goes s) so = so
append_so (Comes a) so = tt

there_so : (n : Next OperationState Answer) → OperationGoesOnSo n → RunsWithOneBlock (within There n)
there_so (Goes s) so = so
there_so (Comes a) so = tt

operation_so : (c : Counts) (m : Memory) (op : OpId) (s : OperationState) (q : AnyReq) (x : AnyReply) → IsOfOneBlock s
    → OperationGoesOnSo (operation_hears c m op s q x)
operation_so c m op (states.Look s) q x so = any_so states.Look (λ t. tt) _
operation_so c m op (states.List s) q x so = any_so states.List (λ t. tt) _
operation_so c m op (states.Make s) q x so = any_so states.Make (λ t. tt) _
operation_so c m op (states.Delete s) q x so = any_so states.Delete (λ t. tt) _
operation_so c m op (states.Rename s) q x so = any_so states.Rename (λ t. tt) _
operation_so c m op (states.Open s) q x so = any_so states.Open (λ t. tt) _
operation_so c m op (states.Append s) q x so =
    let number = object_number op.actor m.serial in
    append_so (append_hears (request_place c q) op number s x) (stays_of_one_block (request_place c q) op number x s so)
operation_so c m op (states.Blocks s) q x so = any_so states.Blocks (λ t. tt) _
operation_so c m op (states.Read s) q x so = any_so states.Read (λ t. tt) _
operation_so c m op (states.Seal s) q x so = any_so states.Seal (λ t. tt) _

begin_so : (o : Operation) (d : DirId) → IsOfOneBlock (begins_in o d)
begin_so (operation.Look n) d = tt
begin_so operation.List d = tt
begin_so (operation.Make kind n) d = tt
begin_so (operation.Delete n) d = tt
begin_so (operation.Rename from to) d = tt
begin_so (operation.Open path n) d = tt
begin_so (operation.Blocks n) d = tt
begin_so (operation.Read n) d = tt
begin_so (operation.Seal n) d = tt

walk_so : (d : DirId) (ns : List (List ℕ)) (o : Operation) → RunsWithOneBlock (Goes (walk_on begins_in d ns o))
walk_so d [] o = begin_so o d
walk_so d (n ∷ ns) o = tt

walked_so : (place : Place) (k : Key) (ns : List (List ℕ)) (o : Operation) (x : AnyReply) (found : Option Node)
    → RunsWithOneBlock (walked begins_in place k ns o x found)
walked_so place k ns o x None = tt
walked_so place k ns o x (Some (nodes.Dir d)) = walk_so d ns o
walked_so place k ns o x (Some (nodes.File f)) = tt

-- at a reply, and at the start
pub one_block_after : (c : Counts) (m : Memory) (op : OpId) (p : Program) (x : AnyReply) → RunsWithOneBlock p
    → RunsWithOneBlock (went_on c m op p x)
one_block_after c m op (Goes (Way d n ns o)) x so =
    walked_so (request_place c (walk_asks {O = Operation} operations c m op (Way d n ns o))) (key_in d n) ns o x (as_found x)
one_block_after c m op (Goes (There s)) x so =
    there_so _ (operation_so c m op s (walk_asks {O = Operation} operations c m op (There s)) x so)
one_block_after c m op (Comes a) x so = tt

started_so : (counts : Counts) (m : Memory) (b : Begun) → RunsWithOneBlock (started counts m b)
started_so counts m (Walks p o) = walk_so root p o
started_so counts m (Appends p bytes) = there_so _ (append_so (append_starts counts m p bytes) (begins_of_one_block counts m p bytes))
started_so counts m LacksName = tt
started_so counts m WantsFile = tt

pub one_block_at_start : (counts : Counts) (m : Memory) (c : Command) → RunsWithOneBlock (started counts m (begun c))
one_block_at_start counts m c = started_so counts m (begun c)
