-- What the history tells of all operations as one part, each by a line, and of what each begins with.
use Rattle.std.proofs.Common.{◌≡◌, ℕ, Some, None, List, [], refl, inl}
use Rattle.tect_ids.specs.declared.ids.Counts.{Counts}
use Rattle.tect_ids.specs.declared.ids.DirId.{DirId}
use Rattle.tect_ids.specs.declared.ids.OpId.{OpId}
use Rattle.tect_ids.specs.declared.command.Command.{Command}
use Rattle.tect_ids.specs.Numbers.{root}
use Rattle.file_rules.specs.Blocks.{blocks_starts}
use Rattle.file_rules.specs.Open.{open_starts}
use Rattle.file_rules.specs.Read.{read_starts}
use Rattle.program_rules.specs.declared.operation.Operation.{Operation}
use Rattle.program_rules.specs.declared.operation.Operation.TheVariants as operation
use Rattle.program_rules.specs.declared.operation.OperationState.{OperationState}
use Rattle.program_rules.specs.declared.operation.OperationState.TheVariants as states
use Rattle.program_rules.specs.Operations.{begins_in, operations, operation_decided}
use Rattle.world_runs.specs.declared.event.Event.{Event}
use Rattle.claim_words.specs.Points.{way, of_op, Walked}
use Rattle.claim_words.specs.TreeSteps.{tree_steps}
use Rattle.telling_laws.specs.Parts.{PartTells, WalkTells}
use Rattle.telling_laws.proofs.PartsTell.{TellsIn, part_tells, tells_in, tells_within}
use Rattle.names_laws.specs.Known.{operation_deciding}
use Rattle.files_told.specs.FilesTelling.{OpenBefore, BlocksBefore, ReadBefore}
use Rattle.files_told.proofs.Lasting.{why_lasts}
use Rattle.files_told.proofs.Open.{open_tells}
use Rattle.files_told.proofs.Append.{append_tells}
use Rattle.files_told.proofs.Blocks.{blocks_tell}
use Rattle.files_told.proofs.Read.{read_tells}
use Rattle.names_told.specs.NamesTelling.{Fits, CameTo, OperationBefore, operation_telling}
use Rattle.names_told.proofs.Commands.{of_command}
use Rattle.names_told.proofs.Look.{look_tells, list_tells}
use Rattle.names_told.proofs.Make.{make_tells}
use Rattle.names_told.proofs.Delete.{delete_tells}
use Rattle.names_told.proofs.Rename.{rename_tells}
use Rattle.names_told.proofs.Seal.{seal_tells}

operations_at : (counts : Counts) (s : OperationState) → TellsIn counts operations operation_deciding (operation_telling counts) s
operations_at counts (states.Look s) =
    tells_within states.Look record { decided = λ t. refl; before = λ h op c t b. b; because = λ h op c a b. inl b } (tells_in (look_tells counts) s)
operations_at counts (states.List s) =
    tells_within states.List record { decided = λ t. refl; before = λ h op c t b. b; because = λ h op c a b. inl b } (tells_in (list_tells counts) s)
operations_at counts (states.Make s) =
    tells_within states.Make record { decided = λ t. refl; before = λ h op c t b. b; because = λ h op c a b. inl b } (tells_in (make_tells counts) s)
operations_at counts (states.Delete s) =
    tells_within states.Delete record { decided = λ t. refl; before = λ h op c t b. b; because = λ h op c a b. inl b } (tells_in (delete_tells counts) s)
operations_at counts (states.Rename s) =
    tells_within states.Rename record { decided = λ t. refl; before = λ h op c t b. b; because = λ h op c a b. inl b } (tells_in (rename_tells counts) s)
operations_at counts (states.Open s) =
    tells_within states.Open record { decided = λ t. refl; before = λ h op c t b. b; because = λ h op c a b. b } (tells_in (open_tells counts) s)
operations_at counts (states.Append s) =
    tells_within states.Append record { decided = λ t. refl; before = λ h op c t b. b; because = λ h op c a b. b } (tells_in (append_tells counts) s)
operations_at counts (states.Blocks s) =
    tells_within states.Blocks record { decided = λ t. refl; before = λ h op c t b. b; because = λ h op c a b. b } (tells_in (blocks_tell counts) s)
operations_at counts (states.Read s) =
    tells_within states.Read record { decided = λ t. refl; before = λ h op c t b. b; because = λ h op c a b. b } (tells_in (read_tells counts) s)
operations_at counts (states.Seal s) =
    tells_within states.Seal record { decided = λ t. refl; before = λ h op c t b. b; because = λ h op c a b. inl b } (tells_in (seal_tells counts) s)

pub operations_tell : (counts : Counts) → PartTells counts operations operation_deciding (operation_telling counts)
operations_tell counts = part_tells (operations_at counts) (why_lasts counts)

-- ---- where each begins

begins_undecided : (o : Operation) (d : DirId) → operation_decided (begins_in o d) ≡ None
begins_undecided (operation.Look n) d = refl
begins_undecided operation.List d = refl
begins_undecided (operation.Make kind n) d = refl
begins_undecided (operation.Delete n) d = refl
begins_undecided (operation.Rename from to) d = refl
begins_undecided (operation.Open path n) d = refl
begins_undecided (operation.Blocks n) d = refl
begins_undecided (operation.Read n) d = refl
begins_undecided (operation.Seal n) d = refl

-- an operation on a file's contents is of its command
open_came : (h : List Event) (op : OpId) (p : List (List ℕ)) (n : List ℕ) (d : DirId) (c : Command)
    → CameTo h op c d (operation.Open p n) → OpenBefore h op c (open_starts p n d)
open_came h op p n d c came = of_command
    (λ k. Walked root (way k) (of_op op (tree_steps h)) d [] → OpenBefore h op k (open_starts p n d)) (operation.Open p n)
    (λ last walked. record { is = refl; walked = walked; last = last }) c came.fits came.walked

blocks_came : (h : List Event) (op : OpId) (n : List ℕ) (d : DirId) (c : Command) → CameTo h op c d (operation.Blocks n)
    → BlocksBefore h op c (blocks_starts n d)
blocks_came h op n d c came = of_command
    (λ k. Walked root (way k) (of_op op (tree_steps h)) d [] → BlocksBefore h op k (blocks_starts n d)) (operation.Blocks n)
    (λ p last walked. (p, record { is = refl; walked = walked; last = last })) c came.fits came.walked

read_came : (h : List Event) (op : OpId) (n : List ℕ) (d : DirId) (c : Command) → CameTo h op c d (operation.Read n)
    → ReadBefore h op c (read_starts n d)
read_came h op n d c came = of_command
    (λ k. Walked root (way k) (of_op op (tree_steps h)) d [] → ReadBefore h op k (read_starts n d)) (operation.Read n)
    (λ p last walked. (p, record { is = refl; walked = walked; last = last })) c came.fits came.walked

begins_came : (counts : Counts) (h : List Event) (op : OpId) (c : Command) (o : Operation) (d : DirId) → CameTo h op c d o
    → OperationBefore counts h op c (begins_in o d)
begins_came counts h op c (operation.Look None) d came = came
begins_came counts h op c (operation.Look (Some n)) d came = came
begins_came counts h op c operation.List d came = came
begins_came counts h op c (operation.Make kind n) d came = came
begins_came counts h op c (operation.Delete n) d came = came
begins_came counts h op c (operation.Rename from to) d came = came
begins_came counts h op c (operation.Open path n) d came = open_came h op path n d c came
begins_came counts h op c (operation.Blocks n) d came = blocks_came h op n d c came
begins_came counts h op c (operation.Read n) d came = read_came h op n d c came
begins_came counts h op c (operation.Seal None) d came = inl record { dir = d; here = refl; came = came }
begins_came counts h op c (operation.Seal (Some n)) d came = came

pub walks_tell : (counts : Counts) → WalkTells begins_in Fits operation_deciding (operation_telling counts)
walks_tell counts = record {
  undecided = begins_undecided;
  before = λ h op c o d walked fits. begins_came counts h op c o d record { walked = walked; fits = fits };
  point = λ h op c a point. inl (inl (inl point));
}
