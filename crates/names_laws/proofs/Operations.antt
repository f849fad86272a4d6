-- the laws of all operations as one part, each by a line, and what each begins with
use Rattle.std.proofs.Common.{◌≡◌, Some, None, refl}
use Rattle.tect_ids.specs.declared.ids.DirId.{DirId}
use Rattle.tect_ids.specs.declared.ids.OpId.{OpId}
use Rattle.program_forms.specs.Memories.{Memory}
use Rattle.program_rules.specs.declared.operation.Operation.{Operation}
use Rattle.program_rules.specs.declared.operation.Operation.TheVariants as operation
use Rattle.program_rules.specs.declared.operation.OperationState.{OperationState}
use Rattle.program_rules.specs.declared.operation.OperationState.TheVariants.{Look, List, Make, Delete, Rename, Open, Append, Blocks, Read}
use Rattle.program_rules.specs.declared.operation.OperationState.TheVariants.{Seal}
use Rattle.program_rules.specs.Operations.{begins_in, operations, operation_decided}
use Rattle.store_pasts.specs.Worlds.{World}
use Rattle.part_laws.specs.Parts.{PartLaws}
use Rattle.part_laws.specs.Walks.{OnItsWay, BeginsLaws}
use Rattle.part_laws.proofs.States.{LawsIn, part_laws, laws_in}
use Rattle.part_laws.proofs.Within.{IsWithin, laws_within}
use Rattle.names_laws.specs.Known.{OperationKnows, operation_known, operation_deciding}
use Rattle.file_laws.specs.Known.{open_known, open_deciding, append_known, append_deciding, blocks_known, blocks_deciding, read_known}
use Rattle.file_laws.specs.Known.{read_deciding}
use Rattle.file_laws.proofs.Open.{open_laws}
use Rattle.file_laws.proofs.Append.{append_laws}
use Rattle.file_laws.proofs.Blocks.{blocks_laws}
use Rattle.file_laws.proofs.Read.{read_laws}
use Rattle.file_laws.proofs.Begins.{open_begins, blocks_begins, read_begins}
use Rattle.names_laws.proofs.Look.{reading_known, reading_deciding, look_laws, list_laws}
use Rattle.names_laws.proofs.Make.{make_known, make_deciding, make_laws}
use Rattle.names_laws.proofs.Delete.{delete_known, delete_deciding, delete_laws}
use Rattle.names_laws.proofs.Rename.{rename_known, rename_deciding, rename_laws}
use Rattle.names_laws.proofs.Seal.{seal_known, seal_deciding, seal_laws}

look_within : IsWithin Look reading_deciding reading_known operation_deciding operation_known
look_within = record {
  decided = λ s. refl;
  knows = λ w op m s k. k;
  ends = λ w a e. e;
}

list_within : IsWithin List reading_deciding reading_known operation_deciding operation_known
list_within = record {
  decided = λ s. refl;
  knows = λ w op m s k. k;
  ends = λ w a e. e;
}

make_within : IsWithin Make make_deciding make_known operation_deciding operation_known
make_within = record {
  decided = λ s. refl;
  knows = λ w op m s k. k;
  ends = λ w a e. e;
}

delete_within : IsWithin Delete delete_deciding delete_known operation_deciding operation_known
delete_within = record {
  decided = λ s. refl;
  knows = λ w op m s k. k;
  ends = λ w a e. e;
}

rename_within : IsWithin Rename rename_deciding rename_known operation_deciding operation_known
rename_within = record {
  decided = λ s. refl;
  knows = λ w op m s k. k;
  ends = λ w a e. e;
}

open_within : IsWithin Open open_deciding open_known operation_deciding operation_known
open_within = record {
  decided = λ s. refl;
  knows = λ w op m s k. k;
  ends = λ w a e. e;
}

append_within : IsWithin Append append_deciding append_known operation_deciding operation_known
append_within = record {
  decided = λ s. refl;
  knows = λ w op m s k. k;
  ends = λ w a e. e;
}

blocks_within : IsWithin Blocks blocks_deciding blocks_known operation_deciding operation_known
blocks_within = record {
  decided = λ s. refl;
  knows = λ w op m s k. k;
  ends = λ w a e. e;
}

read_within : IsWithin Read read_deciding read_known operation_deciding operation_known
read_within = record {
  decided = λ s. refl;
  knows = λ w op m s k. k;
  ends = λ w a e. e;
}

seal_within : IsWithin Seal seal_deciding seal_known operation_deciding operation_known
seal_within = record {
  decided = λ s. refl;
  knows = λ w op m s k. k;
  ends = λ w a e. e;
}

operations_at : (s : OperationState) → LawsIn operations operation_deciding operation_known s
operations_at (Look s) = laws_within Look look_within (laws_in look_laws s)
operations_at (List s) = laws_within List list_within (laws_in list_laws s)
operations_at (Make s) = laws_within Make make_within (laws_in make_laws s)
operations_at (Delete s) = laws_within Delete delete_within (laws_in delete_laws s)
operations_at (Rename s) = laws_within Rename rename_within (laws_in rename_laws s)
operations_at (Open s) = laws_within Open open_within (laws_in open_laws s)
operations_at (Append s) = laws_within Append append_within (laws_in append_laws s)
operations_at (Blocks s) = laws_within Blocks blocks_within (laws_in blocks_laws s)
operations_at (Read s) = laws_within Read read_within (laws_in read_laws s)
operations_at (Seal s) = laws_within Seal seal_within (laws_in seal_laws s)

pub operations_laws : PartLaws operations operation_deciding operation_known
operations_laws = part_laws operations_at (λ by w v a l e. e)

-- ---- where each begins

begins_undecided : (o : Operation) (d : DirId) → operation_decided (begins_in o d) ≡ None
begins_undecided (operation.Look n) d = refl
begins_undecided operation.List d = refl
begins_undecided (operation.Make kind n) d = refl
begins_undecided (operation.Delete n) d = refl
begins_undecided (operation.Rename from to) d = refl
begins_undecided (operation.Open path n) d = refl
begins_undecided (operation.Blocks n) d = refl
begins_undecided (operation.Read n) d = refl
begins_undecided (operation.Seal n) d = refl

begins_knows : (w : World) (op : OpId) (m : Memory) (o : Operation) (d : DirId) → OnItsWay w op m d → OperationKnows w op m (begins_in o d)
begins_knows w op m (operation.Look n) d k = k.new
begins_knows w op m operation.List d k = k.new
begins_knows w op m (operation.Make kind n) d k = k
begins_knows w op m (operation.Delete n) d k = k.new
begins_knows w op m (operation.Rename from to) d k = k
begins_knows w op m (operation.Open path n) d k = open_begins w op m path n d k
begins_knows w op m (operation.Blocks n) d k = blocks_begins w op m n d k
begins_knows w op m (operation.Read n) d k = read_begins w op m n d k
begins_knows w op m (operation.Seal None) d k = k.new
begins_knows w op m (operation.Seal (Some n)) d k = k.new

pub begins_laws : BeginsLaws begins_in operation_deciding operation_known
begins_laws = record {
  undecided = begins_undecided;
  knows = λ w op m o d k. begins_knows w op m o d k;
  plain = λ w a e. e;
}
