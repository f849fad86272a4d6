-- All operations as one part, and how each begins. Each has a line in every function; those on the contents of files have their rules in
-- `file_rules`.
use Rattle.std.specs.Prelude.{Option, None, List}
use Rattle.tect_ids.specs.declared.ids.Counts.{Counts}
use Rattle.tect_ids.specs.declared.ids.DirId.{DirId}
use Rattle.tect_ids.specs.declared.ids.OpId.{OpId}
use Rattle.tect_ids.specs.declared.answer.Answer.{Answer}
use Rattle.store_rules.specs.declared.any.AnyReq.{AnyReq}
use Rattle.store_rules.specs.declared.any.AnyReply.{AnyReply}
use Rattle.store_rules.specs.Names.{key_in}
use Rattle.program_forms.specs.Memories.{Memory, Learnt}
use Rattle.program_forms.specs.Kinds.{Turned}
use Rattle.program_parts.specs.declared.next.Next.{Next}
use Rattle.program_parts.specs.Parts.{Part, within, turned_within}
use Rattle.file_rules.specs.Open.{opening, open_starts, open_decided}
use Rattle.file_rules.specs.Append.{append, append_decided}
use Rattle.file_rules.specs.Blocks.{blocks, blocks_starts, blocks_decided}
use Rattle.file_rules.specs.Read.{read, read_starts, read_decided}
use Rattle.program_rules.specs.declared.states.Make.TheVariants as making
use Rattle.program_rules.specs.declared.states.Delete.TheVariants as deleting
use Rattle.program_rules.specs.declared.states.Rename.TheVariants as renaming
use Rattle.program_rules.specs.declared.operation.Operation.{Operation}
use Rattle.program_rules.specs.declared.operation.Operation.TheVariants as operation
use Rattle.program_rules.specs.declared.operation.OperationState.{OperationState}
use Rattle.program_rules.specs.declared.operation.OperationState.TheVariants.{Look, List as Listing, Make, Delete, Rename}
use Rattle.program_rules.specs.declared.operation.OperationState.TheVariants.{Open, Append, Blocks, Read, Seal}
use Rattle.program_rules.specs.Look.{look, look_starts}
use Rattle.program_rules.specs.List.{list}
use Rattle.program_rules.specs.Make.{make, make_decided}
use Rattle.program_rules.specs.Delete.{delete, delete_decided}
use Rattle.program_rules.specs.Rename.{rename, rename_decided}
use Rattle.program_rules.specs.Seal.{seal, seal_starts, seal_decided}

-- the operation as it begins in that directory
abbrev pub begins_in : Operation → DirId → OperationState
begins_in (operation.Look n) d = Look (look_starts n d)
begins_in operation.List d = Listing record { dir = d }
begins_in (operation.Make kind n) d = Make (making.New kind d n)
begins_in (operation.Delete n) d = Delete (deleting.Unbind (key_in d n))
begins_in (operation.Rename from to) d = Rename (renaming.Find d from to)
begins_in (operation.Open path n) d = Open (open_starts path n d)
begins_in (operation.Blocks n) d = Blocks (blocks_starts n d)
begins_in (operation.Read n) d = Read (read_starts n d)
begins_in (operation.Seal n) d = Seal (seal_starts n d)

abbrev pub operation_turns : Counts → Memory → OpId → OperationState → Turned (Next OperationState Answer)
operation_turns c m op (Look s) = turned_within Look (look.turns c m op s)
operation_turns c m op (Listing s) = turned_within Listing (list.turns c m op s)
operation_turns c m op (Make s) = turned_within Make (make.turns c m op s)
operation_turns c m op (Delete s) = turned_within Delete (delete.turns c m op s)
operation_turns c m op (Rename s) = turned_within Rename (rename.turns c m op s)
operation_turns c m op (Open s) = turned_within Open (opening.turns c m op s)
operation_turns c m op (Append s) = turned_within Append (append.turns c m op s)
operation_turns c m op (Blocks s) = turned_within Blocks (blocks.turns c m op s)
operation_turns c m op (Read s) = turned_within Read (read.turns c m op s)
operation_turns c m op (Seal s) = turned_within Seal (seal.turns c m op s)

abbrev pub operation_asks : Counts → Memory → OpId → OperationState → AnyReq
operation_asks c m op (Look s) = look.asks c m op s
operation_asks c m op (Listing s) = list.asks c m op s
operation_asks c m op (Make s) = make.asks c m op s
operation_asks c m op (Delete s) = delete.asks c m op s
operation_asks c m op (Rename s) = rename.asks c m op s
operation_asks c m op (Open s) = opening.asks c m op s
operation_asks c m op (Append s) = append.asks c m op s
operation_asks c m op (Blocks s) = blocks.asks c m op s
operation_asks c m op (Read s) = read.asks c m op s
operation_asks c m op (Seal s) = seal.asks c m op s

abbrev pub operation_hears : Counts → Memory → OpId → OperationState → AnyReq → AnyReply → Next OperationState Answer
operation_hears c m op (Look s) q x = within Look (look.hears c m op s q x)
operation_hears c m op (Listing s) q x = within Listing (list.hears c m op s q x)
operation_hears c m op (Make s) q x = within Make (make.hears c m op s q x)
operation_hears c m op (Delete s) q x = within Delete (delete.hears c m op s q x)
operation_hears c m op (Rename s) q x = within Rename (rename.hears c m op s q x)
operation_hears c m op (Open s) q x = within Open (opening.hears c m op s q x)
operation_hears c m op (Append s) q x = within Append (append.hears c m op s q x)
operation_hears c m op (Blocks s) q x = within Blocks (blocks.hears c m op s q x)
operation_hears c m op (Read s) q x = within Read (read.hears c m op s q x)
operation_hears c m op (Seal s) q x = within Seal (seal.hears c m op s q x)

abbrev pub operation_learns : OpId → OperationState → AnyReq → AnyReply → List Learnt
operation_learns op (Look s) q x = look.learns op s q x
operation_learns op (Listing s) q x = list.learns op s q x
operation_learns op (Make s) q x = make.learns op s q x
operation_learns op (Delete s) q x = delete.learns op s q x
operation_learns op (Rename s) q x = rename.learns op s q x
operation_learns op (Open s) q x = opening.learns op s q x
operation_learns op (Append s) q x = append.learns op s q x
operation_learns op (Blocks s) q x = blocks.learns op s q x
operation_learns op (Read s) q x = read.learns op s q x
operation_learns op (Seal s) q x = seal.learns op s q x

abbrev pub operations : Part OperationState Answer
operations = record { turns = operation_turns; asks = operation_asks; hears = operation_hears; learns = operation_learns }

-- its answer, once it can't change any more
abbrev pub operation_decided : OperationState → Option Answer
operation_decided (Look s) = None
operation_decided (Listing s) = None
operation_decided (Make s) = make_decided s
operation_decided (Delete s) = delete_decided s
operation_decided (Rename s) = rename_decided s
operation_decided (Open s) = open_decided s
operation_decided (Append s) = append_decided s
operation_decided (Blocks s) = blocks_decided s
operation_decided (Read s) = read_decided s
operation_decided (Seal s) = seal_decided s
