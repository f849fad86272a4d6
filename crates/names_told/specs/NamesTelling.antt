-- What the history tells of each operation before its answer is decided, and what explains the answer; and how many transactions a command
-- takes: a look for each name of its path, and few others. Of the operations on the contents of files a crate of their own tells.
use Rattle.std.specs.Prelude.{◌≡◌, Bool, true, false, Some, None, List, [], ℕ, ◌⊎◌}
use Rattle.tect_ids.specs.declared.ids.Counts.{Counts}
use Rattle.tect_ids.specs.declared.ids.DirId.{DirId}
use Rattle.tect_ids.specs.declared.ids.Node.{Node}
use Rattle.tect_ids.specs.declared.ids.OpId.{OpId}
use Rattle.tect_ids.specs.declared.command.Command.{Command}
use Rattle.tect_ids.specs.Numbers.{root}
use Rattle.tect_ids.specs.declared.ids.Node.TheVariants as nodes
use Rattle.store_rules.specs.declared.blocks.BlockReq.TheVariants as blocks
use Rattle.store_rules.specs.declared.disks.DiskReq.TheVariants as disks
use Rattle.store_rules.specs.declared.any.AnyReq.{AnyReq}
use Rattle.store_rules.specs.declared.any.AnyReq.TheVariants as any
use Rattle.store_rules.specs.declared.any.AnyReply.{AnyReply}
use Rattle.store_rules.specs.Names.{key_in}
use Rattle.tree_model.specs.declared.step.TreeReply.TheVariants.{Ok}
use Rattle.tree_model.specs.declared.step.TreeStep.TheVariants as step
use Rattle.tree_model.specs.declared.step.StepValue.TheVariants as shown
use Rattle.file_rules.specs.declared.states.Read.{Read}
use Rattle.file_rules.specs.declared.states.Read.TheVariants as reading
use Rattle.program_rules.specs.declared.states.Look.{Look}
use Rattle.program_rules.specs.declared.states.NewNode.{NewNode}
use Rattle.program_rules.specs.declared.states.Make.{Make}
use Rattle.program_rules.specs.declared.states.Delete.{Delete}
use Rattle.program_rules.specs.declared.states.Rename.{Rename}
use Rattle.program_rules.specs.declared.states.Seal.{Seal}
use Rattle.program_rules.specs.declared.operation.Operation.{Operation}
use Rattle.program_rules.specs.declared.operation.OperationState.{OperationState}
use Rattle.program_rules.specs.NamePairs.{OldAndNew}
use Rattle.program_rules.specs.Served.{Walks, begun, Program}
use Rattle.program_rules.specs.declared.states.List.{List as Listing}
use Rattle.program_rules.specs.declared.states.Look.TheVariants as looking
use Rattle.program_rules.specs.declared.states.NewNode.TheVariants as new
use Rattle.program_rules.specs.declared.states.Make.TheVariants as making
use Rattle.program_rules.specs.declared.states.Delete.TheVariants as deleting
use Rattle.program_rules.specs.declared.states.Rename.TheVariants as renaming
use Rattle.program_rules.specs.declared.states.Seal.TheVariants as sealing
use Rattle.program_rules.specs.declared.operation.Operation.TheVariants as operation
use Rattle.program_rules.specs.declared.operation.OperationState.TheVariants as states
use Rattle.world_runs.specs.declared.event.Event.{Event}
use Rattle.claim_words.specs.Bounds.{most_others}
use Rattle.claim_words.specs.Points.{way, most_looks, of_op, Walked, Seen}
use Rattle.claim_words.specs.TreeSteps.{tree_steps}
use Rattle.fall_laws.specs.Bounding.{Many, Bounding, none, one_if}
use Rattle.fall_laws.specs.Parts.{next_bounding, walk_bounding, release_left}
use Rattle.telling_laws.specs.Telling.{Telling}
use Rattle.telling_laws.specs.Parts.{next_telling, walk_telling}
use Rattle.files_told.specs.FilesTelling.{OpenBefore, AppendBefore, BlocksBefore, ReadBefore, files_why}
use Rattle.files_told.specs.FilesTelling.{open_left, append_left, blocks_left, read_left, read_grows}

-- the operation is the command's, behind the walk along its path
abbrev pub Fits : Command → Operation → Type 0
Fits c o = begun c ≡ Walks (way c) o

-- the command's walk led to that directory, and the operation is the command's
pub record CameTo (h : List Event) (op : OpId) (c : Command) (d : DirId) (o : Operation) : Type 0 where
  pub walked : Walked root (way c) (of_op op (tree_steps h)) d []
  pub fits : Fits c o

abbrev pub LookBefore : List Event → OpId → Command → Look → Type 0
LookBefore h op c (looking.Check d) = CameTo h op c d (operation.Look None)
LookBefore h op c (looking.Entry k) = CameTo h op c k.dir (operation.Look (Some k.name))

-- the node is of that kind
abbrev pub IsOfKind : NewNode → Node → Type 0
IsOfKind new.File (nodes.File f) = Unit {0}
IsOfKind new.Dir (nodes.Dir d) = Unit {0}
IsOfKind kind n = ⊥

abbrev pub MakeBefore : List Event → OpId → Command → Make → Type 0
MakeBefore h op c (making.New kind d n) = CameTo h op c d (operation.Make kind n)
MakeBefore h op c (making.Bind kind k n hold) = CameTo h op c k.dir (operation.Make kind k.name) × IsOfKind kind n
MakeBefore h op c (making.Release r) = Unit {0}

abbrev pub DeleteBefore : List Event → OpId → Command → Delete → Type 0
DeleteBefore h op c (deleting.Unbind k) = CameTo h op c k.dir (operation.Delete k.name)
DeleteBefore h op c (deleting.Release r) = Unit {0}

-- a rename saw its node under the old name
pub record SawSource (h : List Event) (op : OpId) (c : Command) (d : DirId) (p : OldAndNew) (n : Node) : Type 0 where
  pub came : CameTo h op c d (operation.Rename p.from p.to)
  pub seen : Seen (of_op op (tree_steps h)) (step.Look (key_in d p.from)) (Ok (shown.Node n))

-- a path without names led to that directory
pub record SealsDir (h : List Event) (op : OpId) (c : Command) (n : Node) : Type 0 where
  pub dir : DirId
  pub here : n ≡ nodes.Dir dir
  pub came : CameTo h op c dir (operation.Seal None)

-- that node was seen under the path's last name
pub record SealsFound (h : List Event) (op : OpId) (c : Command) (n : Node) : Type 0 where
  pub dir : DirId
  pub name : List ℕ
  pub came : CameTo h op c dir (operation.Seal (Some name))
  pub seen : Seen (of_op op (tree_steps h)) (step.Look (key_in dir name)) (Ok (shown.Node n))

abbrev pub RenameBefore : List Event → OpId → Command → Rename → Type 0
RenameBefore h op c (renaming.Find d from to) = CameTo h op c d (operation.Rename from to)
RenameBefore h op c (renaming.Grant d p n) = SawSource h op c d p n
RenameBefore h op c (renaming.Swap d p n hold) = SawSource h op c d p n
RenameBefore h op c (renaming.Release r) = Unit {0}

-- the root, to which a path without names led, or what was seen under the path's last name
abbrev pub SealBefore : List Event → OpId → Command → Seal → Type 0
SealBefore h op c (sealing.Find k) = CameTo h op c k.dir (operation.Seal (Some k.name))
SealBefore h op c (sealing.Close n) = SealsDir h op c n ⊎ SealsFound h op c n

-- ---- all of them

abbrev pub OperationBefore : Counts → List Event → OpId → Command → OperationState → Type 0
OperationBefore counts h op c (states.Look s) = LookBefore h op c s
OperationBefore counts h op c (states.List s) = CameTo h op c s.dir operation.List
OperationBefore counts h op c (states.Make s) = MakeBefore h op c s
OperationBefore counts h op c (states.Delete s) = DeleteBefore h op c s
OperationBefore counts h op c (states.Rename s) = RenameBefore h op c s
OperationBefore counts h op c (states.Open s) = OpenBefore h op c s
OperationBefore counts h op c (states.Append s) = AppendBefore counts h op c s
OperationBefore counts h op c (states.Blocks s) = BlocksBefore h op c s
OperationBefore counts h op c (states.Read s) = ReadBefore h op c s
OperationBefore counts h op c (states.Seal s) = SealBefore h op c s

abbrev pub operation_telling : Counts → Telling OperationState
operation_telling counts = record { Before = OperationBefore counts; because = files_why counts }

-- of a running command, which first walks
abbrev pub names_telling : Counts → Telling Program
names_telling counts = next_telling (walk_telling Fits (operation_telling counts))

-- ---- how many transactions it takes

-- none of them a look
abbrev pub others : ℕ → Many
others n = record { looks = 0; others = n }

abbrev pub look_left : Look → Many
look_left s = record { looks = 1; others = 0 }

abbrev pub list_left : Listing → Many
list_left s = others 1

-- what is made is bound, and a hold may be released
abbrev pub make_left : Make → Many
make_left (making.New kind d n) = others 3
make_left (making.Bind kind k n h) = others 2
make_left (making.Release r) = release_left r

-- the hold of what was unbound is released
abbrev pub delete_left : Delete → Many
delete_left (deleting.Unbind k) = others 2
delete_left (deleting.Release r) = release_left r

-- a grant, a swap, and two holds may be released
abbrev pub rename_left : Rename → Many
rename_left (renaming.Find d from to) = record { looks = 1; others = 4 }
rename_left (renaming.Grant d p n) = others 4
rename_left (renaming.Swap d p n h) = others 3
rename_left (renaming.Release r) = release_left r

-- a look, and the seal
abbrev pub seal_left : Seal → Many
seal_left (sealing.Find k) = record { looks = 1; others = 1 }
seal_left (sealing.Close n) = others 1

-- ---- all of them

-- Of a read it is told in two ways: beside its readings of blocks and chunks, as many as there are; and by what its replies list.
abbrev pub asked_left : Read → Many
asked_left (reading.Find k) = record { looks = 1; others = 1 }
asked_left (reading.List f) = others 1
asked_left (reading.Locate r b) = none
asked_left (reading.Fetch r t) = none

-- at most how many are to come
abbrev pub operation_left : (Read → Many) → OperationState → Many
operation_left of_read (states.Look s) = look_left s
operation_left of_read (states.List s) = list_left s
operation_left of_read (states.Make s) = make_left s
operation_left of_read (states.Delete s) = delete_left s
operation_left of_read (states.Rename s) = rename_left s
operation_left of_read (states.Open s) = open_left s
operation_left of_read (states.Append s) = append_left s
operation_left of_read (states.Blocks s) = blocks_left s
operation_left of_read (states.Read s) = of_read s
operation_left of_read (states.Seal s) = seal_left s

-- the most that an operation takes
abbrev pub most_of : Operation → Many
most_of (operation.Look n) = record { looks = 1; others = 0 }
most_of operation.List = others 1
most_of (operation.Make kind n) = others 3
most_of (operation.Delete n) = others 2
most_of (operation.Rename from to) = record { looks = 1; others = 4 }
most_of (operation.Open path n) = record { looks = 1; others = 1 }
most_of (operation.Blocks n) = record { looks = 1; others = 1 }
most_of (operation.Read n) = record { looks = 1; others = 1 }
most_of (operation.Seal n) = record { looks = 1; others = 1 }

-- ---- of a running command, which first walks

-- whether the request asks where a block lies, or for a chunk
abbrev pub reads_block : AnyReq → Bool
reads_block (any.Block (blocks.GetBlock b)) = true
reads_block (any.Disk (disks.Get c)) = true
reads_block q = false

-- these requests add themselves
abbrev pub reading_adds : Counts → AnyReq → AnyReply → Many
reading_adds counts q x = others (one_if (reads_block q))

abbrev pub commands_bounding : (Read → Many) → (Counts → AnyReq → AnyReply → Many) → Bounding Program
commands_bounding of_read grows = next_bounding
    (walk_bounding most_of record { left = operation_left of_read; grown = λ c m op s. none; grows = grows })
    (λ counts c. Some record { looks = most_looks c; others = most_others counts c })

-- of all commands, where a reading of a block or a chunk adds itself
abbrev pub names_bounding : Bounding Program
names_bounding = commands_bounding asked_left reading_adds

-- of all commands, where a listing of blocks, and of a block's rows, adds what it lists
abbrev pub reading_bounding : Bounding Program
reading_bounding = commands_bounding read_left read_grows
