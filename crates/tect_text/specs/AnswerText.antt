-- The words of each answer.
use Rattle.std.specs.Prelude.{ℕ, List, [], ◌∷◌, ◌++◌, length, codes}
use Rattle.std.specs.List.{flat_map}
use Rattle.std.specs.Fmt.{decimal}
use Rattle.script_words.specs.WordText.{hex_text}
use Rattle.tect_ids.specs.declared.answer.Answer.{Answer}
use Rattle.tect_ids.specs.declared.answer.Answer.TheVariants as answers
use Rattle.tect_ids.specs.declared.values.Listed.{Listed}
use Rattle.tect_ids.specs.declared.values.RowPart.{RowPart}
use Rattle.tect_text.specs.IdText.{op_text, node_text, node_or_none}

-- an entry: its name, kind and identifier
abbrev pub listed_text : Listed → List ℕ
listed_text entry = codes " " ++ entry.name ++ codes " " ++ node_text entry.node

-- a block and its length
abbrev pub row_text : RowPart → List ℕ
row_text row = codes " " ++ decimal row.blk.0 ++ codes " " ++ decimal row.len

-- nothing where there are no bytes
abbrev pub bytes_text : List ℕ → List ℕ
bytes_text [] = []
bytes_text (byte ∷ bytes) = codes " " ++ hex_text (byte ∷ bytes)

-- what a sweep removed
abbrev pub removed_text : ℕ → ℕ → ℕ → ℕ → List ℕ
removed_text dirs files blocks chunks =
    codes "dirs " ++ decimal dirs ++ codes " files " ++ decimal files ++ codes " blocks " ++ decimal blocks
    ++ codes " chunks " ++ decimal chunks

-- an answer of one word alone
abbrev pub bare_text : Answer → List ℕ
bare_text answers.NoDir = codes "no-dir"
bare_text answers.NoName = codes "no-name"
bare_text answers.NoFile = codes "no-file"
bare_text answers.Exists = codes "exists"
bare_text answers.IsDir = codes "is-dir"
bare_text answers.NotDir = codes "not-dir"
bare_text answers.NotEmpty = codes "not-empty"
bare_text answers.Sealed = codes "sealed"
bare_text answers.NotSealed = codes "not-sealed"
bare_text answers.NotOpen = codes "not-open"
bare_text answers.NoMemory = codes "no-memory"
bare_text answers.Stopped = codes "stopped"
bare_text answer = []

-- a refusal that tells numbers
abbrev pub number_refusal_text : Answer → List ℕ
number_refusal_text (answers.Below dir) = codes "below " ++ decimal dir.0
number_refusal_text (answers.Deep dir) = codes "deep " ++ decimal dir.0
number_refusal_text (answers.Full id) = codes "full " ++ decimal id
number_refusal_text (answers.FewDisks have need) = codes "few-disks " ++ decimal have ++ codes " " ++ decimal need
number_refusal_text (answers.DiskLost disk) = codes "disk-lost " ++ decimal disk.0
number_refusal_text (answers.Lost blk) = codes "lost " ++ decimal blk.0
number_refusal_text (answers.Moving blk first last) = codes "moving " ++ decimal blk.0 ++ codes " " ++ decimal first ++ codes " " ++ decimal
    last
number_refusal_text (answers.Gone blk) = codes "gone " ++ decimal blk.0
number_refusal_text (answers.HistoryFull place) = codes "history-full " ++ decimal place.0
number_refusal_text (answers.Odd place) = codes "odd " ++ decimal place.0
number_refusal_text answer = bare_text answer

-- a refusal that tells an op
abbrev pub op_refusal_text : Answer → List ℕ
op_refusal_text (answers.Pending op) = codes "pending " ++ op_text op
op_refusal_text (answers.Closing op) = codes "closing " ++ op_text op
op_refusal_text (answers.Frozen op) = codes "frozen " ++ op_text op
op_refusal_text (answers.Turn op) = codes "turn " ++ op_text op
op_refusal_text (answers.TokenChanged now) = codes "token-changed " ++ op_text now
op_refusal_text (answers.Cancelled op) = codes "cancelled " ++ op_text op
op_refusal_text answer = number_refusal_text answer

-- what was swept or lost
abbrev pub swept_text : Answer → List ℕ
swept_text (answers.Swept dirs files blocks chunks) = codes "ok " ++ removed_text dirs files blocks chunks
swept_text (answers.SweptAll rounds dirs files blocks chunks) =
    codes "sweep " ++ decimal rounds ++ codes " " ++ removed_text dirs files blocks chunks
swept_text (answers.LostDisk disk) = codes "lost " ++ decimal disk.0
swept_text answer = op_refusal_text answer

-- an answer whose other words are numbers and kinds
abbrev pub short_text : Answer → List ℕ
short_text answers.Done = codes "ok"
short_text (answers.Found node) = codes "ok " ++ node_text node
short_text (answers.Opened file token) = codes "ok file " ++ decimal file.0 ++ codes " token " ++ op_text token
short_text (answers.Appended blk index) = codes "ok block " ++ decimal blk.0 ++ codes " at " ++ decimal index
short_text (answers.Repaired moved left) = codes "ok moved " ++ decimal moved ++ codes " left " ++ decimal left
short_text answer = swept_text answer

abbrev pub answer_text : Answer → List ℕ
answer_text (answers.Entries items) = codes "ok " ++ decimal (length items) ++ flat_map listed_text items
answer_text (answers.Blocks rows) = codes "ok " ++ decimal (length rows) ++ flat_map row_text rows
answer_text (answers.Read bytes) = codes "ok " ++ decimal (length bytes) ++ bytes_text bytes
answer_text (answers.Changed key now) = codes "changed " ++ decimal key.dir.0 ++ codes " " ++ key.name ++ codes " now " ++ node_or_none now
answer_text answer = short_text answer
