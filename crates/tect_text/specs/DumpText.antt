-- The lines of a dump, without their line feeds.
use Rattle.std.specs.Prelude.{ℕ, List, [], ◌++◌, Option, Some, None, codes}
use Rattle.std.specs.Fmt.{decimal}
use Rattle.tect_ids.specs.declared.ids.OpId.{OpId}
use Rattle.tect_ids.specs.declared.dump.DirState.{DirState}
use Rattle.tect_ids.specs.declared.dump.DirState.TheVariants as dirs
use Rattle.tect_ids.specs.declared.dump.FileState.{FileState}
use Rattle.tect_ids.specs.declared.dump.FileState.TheVariants as files
use Rattle.tect_ids.specs.declared.dump.DumpLine.{DumpLine}
use Rattle.tect_ids.specs.declared.dump.DumpLine.TheVariants as lines
use Rattle.tect_text.specs.IdText.{op_text, tag_text, node_text}

abbrev pub dir_state_word : DirState → List ℕ
dir_state_word dirs.Open = codes "open"
dir_state_word dirs.Sealed = codes "sealed"
dir_state_word dirs.Closed = codes "closed"

abbrev pub file_state_word : FileState → List ℕ
file_state_word files.Open = codes "open"
file_state_word files.Sealed = codes "sealed"
file_state_word files.Frozen = codes "frozen"

-- words that stand only where there is such an op
abbrev pub op_behind : List ℕ → Option OpId → List ℕ
op_behind words None = []
op_behind words (Some op) = words ++ op_text op

abbrev pub token_text : Option OpId → List ℕ
token_text None = codes "none"
token_text (Some op) = op_text op

-- a line of the layers of blocks and disks
abbrev pub block_line_text : DumpLine → List ℕ
block_line_text (lines.Block blk len version rows holds) =
    codes "block " ++ decimal blk.0 ++ codes " len " ++ decimal len ++ codes " version " ++ decimal version
    ++ codes " rows " ++ decimal rows ++ codes " holds " ++ decimal holds
block_line_text (lines.Chunk disk blk tag len) =
    codes "chunk " ++ decimal disk.0 ++ codes " " ++ decimal blk.0 ++ codes " " ++ tag_text tag ++ codes " " ++ decimal len
block_line_text (lines.Lost disk) = codes "lost " ++ decimal disk.0
block_line_text line = []

-- a line of the layer of files, or of those below
abbrev pub file_line_text : DumpLine → List ℕ
file_line_text (lines.File file state token blocks holds) =
    codes "file " ++ decimal file.0 ++ codes " " ++ file_state_word state ++ codes " token " ++ token_text token
    ++ codes " blocks " ++ decimal blocks ++ codes " holds " ++ decimal holds
file_line_text line = block_line_text line

-- a line whose words are numbers and states
abbrev pub numbers_text : DumpLine → List ℕ
numbers_text (lines.Dir dir parent state entries holds moving) =
    codes "dir " ++ decimal dir.0 ++ codes " parent " ++ decimal parent.0 ++ codes " " ++ dir_state_word state
    ++ codes " entries " ++ decimal entries ++ codes " holds " ++ decimal holds ++ op_behind (codes " moving ") moving
numbers_text (lines.Turn op child) = codes "turn " ++ op_text op ++ codes " " ++ decimal child.0
numbers_text line = file_line_text line

abbrev pub dump_text : DumpLine → List ℕ
dump_text (lines.Entry key node pin) =
    codes "entry " ++ decimal key.dir.0 ++ codes " " ++ key.name ++ codes " " ++ node_text node ++ op_behind (codes " pin ") pin
dump_text line = numbers_text line
