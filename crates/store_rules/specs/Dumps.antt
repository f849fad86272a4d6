-- What a dump of the store says: the directories by identifier, each followed by its entries by name; then the files, the
-- blocks and the chunks by identifier, the chunks disk by disk.
use Rattle.std.specs.Prelude.{List, ◌∷◌, ℕ, ◌++◌, length, map, None, if◌then◌else◌}
use Rattle.std.specs.List.{flat_map}
use Rattle.std.specs.FinMap.{entries, len}
use Rattle.tect_ids.specs.declared.ids.BlkId.{BlkId}
use Rattle.tect_ids.specs.declared.ids.DirId.{DirId}
use Rattle.tect_ids.specs.declared.ids.FileId.{FileId}
use Rattle.tect_ids.specs.declared.key.ChunkKey.{ChunkKey}
use Rattle.tect_ids.specs.declared.key.Key.{Key}
use Rattle.tect_ids.specs.declared.dump.DirState.{DirState}
use Rattle.tect_ids.specs.declared.dump.DirState.TheVariants as dir_states
use Rattle.tect_ids.specs.declared.dump.FileState.{FileState}
use Rattle.tect_ids.specs.declared.dump.FileState.TheVariants as file_states
use Rattle.tect_ids.specs.declared.dump.DumpLine.{DumpLine}
use Rattle.tect_ids.specs.declared.dump.DumpLine.TheVariants as line
use Rattle.key_words.specs.Maps.{within}
use Rattle.store_rules.specs.declared.names.Directory.{Directory}
use Rattle.store_rules.specs.declared.names.DirectoryEntry.{DirectoryEntry}
use Rattle.store_rules.specs.declared.blocks.Block.{Block}
use Rattle.store_rules.specs.declared.files.File.{File}
use Rattle.store_rules.specs.Names.{Names}
use Rattle.store_rules.specs.Blocks.{Blocks}
use Rattle.store_rules.specs.Disks.{Chunks}
use Rattle.store_rules.specs.Files.{Files}
use Rattle.store_rules.specs.Store.{Store}

abbrev pub dir_state : Directory → DirState
dir_state d = if d.sealed then dir_states.Sealed else dir_states.Open

abbrev pub dir_line : Names → DirId × Directory → DumpLine
dir_line s x = line.Dir x.0 (x.1).parent (dir_state x.1) (len (within s.entries x.0)) (len (x.1).holds) None

abbrev pub entry_line : Key × DirectoryEntry → DumpLine
entry_line x = line.Entry x.0 (x.1).node None

abbrev pub dir_lines : Names → DirId × Directory → List DumpLine
dir_lines s x = dir_line s x ∷ map entry_line (entries (within s.entries x.0))

abbrev pub names_dump : Names → List DumpLine
names_dump s = flat_map (dir_lines s) (entries s.dirs)

abbrev pub file_state : File → FileState
file_state f = if f.sealed then file_states.Sealed else file_states.Open

abbrev pub file_line : FileId × File → DumpLine
file_line x = line.File x.0 (file_state x.1) (x.1).token (length (x.1).rows) (len (x.1).holds)

abbrev pub files_dump : Files → List DumpLine
files_dump s = map file_line (entries s)

abbrev pub block_line : BlkId × Block → DumpLine
block_line x = line.Block x.0 (x.1).len (x.1).version (len (x.1).rows) (len (x.1).holds)

abbrev pub blocks_dump : Blocks → List DumpLine
blocks_dump s = map block_line (entries s)

abbrev pub chunk_line : ChunkKey × List ℕ → DumpLine
chunk_line x = line.Chunk (x.0).disk (x.0).blk (x.0).tag (length x.1)

abbrev pub chunks_dump : Chunks → List DumpLine
chunks_dump s = map chunk_line (entries s)

abbrev pub store_dump : Store → List DumpLine
store_dump s = names_dump s.names ++ (files_dump s.files ++ (blocks_dump s.blocks ++ chunks_dump s.chunks))
