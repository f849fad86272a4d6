-- What a dump shows of one directory.
use Rattle.std.specs.Prelude.{List, [], Option, None, Some}
use Rattle.std.specs.FinMap.{get}
use Rattle.tect_ids.specs.declared.ids.DirId.{DirId}
use Rattle.tect_ids.specs.declared.dump.DumpLine.{DumpLine}
use Rattle.store_rules.specs.declared.names.Directory.{Directory}
use Rattle.store_rules.specs.Names.{Names}
use Rattle.store_rules.specs.Dumps.{dir_lines}

-- the lines of a directory, where it stands
abbrev pub lines_of_dir : Names → DirId → Option Directory → List DumpLine
lines_of_dir s d None = []
lines_of_dir s d (Some x) = dir_lines s (d, x)

abbrev pub dir_dump : Names → DirId → List DumpLine
dir_dump s d = lines_of_dir s d (get s.dirs d)
