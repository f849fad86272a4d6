-- What a dump shows of one disk, and which disks have chunks.
use Rattle.std.specs.Prelude.{List, map}
use Rattle.std.specs.FinMap.{FinMap, entries, from_entries, keys}
use Rattle.tect_ids.specs.declared.ids.DiskId.{DiskId}
use Rattle.tect_ids.specs.declared.dump.DumpLine.{DumpLine}
use Rattle.tect_ids.specs.Keys.{disk_cmp}
use Rattle.block_maps.specs.Chunks.{on_disk}
use Rattle.store_rules.specs.Disks.{Chunks}
use Rattle.store_rules.specs.Dumps.{chunk_line}

-- the lines of a disk's chunks, by block and tag
abbrev pub disk_dump : Chunks → DiskId → List DumpLine
disk_dump s d = map chunk_line (entries (on_disk s d))

-- the disks that have a chunk, as the keys of a map
abbrev pub used_disks : Chunks → FinMap disk_cmp (Unit {0})
used_disks s = from_entries (map (λ e. (e.0.disk, tt)) (entries s))

-- the same, rising, each once
abbrev pub disks_of : Chunks → List DiskId
disks_of s = keys (used_disks s)
