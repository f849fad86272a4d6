-- The chunks of one disk.
use Rattle.std.specs.Prelude.{List, take_while}
use Rattle.std.specs.FinMap.{FinMap, retain_keys}
use Rattle.tect_ids.specs.declared.ids.DiskId.{DiskId}
use Rattle.tect_ids.specs.declared.key.ChunkKey.{ChunkKey}
use Rattle.tect_ids.specs.Keys.{disk_eq, chunk_cmp}

-- the chunks of one disk, by block and tag
unfoldable pub on_disk : {X : Type 0} → FinMap chunk_cmp X → DiskId → FinMap chunk_cmp X
on_disk m d = retain_keys m (λ c. disk_eq c.disk d)

-- those at the front of a list that are of that disk
abbrev pub front_on : {X : Type 0} → DiskId → List (ChunkKey × X) → List (ChunkKey × X)
front_on d rows = take_while (λ e. disk_eq e.0.disk d) rows
