-- The shard of a directory, a file or a block, and the place of a disk.
use Rattle.tect_ids.specs.declared.ids.BlkId.{BlkId}
use Rattle.tect_ids.specs.declared.ids.Counts.{Counts}
use Rattle.tect_ids.specs.declared.ids.DirId.{DirId}
use Rattle.tect_ids.specs.declared.ids.DiskId.{DiskId}
use Rattle.tect_ids.specs.declared.ids.FileId.{FileId}
use Rattle.tect_ids.specs.declared.ids.Layer.TheVariants.{Names, Files, Blocks, Disks}
use Rattle.tect_ids.specs.declared.ids.Place.{Place}
use Rattle.tect_ids.specs.Places.{place_number}

abbrev pub dir_shard : Counts → DirId → Place
dir_shard c d = record { 0 = place_number c Names d.0 }

abbrev pub file_shard : Counts → FileId → Place
file_shard c f = record { 0 = place_number c Files f.0 }

abbrev pub blk_shard : Counts → BlkId → Place
blk_shard c b = record { 0 = place_number c Blocks b.0 }

abbrev pub disk_place : Counts → DiskId → Place
disk_place c d = record { 0 = place_number c Disks d.0 }
