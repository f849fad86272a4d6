-- The shard of a request: that of the directory, file or block which it concerns, or the disk.
use Rattle.tect_ids.specs.declared.ids.Counts.{Counts}
use Rattle.tect_ids.specs.declared.ids.BlkId.{BlkId}
use Rattle.tect_ids.specs.declared.ids.DirId.{DirId}
use Rattle.tect_ids.specs.declared.ids.DiskId.{DiskId}
use Rattle.tect_ids.specs.declared.ids.FileId.{FileId}
use Rattle.tect_ids.specs.declared.ids.Layer.TheVariants as layers
use Rattle.tect_ids.specs.declared.ids.Place.{Place}
use Rattle.tect_ids.specs.Places.{place_number}
use Rattle.store_rules.specs.declared.names.NameReq.{NameReq}
use Rattle.store_rules.specs.declared.files.FileReq.{FileReq}
use Rattle.store_rules.specs.declared.blocks.BlockReq.{BlockReq}
use Rattle.store_rules.specs.declared.disks.DiskReq.{DiskReq}
use Rattle.store_rules.specs.declared.any.AnyReq.{AnyReq}
use Rattle.store_rules.specs.declared.any.AnyReq.TheVariants as any
use Rattle.store_rules.specs.Names.{name_rule}
use Rattle.store_rules.specs.Files.{file_rule}
use Rattle.store_rules.specs.Blocks.{block_rule}
use Rattle.store_rules.specs.Disks.{disk_rule}

-- the directory that a request concerns
abbrev pub dir_of : NameReq → DirId
dir_of q = (name_rule q).dir

-- the file that a request concerns
abbrev pub file_of : FileReq → FileId
file_of q = (file_rule q).file

-- the block that a request concerns
abbrev pub blk_of : BlockReq → BlkId
blk_of q = (block_rule q).blk

-- the disk that a request concerns
abbrev pub disk_of : DiskReq → DiskId
disk_of q = (disk_rule q).disk

-- the shard or disk that a request goes to
abbrev pub request_place : Counts → AnyReq → Place
request_place c (any.Name q) = record { 0 = place_number c layers.Names (dir_of q).0 }
request_place c (any.File q) = record { 0 = place_number c layers.Files (file_of q).0 }
request_place c (any.Block q) = record { 0 = place_number c layers.Blocks (blk_of q).0 }
request_place c (any.Disk q) = record { 0 = place_number c layers.Disks (disk_of q).0 }
