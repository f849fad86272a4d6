-- The shard of a directory or a file.
use Rattle.tect_ids.specs.declared.ids.Counts.{Counts}
use Rattle.tect_ids.specs.declared.ids.DirId.{DirId}
use Rattle.tect_ids.specs.declared.ids.Layer.TheVariants.{Names, Files}
use Rattle.tect_ids.specs.declared.ids.Node.{Node}
use Rattle.tect_ids.specs.declared.ids.Node.TheVariants.{Dir, File}
use Rattle.tect_ids.specs.declared.ids.Place.{Place}
use Rattle.tect_ids.specs.Places.{place_number}

abbrev pub dir_shard : Counts → DirId → Place
dir_shard c d = record { 0 = place_number c Names d.0 }

abbrev pub node_shard : Counts → Node → Place
node_shard c (Dir d) = record { 0 = place_number c Names d.0 }
node_shard c (File f) = record { 0 = place_number c Files f.0 }
