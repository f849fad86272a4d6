-- Each request goes to a shard of its layer.
use Rattle.std.proofs.Common.{◌≡◌, ◌<◌}
use Rattle.tect_ids.specs.declared.ids.Counts.{Counts}
use Rattle.tect_ids.specs.declared.ids.Layer.TheVariants as layers
use Rattle.tect_ids.specs.Places.{HasPlaces, layer_at, place_count}
use Rattle.tect_ids.proofs.Layers.{has_layer, has_place}
use Rattle.store_rules.specs.declared.any.AnyReq.{AnyReq}
use Rattle.store_rules.specs.declared.any.AnyReq.TheVariants as any
use Rattle.store_rules.specs.Alone.{request_layer}
use Rattle.store_rules.specs.Places.{blk_of, dir_of, disk_of, file_of, request_place}

pub asked_place : (c : Counts) (q : AnyReq) → HasPlaces c → (request_place c q).0 < place_count c
asked_place c (any.Name q) places = has_place c layers.Names (dir_of q).0 places
asked_place c (any.File q) places = has_place c layers.Files (file_of q).0 places
asked_place c (any.Block q) places = has_place c layers.Blocks (blk_of q).0 places
asked_place c (any.Disk q) places = has_place c layers.Disks (disk_of q).0 places

pub asked_layer : (c : Counts) (q : AnyReq) → HasPlaces c → layer_at c (request_place c q).0 ≡ request_layer q
asked_layer c (any.Name q) places = has_layer c layers.Names (dir_of q).0 places
asked_layer c (any.File q) places = has_layer c layers.Files (file_of q).0 places
asked_layer c (any.Block q) places = has_layer c layers.Blocks (blk_of q).0 places
asked_layer c (any.Disk q) places = has_layer c layers.Disks (disk_of q).0 places
