-- One shard, seen as a store in which nothing else stands, and the layer that a request goes to.
use Rattle.std.specs.Prelude.{Bool, if◌then◌else◌}
use Rattle.std.specs.FinMap.{empty}
use Rattle.tect_ids.specs.declared.ids.Layer.{Layer}
use Rattle.tect_ids.specs.declared.ids.Layer.TheVariants as layers
use Rattle.store_rules.specs.declared.any.AnyReq.{AnyReq}
use Rattle.store_rules.specs.declared.any.AnyReq.TheVariants as any
use Rattle.store_rules.specs.Blocks.{Blocks}
use Rattle.store_rules.specs.Disks.{Chunks}
use Rattle.store_rules.specs.Files.{Files}
use Rattle.store_rules.specs.Names.{Names, no_names, root_names}
use Rattle.store_rules.specs.Store.{Store}

-- the layer that a request goes to
abbrev pub request_layer : AnyReq → Layer
request_layer (any.Name q) = layers.Names
request_layer (any.File q) = layers.Files
request_layer (any.Block q) = layers.Blocks
request_layer (any.Disk q) = layers.Disks

abbrev pub no_store : Store
no_store = record { names = no_names; files = empty; blocks = empty; chunks = empty }

abbrev pub names_alone : Names → Store
names_alone s = record no_store { names = s }

abbrev pub files_alone : Files → Store
files_alone s = record no_store { files = s }

abbrev pub blocks_alone : Blocks → Store
blocks_alone s = record no_store { blocks = s }

abbrev pub chunks_alone : Chunks → Store
chunks_alone s = record no_store { chunks = s }

-- what a shard of a layer opens with, with the root directory or without it: only a name shard can have it
abbrev pub opening_of : Layer → Bool → Store
opening_of layers.Names rooted = names_alone (if rooted then root_names else no_names)
opening_of layers.Files rooted = no_store
opening_of layers.Blocks rooted = no_store
opening_of layers.Disks rooted = no_store
