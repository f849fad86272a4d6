-- A shard of any layer, seen as a store in which nothing else stands.
use Rattle.tect_ids.specs.declared.ids.Layer.{Layer}
use Rattle.tect_ids.specs.declared.ids.Layer.TheVariants as layers
use Rattle.store_rules.specs.Alone.{blocks_alone, chunks_alone, files_alone, names_alone}
use Rattle.store_rules.specs.Store.{Store}
use Rattle.layers.specs.declared.lent.LentMachine.{LentMachine}
use Rattle.layers.specs.declared.lent.LentMachine.TheVariants as lent
use Rattle.layers.specs.declared.machine.AnyMachine.{AnyMachine}
use Rattle.layers.specs.declared.machine.AnyMachine.TheVariants.{Name, File, Block, Disk}

abbrev pub alone : AnyMachine → Store
alone (Name s) = names_alone s
alone (File s) = files_alone s
alone (Block s) = blocks_alone s
alone (Disk s) = chunks_alone s

abbrev pub layer_of : AnyMachine → Layer
layer_of (Name s) = layers.Names
layer_of (File s) = layers.Files
layer_of (Block s) = layers.Blocks
layer_of (Disk s) = layers.Disks

-- the shard that is lent
abbrev pub lent_as : LentMachine → AnyMachine
lent_as (lent.Name r) = Name r.now
lent_as (lent.File r) = File r.now
lent_as (lent.Block r) = Block r.now
lent_as (lent.Disk r) = Disk r.now
