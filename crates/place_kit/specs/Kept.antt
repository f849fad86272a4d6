-- A kept machine of any layer, read by what all of them have.
use Rattle.std.specs.Prelude.{ℕ, List}
use Rattle.store_rules.specs.Alone.{names_alone, files_alone, blocks_alone, chunks_alone}
use Rattle.store_rules.specs.Store.{Store}
use Rattle.layers.specs.declared.machine.AnyMachine.{AnyMachine}
use Rattle.layers.specs.declared.machine.AnyMachine.TheVariants as machines
use Rattle.layers.specs.Machines.{alone}
use Rattle.entry_words.specs.declared.entry.Entry.{Entry}
use Rattle.entry_words.specs.declared.entry.Label.{Label}
use Rattle.place_kit.specs.declared.any.AnyKept.{AnyKept}
use Rattle.place_kit.specs.declared.any.AnyKept.TheVariants.{Name, File, Block, Disk}

abbrev pub label_of : AnyKept → Label
label_of (Name k) = k.label
label_of (File k) = k.label
label_of (Block k) = k.label
label_of (Disk k) = k.label

-- the number of its place
abbrev pub place_of : AnyKept → ℕ
place_of k = (label_of k).place.0

abbrev pub history_of : AnyKept → List Entry
history_of (Name k) = k.history.items
history_of (File k) = k.history.items
history_of (Block k) = k.history.items
history_of (Disk k) = k.history.items

-- the stamp of its last entry
abbrev pub clock_of : AnyKept → ℕ
clock_of (Name k) = k.clock
clock_of (File k) = k.clock
clock_of (Block k) = k.clock
clock_of (Disk k) = k.clock

-- for how many commits there is sure room
abbrev pub spare_of : AnyKept → ℕ
spare_of (Name k) = k.history.spare
spare_of (File k) = k.history.spare
spare_of (Block k) = k.history.spare
spare_of (Disk k) = k.history.spare

-- its state before its history, as a store in which nothing else stands
abbrev pub base_of : AnyKept → Store
base_of (Name k) = names_alone k.base.value
base_of (File k) = files_alone k.base.value
base_of (Block k) = blocks_alone k.base.value
base_of (Disk k) = chunks_alone k.base.value

-- the machine as it is now, and as a store in which nothing else stands
abbrev pub machine_in : AnyKept → AnyMachine
machine_in (Name k) = machines.Name k.machine
machine_in (File k) = machines.File k.machine
machine_in (Block k) = machines.Block k.machine
machine_in (Disk k) = machines.Disk k.machine

abbrev pub machine_of : AnyKept → Store
machine_of k = alone (machine_in k)
