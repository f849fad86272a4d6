use Rattle.std.proofs.Common.{◌≡◌, take}
use Rattle.std.specs.List.{flat_map}
use Rattle.layers.specs.Dumps.{ids_of}
use Rattle.layers.specs.Machines.{alone, lent_as}
use Rattle.all_shards.proofs.dump.LentShards.ids.Given as goal

abbrev pub invariant-loop-machine : goal.invariant-loop-machine
invariant-loop-machine l = l.ids.items ≡ flat_map (λ m. ids_of l.layer (alone (lent_as m))) (take l.machine-index l.machine-items)
