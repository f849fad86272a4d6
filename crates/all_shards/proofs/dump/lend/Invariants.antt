use Rattle.std.proofs.Common.{◌≡◌, map, take}
use Rattle.layers.specs.Machines.{alone, lent_as}
use Rattle.all_shards.proofs.dump.lend.Given as goal

abbrev pub invariant-loop-machine : goal.invariant-loop-machine
invariant-loop-machine l = map (λ m. alone (lent_as m)) l.lent.items ≡ map alone (take l.machine-index l.machines)
