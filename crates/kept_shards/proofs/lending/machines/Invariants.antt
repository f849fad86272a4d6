use Rattle.std.proofs.Common.{◌≡◌, map, take}
use Rattle.layers.specs.Machines.{alone, lent_as}
use Rattle.place_kit.specs.Kept.{machine_of}
use Rattle.kept_shards.proofs.lending.machines.Given as goal

abbrev pub invariant-loop-kept : goal.invariant-loop-kept
invariant-loop-kept l = map (λ m. alone (lent_as m)) l.lent.items ≡ map machine_of (take l.kept-index l.kepts)
