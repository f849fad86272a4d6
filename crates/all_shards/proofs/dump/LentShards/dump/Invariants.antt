use Rattle.std.proofs.Common.{◌≡◌, take}
use Rattle.std.specs.List.{flat_map}
use Rattle.layers.specs.Dumps.{layer_dump}
use Rattle.all_shards.proofs.dump.LentShards.dump.Given as goal

abbrev pub invariant-loop-layer : goal.invariant-loop-layer
invariant-loop-layer l = l.lines.items ≡ flat_map (layer_dump l.self.store) (take l.layer-index l.layer-items)
