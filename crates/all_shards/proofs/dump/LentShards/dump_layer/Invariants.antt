use Rattle.std.proofs.Common.{◌≡◌, ◌++◌, take}
use Rattle.std.specs.List.{flat_map}
use Rattle.layers.specs.Dumps.{lines_of}
use Rattle.all_shards.proofs.dump.LentShards.dump_layer.Given as goal

abbrev pub invariant-loop-id : goal.invariant-loop-id
invariant-loop-id l = l.lines.items ≡ l.fn.lines.items ++ flat_map (lines_of l.layer l.self.store) (take l.id-index l.id-items)
