use Rattle.std.proofs.Common.{ap, ◌∙◌, arith}
use Rattle.std.proofs.lemmas.List.{take_all}
use Rattle.std.specs.List.{flat_map}
use Rattle.layers.specs.declared.machine.TheConstants.{LAYERS}
use Rattle.layers.specs.Dumps.{layer_dump}
use Rattle.layers.proofs.Dumped.{all_layers}
use Rattle.all_shards.proofs.dump.LentShards.dump.Goals as goal

pub returns : goal.returns
returns c =
    c.loop-layer.invariant
    ∙ ap (flat_map (layer_dump c.args.self.now.store))
    (take_all c.loop-layer.layer-index LAYERS (omega (arith, c.loop-layer-test.false)))
    ∙ all_layers c.args.self.now.store
