use Rattle.std.proofs.Common.{map, ap, ◌∙◌, arith}
use Rattle.std.proofs.lemmas.List.{take_all}
use Rattle.std.specs.List.{flat_map}
use Rattle.layers.specs.Dumps.{ids_of}
use Rattle.layers.specs.Machines.{alone, lent_as}
use Rattle.layers.proofs.Dumped.{row_ids}
use Rattle.all_shards.specs.Whole.{WholeStore}
use Rattle.all_shards.proofs.Lent.{flat_map-map}
use Rattle.all_shards.proofs.dump.LentShards.ids.Goals as goal

pub returns : goal.returns
returns c =
    let all = c.loop-machine.invariant ∙ ap (flat_map (λ m. ids_of c.args.layer (alone (lent_as m))))
    (take_all c.loop-machine.machine-index c.deref-machine-items.result.now (omega (arith, c.loop-machine-test.false)) ∙
    c.deref-machine-items.ensures.value)
    ∙ flat_map-map (ids_of c.args.layer) (λ m. alone (lent_as m)) c.self.inside.machines.items in
    row_ids c.self.inside.counts (map (λ m. alone (lent_as m)) c.self.inside.machines.items) c.self.invariant c.args.layer
    c.loop-machine.ids.items _ all c.sort_unstable.ensures.permutation c.sort_unstable.ensures.sorted
    ∙ ap (λ (w : WholeStore). ids_of c.args.layer w.store) c.self.view_is
