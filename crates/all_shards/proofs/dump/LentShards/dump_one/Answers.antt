use Rattle.std.proofs.Common.{◌≡◌, ◌++◌, List, map, OnOk, ap, ◌∙◌, subst}
use Rattle.tect_ids.specs.declared.dump.DumpLine.{DumpLine}
use Rattle.layers.specs.Dumps.{lines_of}
use Rattle.layers.specs.Machines.{alone, lent_as}
use Rattle.all_shards.specs.Whole.{WholeStore}
use Rattle.all_shards.proofs.Lent.{read_map}
use Rattle.all_shards.proofs.Shown.{lines_read}
use Rattle.all_shards.proofs.dump.LentShards.dump_one.Goals as goal

pub returns : goal.returns
returns c =
    subst (λ (ls : List DumpLine). OnOk c.add_lines.result (c.add_lines.new.lines.items ≡ c.args.lines.now.items ++ ls))
    (lines_read c.self.inside.counts (map (λ m. alone (lent_as m)) c.self.inside.machines.items) c.self.invariant c.args.layer c.args.id
    c.place_of-place.result.0 c.place_of-place.ensures.number (alone (lent_as c.index-machine.result.now))
    (read_map (λ m. alone (lent_as m)) c.self.inside.machines.items c.place_of-place.result.0 c.index-machine.result.now
    c.index-machine.ensures)
    ∙ ap (λ (w : WholeStore). lines_of c.args.layer w.store c.args.id) c.self.view_is)
    c.add_lines.ensures
