use Rattle.std.proofs.Common.{is_some, ap, ◌∙◌}
use Rattle.std.specs.FinMap.{get}
use Rattle.store_rules.specs.Names.{Names, key_in}
use Rattle.name_shard.proofs.Limited.{limit_swapped}
use Rattle.name_shard.proofs.shard.NameShard.swap.Goals as goal

pub invariant_of-self-2 : goal.invariant_of-self-2
invariant_of-self-2 c =
    let from = key_in c.args.dir c.args.from.now in
    rw (c.in_ok-rename_entry.ensures.moved, c.in_ok-from.ensures, c.in_ok-to.ensures)
    (limit_swapped c.self.inside.entries c.args.dir c.args.from.now c.args.to.now c.args.entry c.self.invariant
    (ap (λ (s : Names). is_some (get s.entries from)) c.self.view_is ∙ c.requires))
