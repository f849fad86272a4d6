use Rattle.std.proofs.Common.{◌∙◌}
use Rattle.tect_world.proofs.Worlds.{own_count}
use Rattle.tect_world.proofs.world.World.transactions.Goals as goal

pub returns-clause-count : goal.returns-clause-count
returns-clause-count g c =
    rw (← c.self.view_is)
    (c.transactions.ensures.count ∙ own_count g.P.Programs.rules c.self.inside c.args.actor c.index.result.now c.self.invariant c.requires.0 c.requires.1
    c.index.ensures)
