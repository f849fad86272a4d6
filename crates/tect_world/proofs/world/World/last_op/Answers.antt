use Rattle.std.proofs.Common.{◌∙◌}
use Rattle.tect_world.proofs.Worlds.{own_op}
use Rattle.tect_world.proofs.world.World.last_op.Goals as goal

pub returns-clause-op : goal.returns-clause-op
returns-clause-op g c =
    rw (← c.self.view_is)
    (c.op.ensures.op ∙ own_op g.P.Programs.rules c.self.inside c.args.actor c.index.result.now c.self.invariant c.requires.0 c.requires.1 c.index.ensures)
