use Rattle.tect_world.proofs.Lives.{world_run, world_limits}
use Rattle.tect_world.proofs.world.World.known.Goals as goal

pub returns-clause-run : goal.returns-clause-run
returns-clause-run g c = rw (← c.self.view_is) (world_run g.P.Programs.rules c.self.inside c.self.invariant)

pub returns-clause-limits : goal.returns-clause-limits
returns-clause-limits g c = rw (← c.self.view_is) (world_limits g.P.Programs.rules c.self.inside c.self.invariant)
