use Rattle.world_lives.specs.Life.{room_at}
use Rattle.world_lives.proofs.Running.{Goes}
use Rattle.tect_world.proofs.world.World.run.Given as goal

abbrev pub invariant-steps : goal.invariant-steps
invariant-steps g l = Goes g.P.Programs.rules l.initial.self l.self l.actor

abbrev pub decreases-steps : goal.decreases-steps
decreases-steps g l = room_at l.self l.actor
