use Rattle.std.proofs.Common.{take}
use Rattle.std.specs.List.{All}
use Rattle.world_lives.specs.Told.{StepsCountUp}
use Rattle.tect_world.proofs.history.steps_count_up.Given as goal

abbrev pub invariant-each : goal.invariant-each
invariant-each g l = All (λ c. StepsCountUp c.moments) (take l.client-index l.clients)
