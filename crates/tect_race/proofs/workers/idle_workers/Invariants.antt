use Rattle.std.proofs.Common.{[]}
use Rattle.tect_race.specs.Ready.{AreAssigned}
use Rattle.tect_race.proofs.workers.idle_workers.Given as goal

abbrev pub invariant-each : goal.invariant-each
invariant-each g l = AreAssigned l.number [] l.workers.items
