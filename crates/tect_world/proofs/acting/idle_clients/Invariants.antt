use Rattle.tect_world.specs.Clients.{AreIdle}
use Rattle.tect_world.proofs.acting.idle_clients.Given as goal

abbrev pub invariant-each : goal.invariant-each
invariant-each g l = AreIdle g.P.Programs.rules l.counts l.clients.items l.made
