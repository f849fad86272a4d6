use Rattle.std.proofs.Common.{◌≡◌, List, length}
use Rattle.racers.specs.declared.racer.Racer.{Racer}
use Rattle.tect_race.specs.Ready.{AreAssigned, AreCollected}
use Rattle.tect_race.proofs.workers.collect.Given as goal

abbrev pub invariant-clients : goal.invariant-clients
invariant-clients g l = (all : List (Racer g.row.P.Denot)) × (length all ≡ l.fn.clients) × AreAssigned l.count all l.fn.workers.items
    × AreCollected l.count l.client all l.workers.items l.racers.items
