use Rattle.racer_stories.specs.Done.{AreNew}
use Rattle.tect_race.proofs.rounds.new_racers.Given as goal

abbrev pub invariant-each : goal.invariant-each
invariant-each g l = AreNew l.counts l.number l.racers.items
