use Rattle.racer_stories.proofs.Endings.{new_on}
use Rattle.tect_race.proofs.rounds.new_racers.Goals as goal

pub each-preserved : goal.each-preserved
each-preserved g c = new_on c.args.counts c.each.number c.each.racers.items c.push.new.self.items _ c.each.invariant
    c.in_ok-push.ensures.items c.in_ok-start.ensures c.new.ensures.items
