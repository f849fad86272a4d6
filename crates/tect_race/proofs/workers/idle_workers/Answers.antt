use Rattle.std.proofs.Common.{refl}
use Rattle.tect_race.proofs.Assigning.{idle_more}
use Rattle.tect_race.proofs.workers.idle_workers.Goals as goal

pub each-preserved : goal.each-preserved
each-preserved g c = idle_more c.each.number c.each.workers.items c.push.new.self.items _ c.each.invariant c.in_ok-push.ensures.items refl
    c.new.ensures.items
