use Rattle.std.proofs.Common.{map}
use Rattle.tect_world.proofs.Histories.{marks_are, told}
use Rattle.tect_world.proofs.world.World.history.Goals as goal

pub moments_by_marks-requires : goal.moments_by_marks-requires
moments_by_marks-requires g c =
    marks_are g.P.Programs.rules c.self.inside c.self.invariant _ _ c.as_slice-clients.ensures.value c.as_slice-order.ensures.value

pub returns-in-Ok : goal.returns-in-Ok
returns-in-Ok g c =
    rw (← c.self.view_is)
    (told g.P.Programs.rules c.self.inside c.self.invariant _ _ (map (λ m. m.now) c.in-Ok.moments.items)
    c.as_slice-clients.ensures.value c.as_slice-order.ensures.value c.steps_count_up.ensures
    (c.in-Ok.ensures c.self.inside.shards.counts))
