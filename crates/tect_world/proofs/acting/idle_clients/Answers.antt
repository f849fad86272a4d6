use Rattle.tect_world.proofs.Idle.{idle_push}
use Rattle.tect_world.proofs.acting.idle_clients.Goals as goal

pub each-preserved : goal.each-preserved
each-preserved g c =
    rw c.in_ok-push.ensures.items
    (idle_push g.P.Programs.rules c.args.counts c.each.clients.items c.each.made c.in_ok-client.client c.each.invariant
    c.in_ok-client.ensures c.op.ensures.life)
