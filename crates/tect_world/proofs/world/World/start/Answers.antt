use Rattle.std.proofs.Common.{refl}
use Rattle.tect_world.proofs.Openings.{start_world}
use Rattle.tect_world.proofs.world.World.start.Goals as goal

pub invariant_of-result : goal.invariant_of-result
invariant_of-result g c =
    start_world g.P.Programs.rules
    (record {
      alloc = c.args.alloc;
      shards = c.in_ok-shards.shards;
      clients = c.in_ok-clients.clients;
      clock = 0;
      order = c.new.result;
    })
    c.args.counts c.in_ok-shards.ensures c.in_ok-clients.ensures refl c.new.ensures.items c.new.ensures.len
