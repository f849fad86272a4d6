use Rattle.std.proofs.Common.{◌-◌, refl, sym, arith}
use Rattle.std.specs.Prelude.{IsSome}
use Rattle.std.specs.Vec.{with_item}
use Rattle.tect_world.proofs.Worlds.{mine, to_client, step_stays, step_is}
use Rattle.tect_world.proofs.Reserving.{with_room}
use Rattle.tect_world.proofs.world.World.step.Goals as goal

pub step_client-turned-requires-clause-running : goal.step_client-turned-requires-clause-running
step_client-turned-requires-clause-running g c =
    to_client g.P.Programs.rules c.self.inside c.args.actor c.index_mut-client.result.now c.self.invariant c.requires.actor.0 c.requires.actor.1
    c.index_mut-client.ensures.value
    (λ x. IsSome x.running) (rw (← c.self.view_is) at c.requires.running)

pub invariant_of-self-2 : goal.invariant_of-self-2
invariant_of-self-2 g c =
    step_stays g.P.Programs.rules c.self.inside c.args.actor c.index_mut-client.result.now c.self.invariant c.requires.actor.0 c.requires.actor.1
    c.index_mut-client.ensures.value
    (record {
      alloc = c.self.inside.alloc;
      shards = c.step_client-turned.new.shards;
      clients = with_item c.self.inside.clients (c.args.actor - 1) c.step_client-turned.new.client;
      clock = c.step_client-turned.new.clock;
      order = c.step_client-turned.new.order;
    })
    c.step_client-turned.new.client c.reserve.new.self.items c.in_ok-reserve.ensures.items
    (rw c.as_slice.ensures.value at c.is_short.ensures) refl c.step_client-turned.ensures.life
    c.step_client-turned.result c.step_client-turned.ensures.step c.step_client-turned.ensures.counts
    (omega (arith, c.in_ok-reserve.ensures.ok, c.step_client-turned.ensures.space.0, c.step_client-turned.ensures.space.1))

pub returns-clause-ok : goal.returns-clause-ok
returns-clause-ok g c =
    rw (← c.self.view_is)
    (step_is g.P.Programs.rules c.self.inside c.args.actor c.index_mut-client.result.now c.self.invariant c.requires.actor.0 c.requires.actor.1
    c.index_mut-client.ensures.value
    (record {
      alloc = c.self.inside.alloc;
      shards = c.step_client-turned.new.shards;
      clients = with_item c.self.inside.clients (c.args.actor - 1) c.step_client-turned.new.client;
      clock = c.step_client-turned.new.clock;
      order = c.step_client-turned.new.order;
    })
    c.step_client-turned.new.client c.reserve.new.self.items c.in_ok-reserve.ensures.items
    (rw c.as_slice.ensures.value at c.is_short.ensures) refl c.step_client-turned.ensures.life
    c.step_client-turned.result c.step_client-turned.ensures.step c.step_client-turned.ensures.counts
    (omega (arith, c.in_ok-reserve.ensures.ok, c.step_client-turned.ensures.space.0, c.step_client-turned.ensures.space.1)))

pub invariant_of-self : goal.invariant_of-self
invariant_of-self g c =
    with_room g.P.Programs.rules c.self.inside
    (record {
      alloc = c.self.inside.alloc;
      shards = c.self.inside.shards;
      clients = c.self.inside.clients;
      clock = c.self.inside.clock;
      order = c.reserve.new.self;
    }) c.self.invariant c.in_err-reserve.ensures.items c.in_err-reserve.ensures.len (omega (arith, c.in_err-reserve.ensures.capacity))

pub step_client-turned-requires-clause-same : goal.step_client-turned-requires-clause-same
step_client-turned-requires-clause-same g c =
    sym (mine g.P.Programs.rules c.self.inside c.args.actor c.index_mut-client.result.now c.self.invariant c.requires.actor.0 c.requires.actor.1
    c.index_mut-client.ensures.value).counts
