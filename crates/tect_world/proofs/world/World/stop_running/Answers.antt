use Rattle.std.proofs.Common.{◌-◌, refl}
use Rattle.std.specs.Prelude.{IsSome}
use Rattle.std.specs.Vec.{with_item}
use Rattle.tect_world.proofs.Worlds.{to_client, room_to_stop, stop_stays, stop_is}
use Rattle.tect_world.proofs.world.World.stop_running.Goals as goal

pub stop_client-requires-clause-running : goal.stop_client-requires-clause-running
stop_client-requires-clause-running g c =
    to_client g.P.Programs.rules c.self.inside c.args.actor c.index_mut-client.result.now c.self.invariant c.requires.actor.0 c.requires.actor.1
    c.index_mut-client.ensures.value
    (λ x. IsSome x.running) (rw (← c.self.view_is) at c.requires.running)

pub stop_client-requires-clause-room : goal.stop_client-requires-clause-room
stop_client-requires-clause-room g c =
    room_to_stop g.P.Programs.rules c.self.inside c.args.actor c.index_mut-client.result.now c.self.invariant c.requires.actor.0 c.requires.actor.1
    c.index_mut-client.ensures.value
    (to_client g.P.Programs.rules c.self.inside c.args.actor c.index_mut-client.result.now c.self.invariant c.requires.actor.0 c.requires.actor.1
    c.index_mut-client.ensures.value
    (λ x. IsSome x.running) (rw (← c.self.view_is) at c.requires.running))

pub invariant_of-self : goal.invariant_of-self
invariant_of-self g c =
    stop_stays g.P.Programs.rules c.self.inside c.args.actor c.index_mut-client.result.now c.self.invariant c.requires.actor.0 c.requires.actor.1
    c.index_mut-client.ensures.value
    (record {
      alloc = c.self.inside.alloc;
      shards = c.self.inside.shards;
      clients = with_item c.self.inside.clients (c.args.actor - 1) c.stop_client.new.client;
      clock = c.stop_client.new.clock;
      order = c.stop_client.new.order;
    })
    c.stop_client.new.client c.self.inside.order.items refl
    (rw c.as_slice.ensures.value at c.is_short.ensures) refl c.stop_client.ensures.life
    refl c.stop_client.ensures.stops
    (to_client g.P.Programs.rules c.self.inside c.args.actor c.index_mut-client.result.now c.self.invariant c.requires.actor.0 c.requires.actor.1
    c.index_mut-client.ensures.value
    (λ x. IsSome x.running) (rw (← c.self.view_is) at c.requires.running))
    c.stop_client.ensures.space.0 c.stop_client.ensures.space.1

pub returns-clause-stops : goal.returns-clause-stops
returns-clause-stops g c =
    rw (← c.self.view_is)
    (stop_is g.P.Programs.rules c.self.inside c.args.actor c.index_mut-client.result.now c.self.invariant c.requires.actor.0 c.requires.actor.1
    c.index_mut-client.ensures.value
    (record {
      alloc = c.self.inside.alloc;
      shards = c.self.inside.shards;
      clients = with_item c.self.inside.clients (c.args.actor - 1) c.stop_client.new.client;
      clock = c.stop_client.new.clock;
      order = c.stop_client.new.order;
    })
    c.stop_client.new.client c.self.inside.order.items refl
    (rw c.as_slice.ensures.value at c.is_short.ensures) refl c.stop_client.ensures.life
    refl c.stop_client.ensures.stops
    (to_client g.P.Programs.rules c.self.inside c.args.actor c.index_mut-client.result.now c.self.invariant c.requires.actor.0 c.requires.actor.1
    c.index_mut-client.ensures.value
    (λ x. IsSome x.running) (rw (← c.self.view_is) at c.requires.running))
    c.stop_client.ensures.space.0 c.stop_client.ensures.space.1)
