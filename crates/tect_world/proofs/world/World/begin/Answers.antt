use Rattle.std.proofs.Common.{◌≡◌, ◌+◌, ◌<◌, ◌^◌, false, ◌-◌, refl, arith}
use Rattle.std.specs.Prelude.{IsNone}
use Rattle.std.specs.Vec.{with_item}
use Rattle.tect_world.proofs.Worlds.{to_client, began_stays, began_ok, began_err}
use Rattle.tect_world.proofs.Reserving.{with_room}
use Rattle.tect_world.proofs.world.World.begin.Goals as goal

pub begin_client-begun-requires-clause-idle : goal.begin_client-begun-requires-clause-idle
begin_client-begun-requires-clause-idle g c =
    to_client g.P.Programs.rules c.self.inside c.args.actor c.index_mut-client.result.now c.self.invariant c.requires.actor.0 c.requires.actor.1
    c.index_mut-client.ensures.value
    (λ x. IsNone x.running) (rw (← c.self.view_is) at c.requires.idle)

pub begin_client-begun-requires-clause-goes_on : goal.begin_client-begun-requires-clause-goes_on
begin_client-begun-requires-clause-goes_on g c =
    to_client g.P.Programs.rules c.self.inside c.args.actor c.index_mut-client.result.now c.self.invariant c.requires.actor.0 c.requires.actor.1
    c.index_mut-client.ensures.value
    (λ x. x.stopped ≡ false) (rw (← c.self.view_is) at c.requires.goes_on)

pub begin_client-begun-requires-clause-few : goal.begin_client-begun-requires-clause-few
begin_client-begun-requires-clause-few g c =
    to_client g.P.Programs.rules c.self.inside c.args.actor c.index_mut-client.result.now c.self.invariant c.requires.actor.0 c.requires.actor.1
    c.index_mut-client.ensures.value
    (λ x. x.number + 1 < 2 ^ 31) (rw (← c.self.view_is) at c.requires.few)

pub invariant_of-self-2 : goal.invariant_of-self-2
invariant_of-self-2 g c =
    began_stays g.P.Programs.rules c.self.inside c.args.actor c.index_mut-client.result.now c.self.invariant c.requires.actor.0 c.requires.actor.1
    c.index_mut-client.ensures.value
    (record {
      alloc = c.self.inside.alloc;
      shards = c.self.inside.shards;
      clients = with_item c.self.inside.clients (c.args.actor - 1) c.begin_client-begun.new.client;
      clock = c.begin_client-begun.new.clock;
      order = c.begin_client-begun.new.order;
    })
    c.begin_client-begun.new.client c.reserve.new.self.items c.in_ok-reserve.ensures.items
    (rw c.as_slice.ensures.value at c.is_short.ensures) refl c.begin_client-begun.ensures.life
    c.args.command refl (omega (arith, c.in_ok-reserve.ensures.ok, c.begin_client-begun.ensures.space.0, c.begin_client-begun.ensures.space.1))
    c.begin_client-begun.result c.begin_client-begun.ensures.begins

pub returns-clause-ok : goal.returns-clause-ok
returns-clause-ok g c =
    rw (← c.self.view_is)
    (began_ok g.P.Programs.rules c.self.inside c.args.actor c.index_mut-client.result.now c.self.invariant c.requires.actor.0 c.requires.actor.1
    c.index_mut-client.ensures.value
    (record {
      alloc = c.self.inside.alloc;
      shards = c.self.inside.shards;
      clients = with_item c.self.inside.clients (c.args.actor - 1) c.begin_client-begun.new.client;
      clock = c.begin_client-begun.new.clock;
      order = c.begin_client-begun.new.order;
    })
    c.begin_client-begun.new.client c.reserve.new.self.items c.in_ok-reserve.ensures.items
    (rw c.as_slice.ensures.value at c.is_short.ensures) refl c.begin_client-begun.ensures.life
    c.args.command refl (omega (arith, c.in_ok-reserve.ensures.ok, c.begin_client-begun.ensures.space.0, c.begin_client-begun.ensures.space.1))
    c.begin_client-begun.result c.begin_client-begun.ensures.begins)

pub returns-clause-err : goal.returns-clause-err
returns-clause-err g c =
    rw (← c.self.view_is)
    (began_err g.P.Programs.rules c.self.inside c.args.actor c.index_mut-client.result.now c.self.invariant c.requires.actor.0 c.requires.actor.1
    c.index_mut-client.ensures.value
    (record {
      alloc = c.self.inside.alloc;
      shards = c.self.inside.shards;
      clients = with_item c.self.inside.clients (c.args.actor - 1) c.begin_client-begun.new.client;
      clock = c.begin_client-begun.new.clock;
      order = c.begin_client-begun.new.order;
    })
    c.begin_client-begun.new.client c.reserve.new.self.items c.in_ok-reserve.ensures.items
    (rw c.as_slice.ensures.value at c.is_short.ensures) refl c.begin_client-begun.ensures.life
    c.args.command refl (omega (arith, c.in_ok-reserve.ensures.ok, c.begin_client-begun.ensures.space.0, c.begin_client-begun.ensures.space.1))
    c.begin_client-begun.result c.begin_client-begun.ensures.begins)

pub invariant_of-self : goal.invariant_of-self
invariant_of-self g c =
    with_room g.P.Programs.rules c.self.inside
    (record {
      alloc = c.self.inside.alloc;
      shards = c.self.inside.shards;
      clients = c.self.inside.clients;
      clock = c.self.inside.clock;
      order = c.reserve.new.self;
    }) c.self.invariant c.in_err-reserve.ensures.items c.in_err-reserve.ensures.len (omega (arith, c.in_err-reserve.ensures.capacity))
