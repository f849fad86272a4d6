use Rattle.std.proofs.Common.{List, [], ◌∷◌, ◌++◌, ap, ◌∙◌, arith}
use Rattle.store_rules.specs.Dumps.{store_dump}
use Rattle.world_lives.specs.declared.marks.Mark.{Mark}
use Rattle.world_lives.specs.declared.marks.Mark.TheVariants.{Dump}
use Rattle.tect_world.proofs.Lives.{dump_stays, dump_grows, few_more, world_store}
use Rattle.tect_world.proofs.Reserving.{with_room}
use Rattle.tect_world.proofs.world.World.dump.Goals as goal

pub invariant_of-self-2 : goal.invariant_of-self-2
invariant_of-self-2 g c =
    dump_stays g.P.Programs.rules c.self.inside
    (record {
      alloc = c.self.inside.alloc;
      shards = c.self.inside.shards;
      clients = c.self.inside.clients;
      clock = c.self.inside.clock;
      order = c.push_mark.new.order;
    }) c.self.invariant
    (c.push_mark.ensures.items ∙ ap (λ (ms : List Mark). ms ++ Dump ∷ []) c.in_ok-reserve.ensures.items)
    (few_more c.self.inside.order.items c.reserve.new.self.items c.push_mark.new.order.items Dump
    (rw c.as_slice.ensures.value at c.is_short.ensures) c.push_mark.ensures.items)
    (omega (arith, c.in_ok-reserve.ensures.ok, c.push_mark.ensures.len, c.push_mark.ensures.room))

pub returns-clause-ok : goal.returns-clause-ok
returns-clause-ok g c =
    rw (← c.self.view_is)
    (dump_grows g.P.Programs.rules c.self.inside
    (record {
      alloc = c.self.inside.alloc;
      shards = c.self.inside.shards;
      clients = c.self.inside.clients;
      clock = c.self.inside.clock;
      order = c.push_mark.new.order;
    }) c.self.invariant
    (c.push_mark.ensures.items ∙ ap (λ (ms : List Mark). ms ++ Dump ∷ []) c.in_ok-reserve.ensures.items)
    (few_more c.self.inside.order.items c.reserve.new.self.items c.push_mark.new.order.items Dump
    (rw c.as_slice.ensures.value at c.is_short.ensures) c.push_mark.ensures.items)
    (omega (arith, c.in_ok-reserve.ensures.ok, c.push_mark.ensures.len, c.push_mark.ensures.room)))

pub returns-clause-lines : goal.returns-clause-lines
returns-clause-lines g c =
    rw (← c.self.view_is) (c.in_ok-lines.ensures ∙ ap store_dump (world_store g.P.Programs.rules c.self.inside c.self.invariant))

pub invariant_of-self : goal.invariant_of-self
invariant_of-self g c =
    with_room g.P.Programs.rules c.self.inside
    (record {
      alloc = c.self.inside.alloc;
      shards = c.self.inside.shards;
      clients = c.self.inside.clients;
      clock = c.self.inside.clock;
      order = c.reserve.new.self;
    }) c.self.invariant c.in_err-reserve.ensures.items c.in_err-reserve.ensures.len (omega (arith, c.in_err-reserve.ensures.capacity))

pub invariant_of-self-in_err-lines : goal.invariant_of-self-in_err-lines
invariant_of-self-in_err-lines g c =
    with_room g.P.Programs.rules c.self.inside
    (record {
      alloc = c.self.inside.alloc;
      shards = c.self.inside.shards;
      clients = c.self.inside.clients;
      clock = c.self.inside.clock;
      order = c.reserve.new.self;
    }) c.self.invariant c.in_ok-reserve.ensures.items c.in_ok-reserve.ensures.len (omega (arith, c.in_ok-reserve.ensures.capacity))
