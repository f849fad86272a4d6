-- The order of the world's events has more room, or as much.
use Rattle.std.proofs.Common.{◌≡◌, ℕ, ◌≤◌, true, List, length, sym, ap, subst, ◌∙◌, arith}
use Rattle.std.specs.Prelude.{vec_len, vec_capacity}
use Rattle.store_rules.specs.Store.{opening_store}
use Rattle.entry_words.specs.declared.entry.Moment.{Moment as Noted}
use Rattle.entry_words.specs.Moments.{rises}
use Rattle.program_forms.specs.Kinds.{Programs}
use Rattle.world_runs.specs.declared.event.Event.{Event}
use Rattle.world_runs.specs.Events.{own}
use Rattle.world_runs.specs.OwnRuns.{RepliesAre, stored_after}
use Rattle.world_lives.specs.declared.marks.Mark.{Mark}
use Rattle.tect_world.specs.declared.world.World.TheInside.{Inside}
use Rattle.tect_world.specs.Clients.{events_by}
use Rattle.world_lives.specs.Order.{in_order, marks_of, moments_in_order}
use Rattle.tect_world.specs.Inside.{life_of, noted_in, IsWorld}
use Rattle.tect_world.specs.Noted.{moments_by}

module _ {S : Type 0} (P : Programs S) (old new : Inside S) (is : IsWorld P old) (order : new.order.items ≡ old.order.items)
    (len : vec_len new.order ≡ vec_len old.order) (more : vec_capacity old.order ≤ vec_capacity new.order) where
  abbrev roomier : Inside S
  roomier = record old { order = new.order }

  abbrev by_old : ℕ → List Event
  by_old = events_by old.shards.counts old.clients.items

  same_history : (life_of roomier).history ≡ (life_of old).history
  same_history = ap (λ (o : List Mark). in_order o by_old) order

  same_noted : noted_in roomier ≡ noted_in old
  same_noted = ap (λ (o : List Mark). moments_in_order o (moments_by old.shards.counts old.clients.items)) order

  pub with_room : IsWorld P roomier
  with_room = record {
    number = is.number;
    each = is.each;
    places = is.places;
    early = omega (arith, is.early, ap length order);
    few = omega (arith, is.few, ap length order);
    marked = λ b. ap (marks_of b) order ∙ is.marked b;
    owns = λ b. ap (own b) same_history ∙ is.owns b;
    replies = subst (RepliesAre opening_store) (sym same_history) is.replies;
    store = is.store ∙ ap (stored_after opening_store) (sym same_history);
    rising = subst (λ (ns : List Noted). rises 0 old.clock ns ≡ true) (sym same_noted) is.rising;
    room = omega (arith, is.room, len, more);
  }
