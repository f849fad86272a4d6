-- The fields of the world tell its history, which is a run of the world.
use Rattle.std.specs.Prelude.{◌≡◌, ℕ, ◌+◌, ◌<◌, ◌≤◌, ◌^◌, true, List, length, vec_len, vec_capacity}
use Rattle.store_rules.specs.Store.{opening_store}
use Rattle.entry_words.specs.declared.entry.Moment.{Moment}
use Rattle.entry_words.specs.Moments.{rises}
use Rattle.program_forms.specs.Kinds.{Programs}
use Rattle.world_runs.specs.Events.{own}
use Rattle.world_runs.specs.OwnRuns.{RepliesAre, stored_after}
use Rattle.kept_shards.specs.KeptStore.{clock_at}
use Rattle.tect_world.specs.declared.world.World.TheInside.{Inside}
use Rattle.tect_world.specs.Clients.{client_at, events_by, going, IsClientOf}
use Rattle.world_lives.specs.Life.{Life}
use Rattle.tect_world.specs.Noted.{moments_by}
use Rattle.world_lives.specs.Order.{in_order, marks_of, moments_in_order}

abbrev pub life_of : {S : Type 0} → Inside S → Life
life_of w = record { counts = w.shards.counts; history = in_order w.order.items (events_by w.shards.counts w.clients.items) }

-- the moments of all passes, in the order in which they came
abbrev pub noted_in : {S : Type 0} → Inside S → List Moment
noted_in w = moments_in_order w.order.items (moments_by w.shards.counts w.clients.items)

-- There is room in the order for a mark of each command that goes on, so that it can stop.
pub record IsWorld {S : Type 0} (P : Programs S) (w : Inside S) : Type 0 where
  pub number : length w.clients.items ≡ 65
  pub each : (a : ℕ) → 1 ≤ a → a ≤ 65 → IsClientOf P w.shards.counts w.clock a (client_at w.shards.counts w.clients.items a)
  pub places : (p : ℕ) → clock_at w.shards p ≤ w.clock
  pub early : w.clock ≤ length w.order.items
  pub few : length w.order.items < 2 ^ 62
  pub marked : (a : ℕ) → marks_of a w.order.items ≡ length (events_by w.shards.counts w.clients.items a)
  pub owns : (a : ℕ) → own a (life_of w).history ≡ events_by w.shards.counts w.clients.items a
  pub replies : RepliesAre opening_store (life_of w).history
  pub store : w.shards.store ≡ stored_after opening_store (life_of w).history
  pub rising : rises 0 w.clock (noted_in w) ≡ true
  pub room : vec_len w.order + going P w.clients.items ≤ vec_capacity w.order
