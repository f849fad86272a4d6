-- How a client, and a racer, grew at the place where its requests are committed.
use Rattle.std.specs.Prelude.{◌≡◌, List}
use Rattle.tect_ids.specs.declared.ids.Counts.{Counts}
use Rattle.program_forms.specs.Kinds.{Programs}
use Rattle.entry_words.specs.declared.entry.Moment.{Moment}
use Rattle.world_runs.specs.declared.event.Event.{Event}
use Rattle.world_runs.specs.Smooth.{OwnEndsAtOnce}
use Rattle.clients.specs.Lives.{ClientLife, state_in}
use Rattle.racers.specs.declared.racer.Racer.{Racer}
use Rattle.racers.specs.Lives.{news_events}
use Rattle.racers.specs.Steps.{Grows}

-- It grew by these events, each layer having as many shards as it takes it to have, and as before. Where a transaction among them is
-- the last of its command, the end is next.
pub record GrewBy {S : Type 0} (P : Programs S) {W : Type 0} (counts_of : W → Counts) (old : ClientLife) (w : W) (new : ClientLife) (v : W)
    (events : List Event) : Type 0 where
  pub here : counts_of w ≡ old.counts
  pub there : counts_of v ≡ counts_of w
  pub news : List Moment
  pub more : List Event
  pub grows : Grows old new news more
  pub are : news_events news more ≡ events
  pub prompt : OwnEndsAtOnce P old.counts (state_in P old) events

-- its client grew so, and its answers are as before
abbrev pub RacerGrew : {S : Type 0} (P : Programs S) {W : Type 0} (counts_of : W → Counts) (old : Racer S) (w : W) (new : Racer S) (v : W)
    (events : List Event) → Type 0
RacerGrew P counts_of old w new v events = GrewBy P counts_of old.client w new.client v events × (new.answers ≡ old.answers)
