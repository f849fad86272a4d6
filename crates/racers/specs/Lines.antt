-- What a racer does in a line of the script.
use Rattle.std.specs.Prelude.{◌≡◌, ℕ, ◌+◌, ◌≤◌, ◌⊎◌, true, List, [], ◌++◌, Result}
use Rattle.tect_ids.specs.declared.ids.Counts.{Counts}
use Rattle.tect_ids.specs.declared.script.Act.{Act}
use Rattle.store_rules.specs.declared.any.AnyReq.{AnyReq}
use Rattle.program_forms.specs.Kinds.{Programs}
use Rattle.entry_words.specs.declared.entry.Entry.{Entry}
use Rattle.entry_words.specs.declared.entry.Moment.{Moment}
use Rattle.entry_words.specs.declared.entry.Refused.{Refused}
use Rattle.entry_words.specs.Moments.{rises}
use Rattle.world_runs.specs.declared.event.Event.{Event}
use Rattle.world_runs.specs.Follows.{DoesLine}
use Rattle.world_runs.specs.Races.{own_lines}
use Rattle.whole_runs.specs.ClientStates.{state_left_at}
use Rattle.world_runs.specs.Smooth.{OwnEndsAtOnce}
use Rattle.whole_runs.specs.Standing.{IsInState}
use Rattle.clients.specs.Lives.{events_in, state_in}
use Rattle.players.specs.declared.fault.RacerFault.{RacerFault}
use Rattle.racers.specs.declared.racer.Racer.{Racer}
use Rattle.racers.specs.Lives.{busy_in, grown, news_events}
use Rattle.players.specs.Players.{IsFault}
use Rattle.racers.specs.Steps.{FoundAstray}

-- The racer's client noted these moments, each stamped above its clock, and had these events of refused ops; once an op of it is
-- refused it notes nothing more. Each command ended at once when its last reply gave its answer. The racer's answers grew by the lines
-- that the events show.
pub record Adds {S : Type 0} (P : Programs S) (names : List (List ℕ)) (old new : Racer S) (news : List Moment) (more : List Event) : Type 0
  where
    pub life : new.client ≡ grown old.client new.client.clock news more
    pub late : (news ≡ []) ⊎ (old.client.silent ≡ [])
    pub stamps : rises old.client.clock new.client.clock news ≡ true
    pub prompt : OwnEndsAtOnce P old.client.counts (state_in P old.client) (news_events news more)
    pub answers : new.answers.items ≡ old.answers.items ++ own_lines names old.client.actor (events_in old.client) (news_events news more)

-- It did what a line asks of it.
pub record Plays {S : Type 0} (P : Programs S) (names : List (List ℕ)) (act : Act) (old new : Racer S) : Type 0 where
  pub news : List Moment
  pub more : List Event
  pub adds : Adds P names old new news more
  pub does : DoesLine old.client.actor (busy_in P old.client) act (news_events news more) (busy_in P new.client)
  pub turn : IsInState (state_left_at act) (state_in P new.client)
  pub few : (state_in P new.client).number ≤ (state_in P old.client).number + 1

-- why it did not, where each layer has that many shards: for want of memory, or since a commit found another machine
abbrev pub IsFaultOf : {W : Type 0} (counts_of : W → Counts) (done : W → W → ℕ → AnyReq → Result Entry Refused → Type 0) → Counts
    → RacerFault → Type 0
IsFaultOf counts_of done c fault = IsFault (FoundAstray counts_of done) c fault
