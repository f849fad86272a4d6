-- What is so of runs and of what each actor notes of them.
use Rattle.std.specs.Prelude.{◌≡◌, ℕ, None, Option, List, [], filter}
use Rattle.std.specs.List.{All}
use Rattle.tect_ids.specs.declared.ids.Counts.{Counts}
use Rattle.tect_ids.specs.declared.ids.OpId.{OpId}
use Rattle.tect_ids.specs.declared.script.Line.{Line}
use Rattle.store_rules.specs.Store.{Store, opening_store}
use Rattle.entry_words.specs.declared.entry.Moment.{Moment}
use Rattle.entry_words.specs.Moments.{is_of}
use Rattle.world_runs.specs.declared.event.Event.{Event}
use Rattle.program_forms.specs.Kinds.{Programs}
use Rattle.world_runs.specs.Actors.{idle_actor}
use Rattle.world_runs.specs.Moments.{moment, opening, IsWorldRun}
use Rattle.world_runs.specs.Races.{concerns, line_concerns, race_report, FollowsByClient}
use Rattle.world_runs.specs.Events.{IsOwnNote, StampsRise, events_of, own}
use Rattle.world_runs.specs.OwnRuns.{OwnRun, own_state, RepliesAre, stored_after}
use Rattle.world_runs.specs.Limits.{KeepsLimits, OwnLimits}
use Rattle.world_runs.specs.Smooth.{EndsAtOnce, OwnEndsAtOnce}
use Rattle.whole_runs.specs.Woven.{AreSilent, Cut, woven, own_cuts}
use Rattle.whole_runs.specs.ClientLines.{DoesLines}
use Rattle.whole_runs.specs.PartReports.{parts_report}

abbrev pub OwnRunsMakeRun : {S : Type 0} → Programs S → Type 0
OwnRunsMakeRun P =
    (counts : Counts) (history : List Event) → ((actor : ℕ) → OwnRun P counts idle_actor (own actor history))
    → RepliesAre opening_store history
    → IsWorldRun P counts history

abbrev pub RunIsOwnRuns : {S : Type 0} → Programs S → Type 0
RunIsOwnRuns P =
    (counts : Counts) (history : List Event) → IsWorldRun P counts history
    → ((actor : ℕ) → OwnRun P counts idle_actor (own actor history)) × RepliesAre opening_store history

-- of any events, whether they may happen or not
abbrev pub ActorsAreTheirOwn : {S : Type 0} → Programs S → Type 0
ActorsAreTheirOwn P =
    (counts : Counts) (history : List Event)
    → ((actor : ℕ) → (moment P counts history).actors actor ≡ own_state P counts idle_actor (own actor history))
    × ((moment P counts history).store ≡ stored_after opening_store history)

abbrev pub OwnLimitsMakeLimits : {S : Type 0} → Programs S → Type 0
OwnLimitsMakeLimits P =
    (counts : Counts) (history : List Event) → ((actor : ℕ) → OwnLimits P counts [] idle_actor (own actor history))
    → KeepsLimits P counts history

-- of any events too: where each command ends at once in a history, it does so in what concerns each actor
abbrev pub PromptIsOwnPrompt : {S : Type 0} → Programs S → Type 0
PromptIsOwnPrompt P =
    (counts : Counts) (history : List Event) → EndsAtOnce P (opening counts) history → (actor : ℕ)
    → OwnEndsAtOnce P counts idle_actor (filter (concerns actor) history)

abbrev pub WovenConcerns : Type 0
WovenConcerns =
    (actor : ℕ) (cuts : List Cut) (last : List Event) (ms : List Moment) → All IsOwnNote ms → AreSilent cuts last
    → filter (concerns actor) (woven cuts last ms) ≡ woven (own_cuts actor cuts) (own actor last) (filter (is_of actor) ms)

-- what is woven has the transactions in the same order
abbrev pub WovenReplies : Type 0
WovenReplies =
    (s : Store) (cuts : List Cut) (last : List Event) (ms : List Moment) → StampsRise ms → AreSilent cuts last
    → RepliesAre s (events_of ms) → RepliesAre s (woven cuts last ms)

abbrev pub ClientsFollow : Type 0
ClientsFollow =
    (ls : List Line) (history : List Event)
    → ((actor : ℕ) → (next : Option OpId) × DoesLines actor None (filter (line_concerns actor) ls) (filter (concerns actor) history) next)
    → FollowsByClient ls history

-- what a report shows of a woven history
abbrev pub WovenReports : Type 0
WovenReports =
    (clients : List (List ℕ)) (cuts : List Cut) (last : List Event) (ms : List Moment) → All IsOwnNote ms
    → AreSilent cuts last
    → race_report clients (woven cuts last ms) ≡ parts_report clients (λ actor. []) opening_store cuts last ms
