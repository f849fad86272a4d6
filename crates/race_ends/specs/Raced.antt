-- What a race came to.
use Rattle.std.specs.Prelude.{◌≡◌, ℕ, ◌≤◌, List, length, filter, IsPermutation}
use Rattle.std.specs.List.{All, Contains, flat_map}
use Rattle.tect_ids.specs.declared.script.Plan.{Plan}
use Rattle.tect_ids.specs.declared.script.ReportLine.{ReportLine}
use Rattle.program_forms.specs.Kinds.{Programs}
use Rattle.place_kit.specs.declared.any.AnyKept.{AnyKept}
use Rattle.entry_words.specs.declared.entry.Moment.{Moment}
use Rattle.passes.specs.declared.pass.Pass.{Pass}
use Rattle.place_kit.specs.Started.{AreStarted}
use Rattle.world_runs.specs.declared.event.Event.{Event}
use Rattle.world_runs.specs.Actors.{idle_actor}
use Rattle.world_runs.specs.Limits.{KeepsLimits}
use Rattle.world_runs.specs.Moments.{IsWorldRun}
use Rattle.world_runs.specs.Races.{FollowsByClient, concerns, race_report}
use Rattle.world_runs.specs.Smooth.{OwnEndsAtOnce}
use Rattle.whole_runs.specs.Woven.{AreSilent, Cut, woven}
use Rattle.merge_runs.specs.Merged.{HaveDifferentActors, IsInOrder, RestrictsToTrails, RestrictsToHistories, moments_of}

-- it is the one list of all moments of these passes, in order, and has the history of each of these places
pub record IsGathered (ks : List AnyKept) (ps : List Pass) (entries : List Moment) : Type 0 where
  pub whole : IsPermutation (flat_map moments_of ps) entries
  pub order : IsInOrder entries
  pub trails : RestrictsToTrails ps entries
  pub histories : RestrictsToHistories ks entries

-- It is a run of the world within the limits of its actors' histories, and follows the script by client. Each client ends a command at
-- once when its last reply gave the answer, or was not heard.
pub record IsRaceHistory {S : Type 0} (P : Programs S) (plan : Plan) (history : List Event) : Type 0 where
  pub run : IsWorldRun P plan.counts history
  pub limits : KeepsLimits P plan.counts history
  pub prompt : (actor : ℕ) → OwnEndsAtOnce P plan.counts idle_actor (filter (concerns actor) history)
  pub follows : FollowsByClient plan.lines history

-- there is one pass for each client of the plan, and no other
pub record AreOfClients (plan : Plan) (passes : List Pass) : Type 0 where
  pub different : HaveDifferentActors passes
  pub known : All (λ p. (1 ≤ p.actor) × (p.actor ≤ length plan.clients)) passes
  pub each : (actor : ℕ) → 1 ≤ actor → actor ≤ length plan.clients → (p : Pass) × Contains passes p × (p.actor ≡ actor)

-- The report is that of a history of the plan. There is one list of all moments of these passes, in order, which has the trail of
-- each client and the history of each of these places; its entries are the events of the history in their order, but for dumps and
-- the events of refused ops.
pub record IsRaced {S : Type 0} (P : Programs S) (plan : Plan) (places : List AnyKept) (passes : List Pass) (report : List ReportLine)
    : Type 0 where
  pub history : List Event
  pub of_plan : IsRaceHistory P plan history
  pub shows : report ≡ race_report plan.clients history
  pub entries : List Moment
  pub gathered : IsGathered places passes entries
  pub cuts : List Cut
  pub last : List Event
  pub weaves : history ≡ woven cuts last entries
  pub silent : AreSilent cuts last
  pub started : AreStarted plan.counts places
  pub clients : AreOfClients plan passes
