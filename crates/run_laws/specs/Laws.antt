-- What is so of every run, whatever the programs, where they keep the laws of programs.
use Rattle.std.specs.Prelude.{◌≡◌, ◌≢◌, ℕ, ◌+◌, ◌<◌, ◌≤◌, ◌^◌, true, ◌||◌, Some, is_some, List}
use Rattle.tect_ids.specs.declared.ids.Counts.{Counts}
use Rattle.tect_ids.specs.declared.ids.OpId.{OpId}
use Rattle.tect_ids.specs.declared.ids.Place.{Place}
use Rattle.tect_ids.specs.declared.answer.Answer.TheVariants as answers
use Rattle.program_forms.specs.declared.standing.Standing.TheVariants.{Left}
use Rattle.program_forms.specs.Kinds.{Programs}
use Rattle.world_runs.specs.declared.event.Event.{Event}
use Rattle.world_runs.specs.Actors.{Actor, Running}
use Rattle.world_runs.specs.Moments.{IsWorldRun, moment, running, asked, answered}
use Rattle.whole_runs.specs.Standing.{IsLastBegun}
use Rattle.claim_words.specs.Sound.{IsSound, AfterEachFront}
use Rattle.claim_words.specs.Granted.{GrantedHoldsAreListed}

-- after each front of every run the store is sound
abbrev pub EveryMomentIsSound : {S : Type 0} → Programs S → Type 0
EveryMomentIsSound P = (counts : Counts) (events : List Event) → IsWorldRun P counts events → AfterEachFront IsSound events

-- and each hold that was granted, and neither bound nor given up, is bound nowhere and listed by its object
abbrev pub EveryGrantedHoldIsListed : {S : Type 0} → Programs S → Type 0
EveryGrantedHoldIsListed P =
    (counts : Counts) (events : List Event) → IsWorldRun P counts events → AfterEachFront GrantedHoldsAreListed events

-- no command comes to the answer that a reply was odd
abbrev pub NoRunAnswersOdd : {S : Type 0} → Programs S → Type 0
NoRunAnswersOdd P =
    (counts : Counts) (events : List Event) → IsWorldRun P counts events
    → (op : OpId) (place : Place) → answered P (moment P counts events) op ≢ Some (answers.Odd place)

-- a command that runs, and heard its last reply, has a next request or its answer
abbrev pub RunningGoesOn : {S : Type 0} → Programs S → Type 0
RunningGoesOn {S} P =
    (counts : Counts) (events : List Event) → IsWorldRun P counts events → (op : OpId) (r : Running S)
    → running (moment P counts events) op ≡ Some r → r.at ≢ Left
    → (is_some (asked P (moment P counts events) op) || is_some (answered P (moment P counts events) op)) ≡ true

-- an actor makes at most one object for each command that it begins, and it begins fewer than 2^31
pub record HasSmallNumbers {S : Type 0} (actor : Actor S) : Type 0 where
  pub serial_small : actor.memory.serial ≤ actor.number + 1
  pub number_small : actor.number < 2 ^ 31

-- so it is of each actor after every run
abbrev pub NumbersStaySmall : {S : Type 0} → Programs S → Type 0
NumbersStaySmall P =
    (counts : Counts) (events : List Event) → IsWorldRun P counts events → (a : ℕ)
    → HasSmallNumbers ((moment P counts events).actors a)

-- so it is of each running command after every run
abbrev pub RunningIsLastBegun : {S : Type 0} → Programs S → Type 0
RunningIsLastBegun {S} P =
    (counts : Counts) (events : List Event) → IsWorldRun P counts events → (a : ℕ) (r : Running S)
    → ((moment P counts events).actors a).running ≡ Some r
    → IsLastBegun a ((moment P counts events).actors a) r
