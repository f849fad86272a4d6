-- The limits of an actor's own history: how much of it is used, and that ops are refused and end for want of room just where it
-- is full.
use Rattle.std.specs.Prelude.{◌≡◌, ℕ, ◌+◌, ◌≤◌, eqb, if◌then◌else◌, Some, List, [], ◌∷◌, ◌++◌, ◌⊎◌}
use Rattle.std.specs.List.{sum_by}
use Rattle.tect_ids.specs.declared.ids.Counts.{Counts}
use Rattle.tect_ids.specs.declared.ids.OpId.{OpId}
use Rattle.tect_ids.specs.declared.answer.Answer.{Answer}
use Rattle.tect_ids.specs.declared.answer.Answer.TheVariants as answers
use Rattle.store_rules.specs.declared.any.AnyReq.{AnyReq}
use Rattle.store_rules.specs.Places.{request_place}
use Rattle.store_rules.specs.ReplyBytes.{reply_bytes}
use Rattle.program_forms.specs.Kinds.{Programs}
use Rattle.world_runs.specs.declared.event.Event.{Event}
use Rattle.world_runs.specs.declared.event.Event.TheVariants.{Own, Dumped}
use Rattle.world_runs.specs.declared.event.Happening.{Happening}
use Rattle.world_runs.specs.declared.event.Happening.TheVariants.{Began, NotBegun, Acted, Ended, Stopped, Failed}
use Rattle.world_runs.specs.Actors.{Actor, program_ask, program_of}
use Rattle.world_runs.specs.Moments.{moment}
use Rattle.world_runs.specs.OwnRuns.{own_next}

-- how many moments it takes in its actor's own history; a begin takes that of the op's end too
abbrev pub cost : Happening → ℕ
cost (Began c) = 2
cost (Acted q x h) = 1
cost (NotBegun c) = 0
cost (Ended a) = 0
cost Stopped = 0
cost (Failed a) = 0

-- how many bytes of its reply are kept there
abbrev pub kept_bytes_of : Happening → ℕ
kept_bytes_of (Acted q x h) = reply_bytes x
kept_bytes_of (Began c) = 0
kept_bytes_of (NotBegun c) = 0
kept_bytes_of (Ended a) = 0
kept_bytes_of Stopped = 0
kept_bytes_of (Failed a) = 0

-- of an event, in that actor's own history
abbrev pub event_cost : ℕ → Event → ℕ
event_cost actor (Own op h) = if eqb op.actor actor then cost h else 0
event_cost actor Dumped = 0

abbrev pub event_bytes : ℕ → Event → ℕ
event_bytes actor (Own op h) = if eqb op.actor actor then kept_bytes_of h else 0
event_bytes actor Dumped = 0

abbrev pub used : List Event → ℕ → ℕ
used es actor = sum_by (event_cost actor) es

abbrev pub kept_bytes : List Event → ℕ → ℕ
kept_bytes es actor = sum_by (event_bytes actor) es

-- no further transaction: 65,536 moments, or 32 MiB of replies
abbrev pub IsFull : List Event → ℕ → Type 0
IsFull es actor = (65536 ≤ used es actor) ⊎ (33554432 ≤ kept_bytes es actor)

-- no further op: less than two moments are left
abbrev pub IsFullForBegin : List Event → ℕ → Type 0
IsFullForBegin es actor = 65536 ≤ used es actor + 1

-- an end for want of room: the actor is full, and the place is that of the request that its op makes next
abbrev pub EndsFull : {S : Type 0} → Programs S → Counts → List Event → Actor S → OpId → Answer → Type 0
EndsFull P counts before s op (answers.HistoryFull p) =
    IsFull before op.actor
    × ((q : AnyReq) × (program_ask P counts s.memory (program_of s.running op) ≡ Some q) × (p ≡ request_place counts q))
EndsFull P counts before s op a = Unit {0}

-- what it says of its actor's room, of which these events before it tell, and this state of its actor
abbrev pub FindsRoom : {S : Type 0} → Programs S → Counts → List Event → Actor S → OpId → Happening → Type 0
FindsRoom P counts before s op (Began c) = ¬ IsFullForBegin before op.actor
FindsRoom P counts before s op (NotBegun c) = IsFullForBegin before op.actor
FindsRoom P counts before s op (Acted q x h) = ¬ IsFull before op.actor
FindsRoom P counts before s op (Failed a) = EndsFull P counts before s op a
FindsRoom P counts before s op (Ended a) = Unit {0}
FindsRoom P counts before s op Stopped = Unit {0}

abbrev pub KeepsRoom : {S : Type 0} → Programs S → Counts → List Event → Actor S → Event → Type 0
KeepsRoom P counts before s (Own op h) = FindsRoom P counts before s op h
KeepsRoom P counts before s Dumped = Unit {0}

abbrev pub actor_in : Event → ℕ
actor_in (Own op h) = op.actor
actor_in Dumped = 0

-- so does each event of these, after those before
abbrev pub KeepsLimitsAfter : {S : Type 0} → Programs S → Counts → List Event → List Event → Type 0
KeepsLimitsAfter P counts before [] = Unit {0}
KeepsLimitsAfter P counts before (e ∷ es) =
    KeepsRoom P counts before ((moment P counts before).actors (actor_in e)) e × KeepsLimitsAfter P counts (before ++ e ∷ []) es

-- Each transaction and each begin of a history found room in its actor's own history; an op was refused, and ended for want of
-- room, only where there was none.
abbrev pub KeepsLimits : {S : Type 0} → Programs S → Counts → List Event → Type 0
KeepsLimits P counts history = KeepsLimitsAfter P counts [] history

-- the same of one actor's own events, from the state s on
abbrev pub OwnLimits : {S : Type 0} → Programs S → Counts → List Event → Actor S → List Event → Type 0
OwnLimits P counts before s [] = Unit {0}
OwnLimits P counts before s (e ∷ es) = KeepsRoom P counts before s e × OwnLimits P counts (before ++ e ∷ []) (own_next P counts s e) es
