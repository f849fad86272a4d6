-- The moments of a run: the store and the actors, what may happen at a moment, and the moment after it. The programs are any.
use Rattle.std.specs.Prelude.{◌≡◌, ℕ, eqb, if◌then◌else◌, Option, List, [], ◌∷◌}
use Rattle.tect_ids.specs.declared.ids.Counts.{Counts}
use Rattle.tect_ids.specs.declared.ids.OpId.{OpId}
use Rattle.tect_ids.specs.declared.answer.Answer.{Answer}
use Rattle.store_rules.specs.declared.any.AnyReq.{AnyReq}
use Rattle.store_rules.specs.Store.{Store, opening_store, store_reply, store_step}
use Rattle.program_forms.specs.Kinds.{Does, Programs}
use Rattle.world_runs.specs.declared.event.Event.{Event}
use Rattle.world_runs.specs.declared.event.Event.TheVariants.{Own, Dumped}
use Rattle.world_runs.specs.declared.event.Happening.{Happening}
use Rattle.world_runs.specs.declared.event.Happening.TheVariants.{Began, NotBegun, Acted, Ended, Stopped, Failed}
use Rattle.world_runs.specs.Actors.{Actor, idle_actor, Running, program_of, OwnMay, own_after, running_does, asked_in, answer_in}

pub record WorldState (S : Type 0) : Type 0 where
  pub counts : Counts
  pub store : Store
  pub actors : ℕ → Actor S

-- before anything was done: the root alone, and idle actors
abbrev pub opening : {S : Type 0} → Counts → WorldState S
opening counts = record { counts = counts; store = opening_store; actors = λ a. idle_actor }

-- the moment with that actor in this state
abbrev pub with_actor : {S : Type 0} → WorldState S → ℕ → Actor S → WorldState S
with_actor m a state = record m { actors = λ b. if eqb b a then state else m.actors b }

abbrev pub running : {S : Type 0} → WorldState S → OpId → Option (Running S)
running m op = program_of (m.actors op.actor).running op

-- what the op does next
abbrev pub does : {S : Type 0} → Programs S → WorldState S → OpId → Option (Does Answer)
does P m op = running_does P m.counts (m.actors op.actor).memory (running m op)

-- the request that the op makes next
abbrev pub asked : {S : Type 0} → Programs S → WorldState S → OpId → Option AnyReq
asked P m op = asked_in (does P m op)

-- the answer that the op has come to
abbrev pub answered : {S : Type 0} → Programs S → WorldState S → OpId → Option Answer
answered P m op = answer_in (does P m op)

-- a reply is the one that the store gives
abbrev pub IsReply : Store → Happening → Type 0
IsReply s (Acted q x h) = x ≡ store_reply s q
IsReply s (Began c) = Unit {0}
IsReply s (NotBegun c) = Unit {0}
IsReply s (Ended a) = Unit {0}
IsReply s Stopped = Unit {0}
IsReply s (Failed a) = Unit {0}

abbrev pub store_after : Store → Happening → Store
store_after s (Acted q x h) = store_step s q
store_after s (Began c) = s
store_after s (NotBegun c) = s
store_after s (Ended a) = s
store_after s Stopped = s
store_after s (Failed a) = s

-- What may happen at a moment. Memory may be wanting at any, and room in an actor's own history.
abbrev pub May : {S : Type 0} → Programs S → WorldState S → Event → Type 0
May P m (Own op h) = OwnMay P m.counts (m.actors op.actor) op h × IsReply m.store h
May P m Dumped = Unit {0}

-- the moment after an event
abbrev pub after : {S : Type 0} → Programs S → WorldState S → Event → WorldState S
after P m (Own op h) = with_actor (record m { store = store_after m.store h }) op.actor (own_after P m.counts (m.actors op.actor) op h)
after P m Dumped = m

abbrev pub after_all : {S : Type 0} → Programs S → WorldState S → List Event → WorldState S
after_all P m [] = m
after_all P m (e ∷ es) = after_all P (after P m e) es

-- each event may happen at the moment after those before it
abbrev pub RunFrom : {S : Type 0} → Programs S → WorldState S → List Event → Type 0
RunFrom P m [] = Unit {0}
RunFrom P m (e ∷ es) = May P m e × RunFrom P (after P m e) es

-- The runs of the world: from the opening store and idle actors, each event is one that may happen then.
abbrev pub IsWorldRun : {S : Type 0} → Programs S → Counts → List Event → Type 0
IsWorldRun P counts events = RunFrom P (opening counts) events

-- the moment after a history
abbrev pub moment : {S : Type 0} → Programs S → Counts → List Event → WorldState S
moment P counts events = after_all P (opening counts) events
