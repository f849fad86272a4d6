-- The fields of a client are told by what it noted and did.
use Rattle.std.specs.Prelude.{◌≡◌, ◌<◌, ◌^◌, ◌⊎◌, true, List, [], ◌∷◌, None, IsSome, vec_len, vec_capacity}
use Rattle.std.specs.List.{All}
use Rattle.std.specs.Option.{ForSome}
use Rattle.tect_ids.specs.Places.{HasPlaces}
use Rattle.memories.specs.Knowing.{IsActor}
use Rattle.passes.specs.declared.pass.Pass.{Pass}
use Rattle.passes.specs.Commits.{IsFullForBegin}
use Rattle.program_forms.specs.Kinds.{Programs}
use Rattle.world_runs.specs.declared.event.Event.{Event}
use Rattle.world_runs.specs.Actors.{idle_actor}
use Rattle.world_runs.specs.Report.{transactions}
use Rattle.world_runs.specs.Events.{own, IsPlaced}
use Rattle.world_runs.specs.OwnRuns.{OwnRun}
use Rattle.world_runs.specs.Limits.{OwnLimits}
use Rattle.world_runs.specs.Refusals.{AreOfRefused}
use Rattle.world_runs.specs.Smooth.{OwnEndsAtOnce}
use Rattle.clients.specs.ActorState.{ActorState}
use Rattle.clients.specs.ActorCalls.{looked, left_behind}
use Rattle.clients.specs.declared.client.Client.TheInside.{Inside}
use Rattle.clients.specs.Lives.{ClientLife, events_in, state_in, op_in}
use Rattle.clients.specs.Refused.{RunsIn}

abbrev pub life_of : {S : Type 0} → Inside S → ClientLife
life_of a = record
    { counts = a.counts; actor = a.actor.actor; clock = a.pass.clock; moments = a.pass.moments.items; silent = a.refused.items }

-- an op was refused only where the pass was full, and it stays so
abbrev pub IsFullOnce : List Event → Pass → Type 0
IsFullOnce [] p = Unit {0}
IsFullOnce (e ∷ es) p = IsFullForBegin p

-- The actor stands as its events tell. Behind a request that went astray its look-ups are done, and its command goes on no more; and
-- once it stopped, nothing is told of its memory.
abbrev pub StandsAs : {S : Type 0} → Programs S → ActorState S → ActorState S → Type 0
StandsAs P told a =
    (a ≡ told) ⊎ ((a ≡ left_behind (looked P told))
    ⊎ ((told.state.stopped ≡ true) × (told.state.running ≡ None)
    × (a ≡ record told { state = record told.state { memory = a.state.memory } })))

-- the actor's state as its events tell it
abbrev pub told_actor : {S : Type 0} → Programs S → Inside S → ActorState S
told_actor P a = record { actor = a.actor.actor; counts = a.counts; state = state_in P (life_of a) }

pub record IsClient {S : Type 0} (P : Programs S) (a : Inside S) : Type 0 where
  pub places : HasPlaces a.counts
  pub is_actor : IsActor a.actor.actor
  pub same : a.pass.actor ≡ a.actor.actor
  pub stands : StandsAs P (told_actor P a) a.actor
  pub run : OwnRun P a.counts idle_actor (events_in (life_of a))
  pub prompt : OwnEndsAtOnce P a.counts idle_actor (events_in (life_of a))
  pub limits : a.pass.clock < 2 ^ 63 → OwnLimits P a.counts [] idle_actor (events_in (life_of a))
  pub own : own a.actor.actor (events_in (life_of a)) ≡ events_in (life_of a)
  pub placed : All (IsPlaced a.counts) a.pass.moments.items
  pub silent : AreOfRefused [] a.refused.items
  pub own_op : ForSome (state_in P (life_of a)).running (λ r. r.op ≡ op_in P (life_of a))
  pub going : RunsIn a.refused.items a.pass.running (state_in P (life_of a)).running
  pub full : IsFullOnce a.refused.items a.pass
  pub counted : a.transactions ≡ transactions (events_in (life_of a)) (op_in P (life_of a))
  pub room : IsSome (state_in P (life_of a)).running → 0 < vec_len a.refused → vec_len a.refused < vec_capacity a.refused
