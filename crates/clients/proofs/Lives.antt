-- the fields of a client against its life
use Rattle.std.proofs.Common.{◌≡◌, ◌+◌, ◌<◌, ◌^◌, Option, List, [], length, sym, ap, ◌∙◌, subst, arith}
use Rattle.std.proofs.lemmas.List.{append-nil, length-map}
use Rattle.tect_ids.specs.declared.ids.Counts.{Counts}
use Rattle.tect_ids.specs.Places.{HasPlaces}
use Rattle.memories.specs.Knowing.{IsActor}
use Rattle.tect_ids.specs.declared.ids.OpId.{OpId}
use Rattle.program_forms.specs.Kinds.{Programs}
use Rattle.program_calls.specs.Keeping.{KeepsSerial}
use Rattle.passes.specs.declared.pass.Pass.{Pass}
use Rattle.world_runs.specs.declared.event.Event.{Event}
use Rattle.world_runs.specs.Actors.{Actor, Running, idle_actor}
use Rattle.world_runs.specs.Report.{transactions}
use Rattle.world_runs.specs.Events.{event_of, own}
use Rattle.world_runs.specs.Limits.{OwnLimits}
use Rattle.world_runs.specs.OwnRuns.{OwnRun, own_state}
use Rattle.world_runs.specs.Refusals.{AreOfRefused}
use Rattle.world_runs.specs.Smooth.{OwnEndsAtOnce}
use Rattle.clients.specs.ActorState.{ActorState}
use Rattle.clients.specs.declared.client.Client.TheInside.{Inside}
use Rattle.clients.specs.Lives.{events_in, state_in, op_in, IsLife}
use Rattle.clients.specs.Refused.{IsGoing, RunsIn}
use Rattle.clients.specs.ClientInside.{life_of, told_actor, IsFullOnce, StandsAs, IsClient}
use Rattle.clients.proofs.Growing.{serials-few}
use Rattle.clients.proofs.Stages.{own_events, Stage}
use Rattle.clients.proofs.OwnSteps.{life_at}

length_of : (p : Pass) → length (own_events p) ≡ length p.moments.items
length_of p = length-map p.moments.items event_of

module _ {S : Type 0} (P : Programs S) where
  -- what is so of each client
  pub is_life : (a : Inside S) → IsClient P a → IsLife P (life_of a)
  is_life a is = record {
    places = is.places;
    is_actor = is.is_actor;
    run = is.run;
    prompt = is.prompt;
    limits = is.limits;
    own = is.own;
    few = omega (arith, a.pass.known.few);
    moments_own = rw (← is.same) a.pass.known.own;
    notes_own = rw (← is.same) a.pass.known.notes_own;
    rising = a.pass.known.rising;
    placed = is.placed;
    silent = is.silent;
    going = subst (λ (o : Option OpId). RunsIn a.refused.items o (state_in P (life_of a)).running) a.pass.known.going is.going;
  }

  -- ---- where no op was refused

  module _ (a : Inside S) (noted : a.refused.items ≡ []) where
    pub life_noted : life_of a ≡ life_at (told_actor P a) a.pass
    life_noted i = record
        { counts = a.counts; actor = a.actor.actor; clock = a.pass.clock; moments = a.pass.moments.items; silent = noted i }

    pub events_noted : events_in (life_of a) ≡ own_events a.pass
    events_noted = ap events_in life_noted ∙ append-nil (own_events a.pass)

    going_noted : (es : List Event) → es ≡ [] → (o : Option OpId) (running : Option (Running S)) → RunsIn es o running → RunsIn [] o running
    going_noted es is o running going = rw is at going

    pub goes_noted : IsClient P a → IsGoing (state_in P (life_of a)).running
    goes_noted is = (going_noted a.refused.items noted a.pass.running (state_in P (life_of a)).running is.going).1

    pub stage_of : IsClient P a → Stage P (told_actor P a) a.pass a.transactions
    stage_of is =
        let going : RunsIn [] a.pass.running (state_in P (life_of a)).running =
        going_noted a.refused.items noted a.pass.running (state_in P (life_of a)).running is.going in
        record {
          same = is.same;
          state = ap (own_state P a.counts idle_actor) events_noted;
          run = subst (OwnRun P a.counts idle_actor) events_noted is.run;
          limits = λ early. subst (OwnLimits P a.counts [] idle_actor) events_noted (is.limits early);
          own = subst (λ (es : List Event). own a.actor.actor es ≡ es) events_noted is.own;
          placed = is.placed;
          own_op = is.own_op;
          going = going.0;
          counted = is.counted ∙ ap (λ (es : List Event). transactions es (op_in P (life_of a))) events_noted;
        }

    -- t is the actor as its events tell it
    module _ (t : ActorState S) (actor : t.actor ≡ a.actor.actor) (counts : t.counts ≡ a.counts)
        (stage : Stage P t a.pass a.transactions) where
      told_is : t ≡ told_actor P a
      told_is =
          let state : t.state ≡ state_in P (life_of a) =
          stage.state ∙ ap (λ (c : Counts). own_state P c idle_actor (own_events a.pass)) counts
          ∙ ap (own_state P a.counts idle_actor) (sym events_noted) in
          λ i. record { actor = actor i; counts = counts i; state = state i }

      stage_told : Stage P (told_actor P a) a.pass a.transactions
      stage_told = subst (λ (z : ActorState S). Stage P z a.pass a.transactions) told_is stage

      pub client_of : HasPlaces a.counts → IsActor a.actor.actor → StandsAs P t a.actor → IsGoing t.state.running
          → OwnEndsAtOnce P a.counts idle_actor (events_in (life_of a)) → IsClient P a
      client_of places is_actor stands goes prompt = record {
        places = places;
        is_actor = is_actor;
        same = stage_told.same;
        stands = subst (λ (z : ActorState S). StandsAs P z a.actor) told_is stands;
        run = subst (OwnRun P a.counts idle_actor) (sym events_noted) stage_told.run;
        prompt = prompt;
        limits = λ early. subst (OwnLimits P a.counts [] idle_actor) (sym events_noted) (stage_told.limits early);
        own = subst (λ (es : List Event). own a.actor.actor es ≡ es) (sym events_noted) stage_told.own;
        placed = stage_told.placed;
        silent = subst (AreOfRefused []) (sym noted) tt;
        own_op = stage_told.own_op;
        going = subst (λ (es : List Event). RunsIn es a.pass.running (state_in P (life_of a)).running) (sym noted)
            (stage_told.going, subst (λ (z : ActorState S). IsGoing z.state.running) told_is goes);
        full = subst (λ (es : List Event). IsFullOnce es a.pass) (sym noted) tt;
        counted = stage_told.counted ∙ ap (λ (es : List Event). transactions es (op_in P (life_of a))) (sym events_noted);
        room = λ runs some. absurd (omega (arith, ap length noted, some));
      }

    -- its numbers are small
    pub serial_few : KeepsSerial P → IsClient P a → (state_in P (life_of a)).memory.serial + 1 < 2 ^ 32
    serial_few keeps is =
        let stage = stage_of is in
        let few = serials-few P a.counts keeps (own_events a.pass) in
        let serial : (state_in P (life_of a)).memory.serial ≡ (own_state P a.counts idle_actor (own_events a.pass)).memory.serial
        = ap (λ (s : Actor S). s.memory.serial) stage.state in
        omega (arith, few, serial, a.pass.known.few, length_of a.pass)
