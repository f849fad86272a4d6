-- a client one of whose ops was refused: nothing is noted any more
use Rattle.std.proofs.Common.{◌≡◌, ℕ, ◌<◌, ◌^◌, true, Option, None, IsSome, List, [], ◌∷◌, ◌++◌, sym, ap, ◌∙◌, subst}
use Rattle.std.proofs.Common.{append_assoc}
use Rattle.std.specs.Prelude.{vec_len, vec_capacity}
use Rattle.std.specs.Option.{ForSome}
use Rattle.tect_ids.specs.declared.ids.Counts.{Counts}
use Rattle.tect_ids.specs.declared.ids.OpId.{OpId}
use Rattle.program_forms.specs.Kinds.{Programs}
use Rattle.passes.specs.declared.pass.Pass.{Pass}
use Rattle.passes.specs.Commits as passes
use Rattle.world_runs.specs.declared.event.Event.{Event}
use Rattle.world_runs.specs.Actors.{Actor, Running, idle_actor}
use Rattle.world_runs.specs.Races.{is_own}
use Rattle.world_runs.specs.Report.{transactions}
use Rattle.world_runs.specs.Events.{events_of, own}
use Rattle.world_runs.specs.Limits.{KeepsRoom, OwnLimits}
use Rattle.world_runs.specs.OwnRuns.{OwnMayHappen, OwnRun, own_next, own_state}
use Rattle.world_runs.specs.Refusals.{IsOfRefused, AreOfRefused}
use Rattle.world_runs.specs.Smooth.{IsPromptFrom, OwnEndsAtOnce}
use Rattle.world_runs.proofs.Refusals.{of_refused-append}
use Rattle.clients.specs.ActorState.{ActorState}
use Rattle.clients.specs.declared.client.Client.TheInside.{Inside}
use Rattle.clients.specs.Lives.{events_in, state_in, op_in}
use Rattle.clients.specs.Refused.{IsRefused, RunsIn}
use Rattle.clients.specs.ClientInside.{life_of, told_actor, StandsAs, IsFullOnce, IsClient}
use Rattle.clients.proofs.Growing.{state_push, run_push, limits_push, own_push}
use Rattle.clients.proofs.Prompts.{prompt_push}

module _ {S : Type 0} (P : Programs S) where
  -- the actor after an event, as its events tell it
  abbrev pub next_state : Inside S → Event → Actor S
  next_state a e = own_next P a.counts (state_in P (life_of a)) e

  abbrev pub next_actor : Inside S → Event → ActorState S
  next_actor a e = record { actor = a.actor.actor; counts = a.counts; state = next_state a e }

  abbrev pub next_last : Inside S → Event → OpId
  next_last a e = record { actor = a.actor.actor; number = (next_state a e).number }

  -- one event more that is not noted
  pub record Passed (a b : Inside S) (e : Event) : Type 0 where
    pub counts : b.counts ≡ a.counts
    pub pass : b.pass ≡ a.pass
    pub actor : b.actor.actor ≡ a.actor.actor
    pub silent : b.refused.items ≡ a.refused.items ++ e ∷ []
    pub may : OwnMayHappen P a.counts (state_in P (life_of a)) e
    pub room : a.pass.clock < 2 ^ 63 → KeepsRoom P a.counts (events_in (life_of a)) (state_in P (life_of a)) e
    pub mine : is_own a.actor.actor e ≡ true
    pub quiet : IsOfRefused a.refused.items e
    pub prompt : (s : Actor S) → IsPromptFrom P a.counts s e []
    pub stands : StandsAs P (next_actor a e) b.actor
    pub own_op : ForSome (next_state a e).running (λ r. r.op ≡ next_last a e)
    pub idle : a.pass.running ≡ None
    pub full : passes.IsFullForBegin a.pass
    pub refused : IsRefused (a.refused.items ++ e ∷ []) (next_state a e).running
    pub counted : b.transactions ≡ transactions (events_in (life_of a) ++ e ∷ []) (next_last a e)
    pub space : IsSome (next_state a e).running → vec_len b.refused < vec_capacity b.refused

  by_push : (es : List Event) (e : Event) (o : Option OpId) (running : Option (Running S)) → o ≡ None → IsRefused (es ++ e ∷ []) running
      → RunsIn (es ++ e ∷ []) o running
  by_push [] e o running none refused = (none, refused)
  by_push (x ∷ es) e o running none refused = (none, refused)

  full_push : (es : List Event) (e : Event) (p : Pass) → passes.IsFullForBegin p → IsFullOnce (es ++ e ∷ []) p
  full_push [] e p full = full
  full_push (x ∷ es) e p full = full

  module _ (a b : Inside S) (e : Event) (is : IsClient P a) (passed : Passed a b e) where
    pub passed_events : events_in (life_of b) ≡ events_in (life_of a) ++ e ∷ []
    passed_events =
        ap (λ (p : Pass). events_of p.moments.items ++ b.refused.items) passed.pass ∙ ap
        (λ (es : List Event). events_of a.pass.moments.items ++ es) passed.silent
        ∙ sym (append_assoc (events_of a.pass.moments.items) a.refused.items (e ∷ []))

    state_is : state_in P (life_of b) ≡ next_state a e
    state_is =
        ap (λ (c : Counts). own_state P c idle_actor (events_in (life_of b))) passed.counts
        ∙ ap (own_state P a.counts idle_actor) passed_events ∙ state_push P a.counts (events_in (life_of a)) e

    told_is : told_actor P b ≡ next_actor a e
    told_is i = record { actor = passed.actor i; counts = passed.counts i; state = state_is i }

    last_is : op_in P (life_of b) ≡ next_last a e
    last_is i = record { actor = passed.actor i; number = (state_is i).number }

    passed_limits : b.pass.clock < 2 ^ 63 → OwnLimits P a.counts [] idle_actor (events_in (life_of a) ++ e ∷ [])
    passed_limits early =
        let soon : a.pass.clock < 2 ^ 63 = subst (λ (p : Pass). p.clock < 2 ^ 63) passed.pass early in
        limits_push P a.counts (events_in (life_of a)) e (is.limits soon) (passed.room soon)

    passed_own : own b.actor.actor (events_in (life_of a) ++ e ∷ []) ≡ events_in (life_of a) ++ e ∷ []
    passed_own = ap (λ (k : ℕ). own k (events_in (life_of a) ++ e ∷ [])) passed.actor ∙ own_push a.actor.actor (events_in (life_of a)) e
        is.own passed.mine

    -- what is so of the events after it
    there : (Q : Counts → List Event → Type 0) → Q a.counts (events_in (life_of a) ++ e ∷ []) → Q b.counts (events_in (life_of b))
    there Q q = subst (λ (c : Counts). Q c (events_in (life_of b))) (sym passed.counts)
        (subst (Q a.counts) (sym passed_events) q)

    pub passed_client : IsClient P b
    passed_client = record {
      places = rw passed.counts is.places;
      is_actor = rw passed.actor is.is_actor;
      same = ap (λ (p : Pass). p.actor) passed.pass ∙ is.same ∙ sym passed.actor;
      stands = subst (λ (z : ActorState S). StandsAs P z b.actor) (sym told_is) passed.stands;
      run = there (λ c es. OwnRun P c idle_actor es) (run_push P a.counts (events_in (life_of a)) e is.run passed.may);
      prompt = there (λ c es. OwnEndsAtOnce P c idle_actor es) (prompt_push P a.counts (events_in (life_of a)) e passed.prompt is.prompt);
      limits = λ early. there (λ c es. OwnLimits P c [] idle_actor es) (passed_limits early);
      own = subst (λ (es : List Event). own b.actor.actor es ≡ es) (sym passed_events) passed_own;
      placed = rw (passed.counts, passed.pass) is.placed;
      silent = subst (AreOfRefused []) (sym passed.silent) (of_refused-append [] a.refused.items (e ∷ []) is.silent (passed.quiet, tt));
      own_op = subst (λ (z : ActorState S). ForSome z.state.running (λ r. r.op ≡ record { actor = z.actor; number = z.state.number }))
          (sym told_is) passed.own_op;
      going = subst (λ (es : List Event). RunsIn es b.pass.running (state_in P (life_of b)).running) (sym passed.silent)
          (subst (λ (s : Actor S). RunsIn (a.refused.items ++ e ∷ []) b.pass.running s.running) (sym state_is)
          (by_push a.refused.items e b.pass.running (next_state a e).running (ap (λ (p : Pass). p.running) passed.pass ∙ passed.idle)
          passed.refused));
      full = subst (λ (es : List Event). IsFullOnce es b.pass) (sym passed.silent)
          (full_push a.refused.items e b.pass (rw passed.pass passed.full));
      counted = passed.counted ∙ ap (λ (es : List Event). transactions es (next_last a e)) (sym passed_events)
          ∙ ap (transactions (events_in (life_of b))) (sym last_is);
      room = λ runs some. passed.space (subst (λ (s : Actor S). IsSome s.running) state_is runs);
    }
