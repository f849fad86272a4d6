-- A client that only got room: what its pass and its refused ops hold is the same.
use Rattle.std.proofs.Common.{◌≡◌, ◌∙◌, sym, subst, arith, ◌<◌, ◌≤◌, ◌^◌, IsSome, List, [], ◌∷◌, Option}
use Rattle.std.specs.Prelude.{vec_len, vec_capacity}
use Rattle.std.specs.List.{All}
use Rattle.std.specs.Option.{ForSome}
use Rattle.tect_ids.specs.declared.ids.OpId.{OpId}
use Rattle.entry_words.specs.declared.entry.Moment.{Moment}
use Rattle.passes.specs.declared.pass.Pass.{Pass}
use Rattle.program_forms.specs.Kinds.{Programs}
use Rattle.world_runs.specs.declared.event.Event.{Event}
use Rattle.world_runs.specs.Actors.{idle_actor}
use Rattle.world_runs.specs.Report.{transactions}
use Rattle.world_runs.specs.Events.{own, IsPlaced}
use Rattle.world_runs.specs.OwnRuns.{OwnRun}
use Rattle.world_runs.specs.Limits.{OwnLimits}
use Rattle.world_runs.specs.Refusals.{AreOfRefused}
use Rattle.world_runs.specs.Smooth.{OwnEndsAtOnce}
use Rattle.clients.specs.declared.client.Client.TheInside.{Inside}
use Rattle.clients.specs.Lives.{ClientLife, events_in, state_in, op_in}
use Rattle.clients.specs.Refused.{RunsIn}
use Rattle.clients.specs.ClientInside.{life_of, StandsAs, IsFullOnce, IsClient}
use Rattle.clients.proofs.Closings.{same_full}

full_once : (es : List Event) (p r : Pass) → r.moments.items ≡ p.moments.items → r.running ≡ p.running → r.clock ≡ p.clock
    → IsFullOnce es p → IsFullOnce es r
full_once [] p r moments running clock full = tt
full_once (e ∷ es) p r moments running clock full = same_full r p (sym moments) (sym running) (sym clock) full

module _ {S : Type 0} (P : Programs S) (a : Inside S) (is : IsClient P a) where
  -- its pass got room
  pub reserved_pass : (r : Pass) → r.moments.items ≡ a.pass.moments.items → r.running ≡ a.pass.running → r.clock ≡ a.pass.clock
      → r.actor ≡ a.pass.actor → IsClient P (record a { pass = r })
  reserved_pass r moments running clock actor =
      let life : life_of a ≡ life_of (record a { pass = r }) = λ i. record {
        counts = a.counts;
        actor = a.actor.actor;
        clock = sym clock i;
        moments = sym moments i;
        silent = a.refused.items;
      } in
      record {
        places = is.places;
        is_actor = is.is_actor;
        same = actor ∙ is.same;
        stands = subst (λ (l : ClientLife). StandsAs P (record { actor = a.actor.actor; counts = a.counts; state = state_in P l }) a.actor)
            life is.stands;
        run = subst (λ (l : ClientLife). OwnRun P a.counts idle_actor (events_in l)) life is.run;
        prompt = subst (λ (l : ClientLife). OwnEndsAtOnce P a.counts idle_actor (events_in l)) life is.prompt;
        limits = subst (λ (l : ClientLife). l.clock < 2 ^ 63 → OwnLimits P a.counts [] idle_actor (events_in l)) life is.limits;
        own = subst (λ (l : ClientLife). own a.actor.actor (events_in l) ≡ events_in l) life is.own;
        placed = subst (λ (ms : List Moment). All (IsPlaced a.counts) ms) (sym moments) is.placed;
        silent = is.silent;
        own_op = subst (λ (l : ClientLife). ForSome (state_in P l).running (λ r. r.op ≡ op_in P l)) life is.own_op;
        going = subst (λ (o : Option OpId). RunsIn a.refused.items o (state_in P (life_of (record a { pass = r }))).running) (sym running)
            (subst (λ (l : ClientLife). RunsIn a.refused.items a.pass.running (state_in P l).running) life is.going);
        full = full_once a.refused.items a.pass r moments running clock is.full;
        counted = subst (λ (l : ClientLife). a.transactions ≡ transactions (events_in l) (op_in P l)) life is.counted;
        room = subst (λ (l : ClientLife). IsSome (state_in P l).running → 0 < vec_len a.refused
            → vec_len a.refused < vec_capacity a.refused) life is.room;
      }

  -- its refused ops got room
  module _ (b : Inside S) (items : b.refused.items ≡ a.refused.items) (len : vec_len b.refused ≡ vec_len a.refused)
      (more : vec_capacity a.refused ≤ vec_capacity b.refused) where
    abbrev roomier : Inside S
    roomier = record a { refused = b.refused }

    same_life : life_of a ≡ life_of roomier
    same_life i = record {
      counts = a.counts;
      actor = a.actor.actor;
      clock = a.pass.clock;
      moments = a.pass.moments.items;
      silent = sym items i;
    }

    pub reserved_refused : IsClient P roomier
    reserved_refused = record {
      places = is.places;
      is_actor = is.is_actor;
      same = is.same;
      stands = subst (λ (l : ClientLife). StandsAs P (record { actor = a.actor.actor; counts = a.counts; state = state_in P l }) a.actor)
          same_life is.stands;
      run = subst (λ (l : ClientLife). OwnRun P a.counts idle_actor (events_in l)) same_life is.run;
      prompt = subst (λ (l : ClientLife). OwnEndsAtOnce P a.counts idle_actor (events_in l)) same_life is.prompt;
      limits = λ early. subst (λ (l : ClientLife). OwnLimits P a.counts [] idle_actor (events_in l)) same_life (is.limits early);
      own = subst (λ (l : ClientLife). own a.actor.actor (events_in l) ≡ events_in l) same_life is.own;
      placed = is.placed;
      silent = subst (AreOfRefused []) (sym items) is.silent;
      own_op = subst (λ (l : ClientLife). ForSome (state_in P l).running (λ r. r.op ≡ op_in P l)) same_life is.own_op;
      going = subst (λ (l : ClientLife). RunsIn l.silent a.pass.running (state_in P l).running) same_life is.going;
      full = subst (λ (es : List Event). IsFullOnce es a.pass) (sym items) is.full;
      counted = subst (λ (l : ClientLife). a.transactions ≡ transactions (events_in l) (op_in P l)) same_life is.counted;
      room = λ runs some. omega (
        arith,
        is.room (subst (λ (l : ClientLife). IsSome (state_in P l).running) (sym same_life) runs) (omega (arith, some, len)),
        len,
        more,
      );
    }
