-- the fields of a client after what its calls did
use Rattle.std.proofs.Common.{◌≡◌, ◌≢◌, ◌⊎◌, inl, ℕ, ◌+◌, ◌<◌, ◌^◌, true, false, Option, Some, None, IsSome, IsNone, [], ◌∷◌, ◌++◌}
use Rattle.std.proofs.Common.{length, refl, sym, ap, ◌∙◌, subst, arith}
use Rattle.std.specs.Prelude.{Result, Ok, Err, IsOk, OnOk, is_err, ◌==◌, vec_len}
use Rattle.tect_ids.specs.declared.ids.Counts.{Counts}
use Rattle.tect_ids.specs.declared.ids.OpId.{OpId}
use Rattle.tect_ids.specs.declared.answer.Answer.{Answer}
use Rattle.tect_ids.specs.declared.command.Command.{Command}
use Rattle.store_rules.specs.declared.any.AnyReq.{AnyReq}
use Rattle.program_forms.specs.declared.standing.Standing.{Standing}
use Rattle.program_forms.specs.declared.standing.Standing.TheVariants.{Goes, Left, NoRoom}
use Rattle.program_forms.specs.Memories.{Memory}
use Rattle.program_forms.specs.Kinds.{Programs}
use Rattle.program_calls.specs.Keeping.{KeepsSerial}
use Rattle.entry_words.specs.declared.entry.Entry.{Entry}
use Rattle.entry_words.specs.declared.entry.Moment.TheVariants.{Local}
use Rattle.entry_words.specs.declared.entry.Note.TheVariants as notes
use Rattle.entry_words.specs.declared.entry.Refused.{Refused}
use Rattle.passes.specs.declared.pass.Pass.{Pass}
use Rattle.passes.specs.Commits as passes
use Rattle.world_runs.specs.declared.event.Event.{Event}
use Rattle.world_runs.specs.declared.event.Event.TheVariants.{Own}
use Rattle.world_runs.specs.declared.event.Happening.TheVariants.{Began, Stopped}
use Rattle.world_runs.specs.Actors.{Actor, Running, idle_actor, begun, has_ended}
use Rattle.world_runs.specs.Events.{events_of}
use Rattle.world_runs.specs.Smooth.{OwnEndsAtOnce, IsPromptFrom}
use Rattle.clients.specs.ActorState.{ActorState, op_of, next_op_of}
use Rattle.clients.specs.ActorCalls.{looked, left_behind}
use Rattle.clients.specs.Turns.{turned_by}
use Rattle.clients.specs.declared.client.Client.TheInside.{Inside}
use Rattle.clients.specs.declared.steps.Step.{Step}
use Rattle.clients.specs.Lives.{ClientLife, events_in, state_in, IsLife, RefusesNext}
use Rattle.clients.specs.Refused.{IsGoing}
use Rattle.clients.specs.ClientInside.{life_of, told_actor, StandsAs, IsClient}
use Rattle.clients.specs.Steps.{Tried, Unasked, Did, Denied, OwnStep}
use Rattle.clients.specs.PassSteps.{Finishes, StepEnds, TookStep, after_try}
use Rattle.clients.proofs.Prompts.{prompt_push, prompt_step}
use Rattle.clients.proofs.Stages.{own_events, Stage, ended_none}
use Rattle.clients.proofs.OwnSteps.{life_at, step_stage, own_step}
use Rattle.clients.proofs.Stands.{stands_runs, stands_idle, stands_stop, stands_op}
use Rattle.clients.proofs.Stands.{stands_serial}
use Rattle.clients.proofs.Stands.{seen_step}
use Rattle.clients.proofs.Lives.{is_life, life_noted, events_noted, goes_noted, stage_of, client_of, serial_few}
use Rattle.clients.proofs.Begins.{none_of, refuses, is_full, all_noted, begun_stage, begun_events, stopped_stage, stopped_events}

-- ---- results

pub on_ok_map : {T E P Q : Type 0} (r : Result T E) → (P → Q) → OnOk r P → OnOk r Q
on_ok_map (Ok x) f p = f p
on_ok_map (Err e) f p = p

pub at_ok : {T E P : Type 0} (r : Result T E) → IsOk r → OnOk r P → P
at_ok (Ok x) is p = p
at_ok (Err e) is p = absurd (grind (arith, is))

pub ok_no_err : {T E : Type 0} (r : Result T E) → IsOk r → is_err r ≡ true → ⊥
ok_no_err (Ok x) is bad = cc
ok_no_err (Err e) is bad = absurd (grind (arith, is))

pub same_full : (p r : Pass) → r.moments.items ≡ p.moments.items → r.running ≡ p.running → r.clock ≡ p.clock → passes.IsFullForBegin r
    → passes.IsFullForBegin p
same_full p r moments running clock full = rw (moments, running, clock) at full

module _ {S : Type 0} where
  pub some_items : (a : Inside S) → (vec_len a.refused == 0) ≡ false → a.refused.items ≢ []
  some_items a some none =
      let zero_len : vec_len a.refused ≡ 0 = omega (arith, ap length none) in
      let bad : (vec_len a.refused == 0) ≡ true = ap (λ (n : ℕ). n == 0) zero_len in
      cc

  going_at : (P : Programs S) (c : Counts) (m : Memory) (op : OpId) (at : Standing S)
      → (let r : Running S = record { op = op; at = at } in has_ended P c m (Some r) ≡ false → IsGoing (Some r))
  going_at P c m op (Goes s) is = tt
  going_at P c m op Left is = absurd cc
  going_at P c m op NoRoom is = absurd cc

  going_by : (P : Programs S) (c : Counts) (m : Memory) (o : Option (Running S)) → has_ended P c m o ≡ false → IsGoing o
  going_by P c m None is = tt
  going_by P c m (Some r) is = going_at P c m r.op r.at is

  none_goes : (o : Option (Running S)) → o ≡ None → IsGoing o
  none_goes None is = tt
  none_goes (Some r) is = absurd cc

module _ {S : Type 0} (P : Programs S) where
  -- ---- what is known before

  module _ (a : Inside S) (l : ClientLife) (is : IsClient P a) (view : life_of a ≡ l) where
    seen : state_in P l ≡ state_in P (life_of a)
    seen = ap (state_in P) (sym view)

    pub runs_here : IsSome (state_in P l).running → IsSome (state_in P (life_of a)).running
    runs_here runs = subst (λ (s : Actor S). IsSome s.running) seen runs

    pub idle_here : IsNone (state_in P l).running → (state_in P (life_of a)).running ≡ None
    idle_here idle = none_of (state_in P (life_of a)).running (subst (λ (s : Actor S). IsNone s.running) seen idle)

    pub goes_here : (state_in P l).stopped ≡ false → (state_in P (life_of a)).stopped ≡ false
    goes_here goes = subst (λ (s : Actor S). s.stopped ≡ false) seen goes

    pub few_here : (state_in P l).number + 1 < 2 ^ 31 → (state_in P (life_of a)).number + 1 < 2 ^ 31
    few_here few = subst (λ (s : Actor S). s.number + 1 < 2 ^ 31) seen few

    pub silent_here : l.silent ≡ [] → a.refused.items ≡ []
    silent_here noted = ap (λ (x : ClientLife). x.silent) view ∙ noted

    pub some_here : l.silent ≢ [] → a.refused.items ≢ []
    some_here some noted = some (ap (λ (x : ClientLife). x.silent) (sym view) ∙ noted)

    pub some_there : a.refused.items ≢ [] → l.silent ≢ []
    some_there some noted = some (silent_here noted)

    pub life_here : IsLife P l
    life_here = subst (IsLife P) view (is_life P a is)

    pub full_here : RefusesNext l → passes.IsFullForBegin a.pass
    full_here full = is_full P a is (subst RefusesNext (sym view) full)

    pub refuses_here : passes.IsFullForBegin a.pass → RefusesNext l
    refuses_here full = subst RefusesNext view (refuses P a is full)

    pub noted_here : ¬ RefusesNext l → a.refused.items ≡ []
    noted_here room = all_noted P a is (λ full. room (subst RefusesNext view full))

    -- its actor, as its calls want it
    pub actor_idle : IsNone (state_in P l).running → (state_in P l).stopped ≡ false → a.actor ≡ told_actor P a
    actor_idle idle goes = stands_idle P (told_actor P a) a.actor is.stands (idle_here idle) (goes_here goes)

    pub actor_few : KeepsSerial P → l.silent ≡ [] → IsSome (state_in P l).running → a.actor.state.memory.serial + 1 < 2 ^ 32
    actor_few keeps noted runs =
        omega (
          arith,
          serial_few P a (silent_here noted) keeps is,
          stands_serial P (told_actor P a) a.actor keeps is.stands (runs_here runs),
        )

  -- ---- a step

  module _ (a b : ActorState S) (p r : Pass) where
    finished_actor : (answer : Option Answer) → Finishes P a b p r answer → b.actor ≡ a.actor
    finished_actor None done = ap (λ (x : ActorState S). x.actor) done.0
    finished_actor (Some x) done = ap (λ (x : ActorState S). x.actor) done.0

    finished_counts : (answer : Option Answer) → Finishes P a b p r answer → b.counts ≡ a.counts
    finished_counts None done = ap (λ (x : ActorState S). x.counts) done.0
    finished_counts (Some x) done = ap (λ (x : ActorState S). x.counts) done.0

    going_ends : (tried : Tried) → StepEnds P a tried None → IsGoing a.state.running
    going_ends Unasked ends = absurd ends
    going_ends (Did q x h) ends = going_by P a.counts a.state.memory a.state.running ends
    going_ends (Denied q e) ends = absurd ends

    finished_goes : (tried : Tried) (answer : Option Answer) → StepEnds P a tried answer → Finishes P a b p r answer
        → IsGoing b.state.running
    finished_goes tried None ends done = subst (λ (z : ActorState S). IsGoing z.state.running) (sym done.0) (going_ends tried ends)
    finished_goes tried (Some x) ends done =
        none_goes b.state.running (ap (λ (z : ActorState S). z.state.running) done.0 ∙ ended_none P a.counts a.state)

  module _ {W : Type 0} (done : W → W → ℕ → AnyReq → Result Entry Refused → Type 0) (w v : W) (a b : Inside S) (l : ClientLife)
      (is : IsClient P a) (view : life_of a ≡ l)
      (noted : l.silent ≡ []) (runs : IsSome (state_in P l).running) (counts : b.counts ≡ a.counts) (refused : b.refused ≡ a.refused) where
    noted_before : a.refused.items ≡ []
    noted_before = silent_here a l is view noted

    noted_after : b.refused.items ≡ []
    noted_after = ap (λ (x : _). x.items) refused ∙ noted_before

    abbrev told : ActorState S
    told = told_actor P a

    stands : (a.actor ≡ told) ⊎ (a.actor ≡ left_behind (looked P told))
    stands = stands_runs P told a.actor is.stands (runs_here a l is view runs)

    module _ (step : Step) (took : TookStep P done w v a.actor b.actor a.pass b.pass step) where
      seen_took : TookStep P done w v told b.actor a.pass b.pass step
      seen_took = seen_step P done w v told b.actor a.pass b.pass step a.actor stands took

      after_actor : b.actor.actor ≡ a.actor.actor
      after_actor = finished_actor _ b.actor _ b.pass step.answer seen_took.finishes

      after_counts : b.actor.counts ≡ b.counts
      after_counts = finished_counts _ b.actor _ b.pass step.answer seen_took.finishes ∙ sym counts

      here : OwnStep P done w v (life_at told a.pass) (life_at b.actor b.pass) (turned_by step.answer)
      here = own_step P done w v told b.actor a.pass b.pass a.transactions (stage_of P a noted_before is) (runs_here a l is view runs)
          (goes_noted P a noted_before is) step seen_took

      life_after : life_at b.actor b.pass ≡ life_of b
      life_after i = record {
        counts = after_counts i;
        actor = b.actor.actor;
        clock = b.pass.clock;
        moments = b.pass.moments.items;
        silent = sym noted_after i;
      }

      from_here : OwnStep P done w v (life_of a) (life_of b) (turned_by step.answer)
      from_here =
          subst (λ (x : ClientLife). OwnStep P done w v x (life_of b) (turned_by step.answer)) (sym (life_noted P a noted_before))
          (subst (λ (x : ClientLife). OwnStep P done w v (life_at told a.pass) x (turned_by step.answer)) life_after here)

      pub turned_step : OwnStep P done w v l (life_of b) (turned_by step.answer)
      turned_step = subst (λ (x : ClientLife). OwnStep P done w v x (life_of b) (turned_by step.answer)) view from_here

      prompt_after : OwnEndsAtOnce P b.counts idle_actor (events_in (life_of b))
      prompt_after = subst (λ (c : Counts). OwnEndsAtOnce P c idle_actor (events_in (life_of b))) (sym counts)
          (prompt_step P done w v (life_of a) (life_of b) (turned_by step.answer) from_here is.own_op is.prompt)

      pub turned_client : b.transactions ≡ a.transactions + step.transactions → IsClient P b
      turned_client count =
          let stage : Stage P b.actor b.pass (a.transactions + step.transactions) =
          step_stage P done w v told b.actor a.pass b.pass a.transactions (stage_of P a noted_before is) (runs_here a l is view runs)
          (goes_noted P a noted_before is) step seen_took in
          client_of P b noted_after b.actor refl after_counts (rw count stage) (rw counts is.places) (rw after_actor is.is_actor) (inl refl)
          (finished_goes (after_try P told seen_took.tried) b.actor seen_took.middle b.pass seen_took.tried step.answer seen_took.ends
          seen_took.finishes) prompt_after

  -- ---- passes that differ in room alone

  same_stage : (a : ActorState S) (p r : Pass) (t : ℕ) → r.moments.items ≡ p.moments.items → r.running ≡ p.running
      → r.clock ≡ p.clock → r.actor ≡ p.actor → Stage P a p t → Stage P a r t
  same_stage a p r t moments running clock actor stage = record {
    same = actor ∙ stage.same;
    state = rw moments stage.state;
    run = rw moments stage.run;
    limits = rw (moments, clock) stage.limits;
    own = rw moments stage.own;
    placed = rw moments stage.placed;
    own_op = stage.own_op;
    going = running ∙ stage.going;
    counted = rw moments stage.counted;
  }

  -- one event more that is no transaction
  prompt_more : (a b : Inside S) (e : Event) → IsClient P a → a.refused.items ≡ [] → b.refused.items ≡ [] → b.counts ≡ a.counts
      → own_events b.pass ≡ own_events a.pass ++ e ∷ [] → ((s : Actor S) → IsPromptFrom P a.counts s e [])
      → OwnEndsAtOnce P b.counts idle_actor (events_in (life_of b))
  prompt_more a b e is noted still counts more quiet =
      subst (λ (c : Counts). OwnEndsAtOnce P c idle_actor (events_in (life_of b))) (sym counts)
      (subst (OwnEndsAtOnce P a.counts idle_actor) (sym (events_noted P b still ∙ more))
      (prompt_push P a.counts (own_events a.pass) e quiet
      (subst (OwnEndsAtOnce P a.counts idle_actor) (events_noted P a noted) is.prompt)))

  -- ---- a begin that is noted, where the pass first got its room

  module _ (a b : Inside S) (m : Pass) (c noted_as : Command) (l : ClientLife) (is : IsClient P a) (view : life_of a ≡ l)
      (idle : IsNone (state_in P l).running)
      (goes : (state_in P l).stopped ≡ false) (few : (state_in P l).number + 1 < 2 ^ 31) (served : P.serves c ≡ true)
      (room : ¬ RefusesNext l) (copied : noted_as ≡ c) where
    pub begun_client : m.moments.items ≡ a.pass.moments.items → m.running ≡ a.pass.running → m.clock ≡ a.pass.clock
        → m.actor ≡ a.pass.actor
        → b.actor ≡ record a.actor { state = begun P a.actor.counts a.actor.state (next_op_of a.actor) c } → (op : OpId)
        → op ≡ op_of b.actor
        → b.pass.moments.items ≡ m.moments.items ++ Local (m.clock + 1) m.actor (notes.Began op noted_as) ∷ []
        → b.pass.clock ≡ m.clock + 1
        → b.pass.actor ≡ m.actor
        → b.pass.running ≡ Some op → b.counts ≡ a.counts → b.refused ≡ a.refused → b.transactions ≡ 0 → IsClient P b
    begun_client same_moments same_running same_clock same_actor after op op_is moments clock actor running counts refused zero_count =
        let told : ActorState S = told_actor P a in
        let here : a.actor ≡ told = actor_idle a l is view idle goes in
        let noted : a.refused.items ≡ [] = noted_here a l is view room in
        let still : b.refused.items ≡ [] = ap (λ (x : _). x.items) refused ∙ noted in
        let stage : Stage P told m a.transactions = same_stage told a.pass m a.transactions same_moments same_running
        same_clock same_actor (stage_of P a noted is) in
        let next : ActorState S = record told { state = begun P told.counts told.state (next_op_of told) c } in
        let stands : b.actor ≡ next =
        after ∙ (λ i. record (here i) { state = begun P (here i).counts (here i).state (next_op_of (here i)) c }) in
        let first : op ≡ next_op_of told = op_is ∙ ap op_of stands in
        let moved : b.pass.moments.items ≡ m.moments.items ++ Local (m.clock + 1) m.actor (notes.Began (next_op_of told) c) ∷ [] =
        moments ∙ ap (λ (o : OpId). m.moments.items ++ Local (m.clock + 1) m.actor (notes.Began o noted_as) ∷ []) first
        ∙ ap (λ (d : Command). m.moments.items ++ Local (m.clock + 1) m.actor (notes.Began (next_op_of told) d) ∷ []) copied in
        let own : ¬ passes.IsFullForBegin m = λ full. room
        (refuses_here a l is view (same_full a.pass m same_moments same_running same_clock full)) in
        let grown = begun_stage P told m b.pass a.transactions c stage is.is_actor (idle_here a l is view idle)
        (goes_here a l is view goes) (few_here a l is view few) served own moved clock actor (running ∙ ap Some first) in
        let more : own_events b.pass ≡ own_events a.pass ++ Own (next_op_of told) (Began c) ∷ [] =
        begun_events P told m b.pass a.transactions c stage is.is_actor (idle_here a l is view idle)
        (goes_here a l is view goes) (few_here a l is view few) served own moved clock actor (running ∙ ap Some first)
        ∙ ap (λ (ms : _). events_of ms ++ Own (next_op_of told) (Began c) ∷ []) same_moments in
        let same : told.actor ≡ b.actor.actor = sym (ap (λ (z : ActorState S). z.actor) stands) in
        client_of P b still next same (sym counts) (rw zero_count grown) (rw counts is.places) (rw (sym same) is.is_actor)
        (inl stands) tt (prompt_more a b (Own (next_op_of told) (Began c)) is noted still counts more (λ s. tt))

  -- ---- a stop that is noted

  module _ (a b : Inside S) (l : ClientLife) (is : IsClient P a) (view : life_of a ≡ l) (noted : l.silent ≡ [])
      (runs : IsSome (state_in P l).running) where
    pub stopped_client : b.actor ≡ record a.actor { state = record a.actor.state { stopped = true; running = None } } → (op : OpId)
        → op ≡ op_of a.actor
        → b.pass.moments.items ≡ a.pass.moments.items ++ Local (a.pass.clock + 1) a.pass.actor (notes.Stopped op) ∷ []
        → b.pass.clock ≡ a.pass.clock + 1 → b.pass.actor ≡ a.pass.actor
        → b.pass.running ≡ None → b.counts ≡ a.counts → b.refused ≡ a.refused → b.transactions ≡ a.transactions → IsClient P b
    stopped_client after op op_is moments clock actor running counts refused count =
        let told : ActorState S = told_actor P a in
        let here : a.refused.items ≡ [] = silent_here a l is view noted in
        let still : b.refused.items ≡ [] = ap (λ (x : _). x.items) refused ∙ here in
        let first : op ≡ op_of told = op_is ∙ stands_op P told a.actor is.stands in
        let moved : b.pass.moments.items ≡ a.pass.moments.items ++ Local (a.pass.clock + 1) a.pass.actor (notes.Stopped (op_of told)) ∷ [] =
        moments ∙ ap (λ (o : OpId). a.pass.moments.items ++ Local (a.pass.clock + 1) a.pass.actor (notes.Stopped o) ∷ []) first in
        let next : ActorState S = record told { state = record told.state { stopped = true; running = None } } in
        let grown = stopped_stage P told a.pass b.pass a.transactions (stage_of P a here is) (runs_here a l is view runs) moved clock
        actor running in
        let more = stopped_events P told a.pass b.pass a.transactions (stage_of P a here is) (runs_here a l is view runs) moved clock
        actor running in
        let same : told.actor ≡ b.actor.actor = sym (ap (λ (z : ActorState S). z.actor) after) in
        client_of P b still next same (sym counts) (rw count grown) (rw counts is.places) (rw (sym same) is.is_actor)
        (subst (StandsAs P next) (sym after) (stands_stop P told a.actor is.stands)) tt
        (prompt_more a b (Own (op_of told) Stopped) is here still counts more (λ s. tt))
