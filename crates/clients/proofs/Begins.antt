-- a client begins a command, is refused, ends what was refused, and stops
use Rattle.std.proofs.Common.{◌≡◌, ◌≢◌, ◌⊎◌, ℕ, ◌+◌, ◌<◌, ◌^◌, inl, inr, Bool, true, false, ◌||◌, Option, Some, None, IsSome, IsNone, List}
use Rattle.std.proofs.Common.{[]}
use Rattle.std.proofs.Common.{◌∷◌, ◌++◌, refl, sym, ap, ◌∙◌, subst, arith}
use Rattle.std.specs.Prelude.{vec_len, vec_capacity}
use Rattle.std.specs.Option.{ForSome}
use Rattle.std.proofs.lemmas.List.Sums.{sum_by-cons}
use Rattle.tect_ids.specs.declared.ids.Counts.{Counts}
use Rattle.tect_ids.specs.declared.ids.OpId.{OpId}
use Rattle.tect_ids.specs.declared.command.Command.{Command}
use Rattle.tect_ids.specs.Keys.{op_eq}
use Rattle.tect_ids.proofs.KeyTests.{op_eq_cases}
use Rattle.memories.specs.Knowing.{IsActor}
use Rattle.program_forms.specs.declared.standing.Standing.{Standing}
use Rattle.program_forms.specs.declared.standing.Standing.TheVariants.{Goes, Left, NoRoom}
use Rattle.program_forms.specs.Lacks.{no_room}
use Rattle.program_forms.specs.Memories.{Memory}
use Rattle.program_forms.specs.Kinds.{Programs}
use Rattle.entry_words.specs.declared.entry.Moment.TheVariants.{Local}
use Rattle.entry_words.specs.declared.entry.Note.TheVariants as notes
use Rattle.passes.specs.declared.pass.Pass.{Pass}
use Rattle.passes.specs.Commits as passes
use Rattle.world_runs.specs.declared.event.Event.{Event}
use Rattle.world_runs.specs.declared.event.Event.TheVariants.{Own}
use Rattle.world_runs.specs.declared.event.Happening.TheVariants.{Began, NotBegun, Ended, Stopped}
use Rattle.world_runs.specs.Actors.{Actor, Running, idle_actor, begun, not_begun, program_of, program_answer}
use Rattle.world_runs.specs.Report.{transactions}
use Rattle.world_runs.specs.Events.{events_of}
use Rattle.world_runs.specs.Limits.{event_cost, used}
use Rattle.world_runs.specs.OwnRuns.{own_state}
use Rattle.world_runs.specs.Refusals.{AreOfRefused, was_refused}
use Rattle.world_runs.proofs.Actors.{same_number}
use Rattle.world_runs.proofs.Limits.{used-append}
use Rattle.world_runs.proofs.Refusals.{refused-rest}
use Rattle.clients.specs.ActorState.{ActorState, op_of, next_op_of}
use Rattle.clients.specs.ActorCalls.{looked, says_now, let_go, left_behind}
use Rattle.clients.specs.declared.client.Client.TheInside.{Inside}
use Rattle.clients.specs.Lives.{events_in, RefusesNext}
use Rattle.clients.specs.Refused.{IsRefused, standing_refused, RunsIn}
use Rattle.clients.specs.ClientInside.{life_of, told_actor, IsFullOnce, StandsAs, IsClient}
use Rattle.clients.specs.PassSteps.{ended_by}
use Rattle.clients.proofs.Calls.{looked_end, says_end}
use Rattle.clients.proofs.Growing.{quiet, count_other, no_act, program_own, some_op, ended_number}
use Rattle.clients.proofs.Weights.{pass_use, refused_cost}
use Rattle.clients.proofs.Stages.{own_events, Stage, Pushed, push_stage, pushed_events, its_own, ended_none}
use Rattle.clients.proofs.Stands.{stands_runs, stands_idle, stands_stop}
use Rattle.clients.proofs.Refusals.{Passed, passed_client}

-- ---- the room of a life is that of its pass

silent_use : (a : ℕ) (before es : List Event) → AreOfRefused before es → used es a ≡ 0
silent_use a before [] silent = refl
silent_use a before (e ∷ es) silent =
    let here = refused_cost a before e silent.0 in
    let rest = silent_use a (before ++ e ∷ []) es silent.1 in
    omega (arith, sum_by-cons (event_cost a) e es, here, rest)

pub none_of : {X : Type 0} (o : Option X) → IsNone o → o ≡ None
none_of None is = refl
none_of (Some x) is = absurd (grind (arith, is))

some_of : {X : Type 0} (o : Option X) → IsSome o → (x : X) × (o ≡ Some x)
some_of (Some x) is = (x, refl)
some_of None is = absurd (grind (arith, is))

module _ {S : Type 0} (P : Programs S) where
  pub life_use : (a : Inside S) → IsClient P a → used (events_in (life_of a)) a.actor.actor ≡ passes.used a.pass
  life_use a is =
      let noted : used (events_of a.pass.moments.items) a.actor.actor ≡ passes.used a.pass = rw (← is.same) (pass_use a.pass) in
      omega (
        arith,
        used-append (events_of a.pass.moments.items) a.refused.items a.actor.actor,
        silent_use a.actor.actor [] a.refused.items is.silent,
        noted,
      )

  pub refuses : (a : Inside S) → IsClient P a → passes.IsFullForBegin a.pass → RefusesNext (life_of a)
  refuses a is (inl much) = inl (omega (arith, life_use a is, much))
  refuses a is (inr late) = inr late

  pub is_full : (a : Inside S) → IsClient P a → RefusesNext (life_of a) → passes.IsFullForBegin a.pass
  is_full a is (inl much) = inl (omega (arith, life_use a is, much))
  is_full a is (inr late) = inr late

  once_empty : (es : List Event) (p : Pass) → IsFullOnce es p → ¬ passes.IsFullForBegin p → es ≡ []
  once_empty [] p full room = refl
  once_empty (e ∷ es) p full room = absurd (room full)

  -- while a client is not full, all its ops were noted
  pub all_noted : (a : Inside S) → IsClient P a → ¬ RefusesNext (life_of a) → a.refused.items ≡ []
  all_noted a is room = once_empty a.refused.items a.pass is.full (λ full. room (refuses a is full))

  -- ---- a begin that is noted

  module _ (a : ActorState S) (p r : Pass) (t : ℕ) (c : Command) (stage : Stage P a p t) (is_actor : IsActor a.actor)
      (idle : a.state.running ≡ None) (goes : a.state.stopped ≡ false) (few : a.state.number + 1 < 2 ^ 31) (served : P.serves c ≡ true)
      (room : ¬ passes.IsFullForBegin p)
      (moments : r.moments.items ≡ p.moments.items ++ Local (p.clock + 1) p.actor (notes.Began (next_op_of a) c) ∷ [])
      (clock : r.clock ≡ p.clock + 1) (actor : r.actor ≡ p.actor) (running : r.running ≡ Some (next_op_of a)) where
    abbrev pub begins : ActorState S
    begins = record a { state = begun P a.counts a.state (next_op_of a) c }

    begun_pushed : Pushed P a begins p r (Local (p.clock + 1) p.actor (notes.Began (next_op_of a) c)) (Own (next_op_of a) (Began c))
    begun_pushed = record {
      moments = moments;
      event = refl;
      later = omega (arith, clock);
      pass = actor;
      actor = refl;
      counts = refl;
      may = (record { idle = idle; goes_on = goes; next = refl; few = few; is_actor = is_actor }, served);
      room = λ early full. let takes : used (own_events p) a.actor ≡ passes.used p = rw (← stage.same) (pass_use p)
          in room (inl (omega (arith, takes, full)));
      mine = same_number a.actor;
      state = refl;
      placed = tt;
      own_op = λ y h. sym (some_op _ y h);
      going = running;
    }

    pub begun_events : own_events r ≡ own_events p ++ Own (next_op_of a) (Began c) ∷ []
    begun_events = pushed_events P a begins p r t t (Local (p.clock + 1) p.actor (notes.Began (next_op_of a) c))
        (Own (next_op_of a) (Began c)) stage begun_pushed

    pub begun_stage : Stage P begins r 0
    begun_stage =
        let number : (own_state P a.counts idle_actor (own_events p)).number ≡ a.state.number
        = sym (ap (λ (s : Actor S). s.number) stage.state) in
        push_stage P a begins p r t 0 (Local (p.clock + 1) p.actor (notes.Began (next_op_of a) c)) (Own (next_op_of a) (Began c)) stage
        begun_pushed
        (sym (quiet P a.counts (own_events p) (next_op_of a) stage.run (omega (arith, number))) ∙ sym
        (count_other (own_events p) (Own (next_op_of a) (Began c)) (next_op_of a) (no_act (next_op_of a) (next_op_of a) (Began c) refl)))

  -- ---- a stop that is noted

  module _ (a : ActorState S) (p r : Pass) (t : ℕ) (stage : Stage P a p t) (runs : IsSome a.state.running)
      (moments : r.moments.items ≡ p.moments.items ++ Local (p.clock + 1) p.actor (notes.Stopped (op_of a)) ∷ [])
      (clock : r.clock ≡ p.clock + 1) (actor : r.actor ≡ p.actor) (running : r.running ≡ None) where
    abbrev pub stops : ActorState S
    stops = record a { state = record a.state { stopped = true; running = None } }

    stopped_pushed : Pushed P a stops p r (Local (p.clock + 1) p.actor (notes.Stopped (op_of a))) (Own (op_of a) Stopped)
    stopped_pushed = record {
      moments = moments;
      event = refl;
      later = omega (arith, clock);
      pass = actor;
      actor = refl;
      counts = refl;
      may = its_own P a p t stage runs;
      room = λ early. tt;
      mine = same_number a.actor;
      state = refl;
      placed = tt;
      own_op = λ y is. absurd cc;
      going = running;
    }

    pub stopped_events : own_events r ≡ own_events p ++ Own (op_of a) Stopped ∷ []
    stopped_events = pushed_events P a stops p r t t (Local (p.clock + 1) p.actor (notes.Stopped (op_of a))) (Own (op_of a) Stopped) stage
        stopped_pushed

    pub stopped_stage : Stage P stops r t
    stopped_stage =
        push_stage P a stops p r t t (Local (p.clock + 1) p.actor (notes.Stopped (op_of a))) (Own (op_of a) Stopped) stage stopped_pushed
        (stage.counted ∙ sym (count_other (own_events p) (Own (op_of a) Stopped) (op_of a) (no_act (op_of a) (op_of a) Stopped refl)))

  -- ---- an op that is refused

  idle_by : (es : List Event) (o : Option OpId) (running : Option (Running S)) → RunsIn es o running → running ≡ None → o ≡ None
  idle_by [] o None going idle = going.0
  idle_by [] o (Some r) going idle = absurd cc
  idle_by (e ∷ es) o running going idle = going.0

  pub refused_by : (es : List Event) (o : Option OpId) (running : Option (Running S)) → RunsIn es o running → es ≢ []
      → (o ≡ None) × IsRefused es running
  refused_by [] o running going some = absurd (some refl)
  refused_by (e ∷ es) o running going some = going

  full_by : (es : List Event) (p : Pass) → IsFullOnce es p → es ≢ [] → passes.IsFullForBegin p
  full_by [] p full some = absurd (some refl)
  full_by (e ∷ es) p full some = full

  answer_at : (c : Counts) (m : Memory) (es : List Event) (op : OpId) (at : Standing S) → standing_refused es op at
      → (let r : Running S = record { op = op; at = at } in program_answer P c m (Some r) ≡ Some no_room)
  answer_at c m es op (Goes s) was = absurd was
  answer_at c m es op Left was = absurd was
  answer_at c m es op NoRoom was = refl

  pub refused_answer : (c : Counts) (m : Memory) (es : List Event) (o : Option (Running S)) → IsSome o → IsRefused es o
      → program_answer P c m o ≡ Some no_room
  refused_answer c m es (Some r) runs was = answer_at c m es r.op r.at was
  refused_answer c m es None runs was = absurd (grind (arith, runs))

  says_at : (a : ActorState S) (es : List Event) (op : OpId) (at : Standing S) → standing_refused es op at
      → (let r : Running S = record { op = op; at = at } in let z : ActorState S =
      record a { state = record a.state { running = Some r } } in
      says_now P z ≡ Some no_room)
  says_at a es op (Goes s) was = absurd was
  says_at a es op Left was = absurd was
  says_at a es op NoRoom was = refl

  says_by : (a : ActorState S) (es : List Event) (o : Option (Running S)) → IsSome o → IsRefused es o
      → (let z : ActorState S = record a { state = record a.state { running = o } } in says_now P z ≡ Some no_room)
  says_by a es (Some r) runs was = says_at a es r.op r.at was
  says_by a es None runs was = absurd (grind (arith, runs))

  was_at : (es : List Event) (op : OpId) (at : Standing S) → standing_refused es op at → was_refused es op ≡ true
  was_at es op (Goes s) was = absurd was
  was_at es op Left was = absurd was
  was_at es op NoRoom was = was

  was_by : (es : List Event) (o : Option (Running S)) (op : OpId) → IsSome o → ForSome o (λ r. r.op ≡ op) → IsRefused es o
      → was_refused es op ≡ true
  was_by es (Some r) op runs its was = ap (was_refused es) (sym (its r refl)) ∙ was_at es r.op r.at was
  was_by es None op runs its was = absurd (grind (arith, runs))

  its_refusal : (op : OpId) (c : Command) → was_refused (Own op (NotBegun c) ∷ []) op ≡ true
  its_refusal op c = let same : op_eq op op ≡ true = grind (arith, op_eq_cases op op) in ap (λ (b : Bool). b || false) same

  none_own : (o : Option (Running S)) (op : OpId) → o ≡ None → ForSome o (λ r. r.op ≡ op)
  none_own None op is y h = absurd cc
  none_own (Some r) op is y h = absurd cc

  none_refused : (es : List Event) (o : Option (Running S)) → o ≡ None → IsRefused es o
  none_refused es None is = tt
  none_refused es (Some r) is = absurd cc

  none_runs : (o : Option (Running S)) → o ≡ None → IsSome o → ⊥
  none_runs o none some = grind (arith, none, some)

  module _ (a b : Inside S) (is : IsClient P a) (counts : b.counts ≡ a.counts) (pass : b.pass ≡ a.pass) where
    abbrev told : ActorState S
    told = told_actor P a

    module _ (c : Command) (idle : told.state.running ≡ None) (goes : told.state.stopped ≡ false)
        (few : told.state.number + 1 < 2 ^ 31) (served : P.serves c ≡ true)
        (full : passes.IsFullForBegin a.pass)
        (after : b.actor ≡ record a.actor { state = not_begun a.actor.state (next_op_of a.actor) })
        (silent : b.refused.items ≡ a.refused.items ++ Own (next_op_of told) (NotBegun c) ∷ []) (zero_count : b.transactions ≡ 0)
        (space : vec_len b.refused < vec_capacity b.refused) where
      stands_here : a.actor ≡ told
      stands_here = stands_idle P told a.actor is.stands idle goes

      refused_passed : Passed P a b (Own (next_op_of told) (NotBegun c))
      refused_passed = record {
        counts = counts;
        pass = pass;
        actor = ap (λ (x : ActorState S). x.actor) after;
        silent = silent;
        may = (record { idle = idle; goes_on = goes; next = refl; few = few; is_actor = is.is_actor }, served);
        room = λ early. elim (refuses a is full) [ inl much ↦ much | inr late ↦ absurd (omega (arith, early, late)) ];
        mine = same_number a.actor.actor;
        quiet = tt;
        prompt = λ s. tt;
        stands = inl (after ∙ (λ i. record (stands_here i) { state = not_begun (stands_here i).state (next_op_of (stands_here i)) }));
        own_op = λ y h. sym (some_op _ y h);
        idle = idle_by a.refused.items a.pass.running told.state.running is.going idle;
        full = full;
        refused = refused-rest a.refused.items (Own (next_op_of told) (NotBegun c) ∷ []) (next_op_of told)
            (its_refusal (next_op_of told) c);
        counted = zero_count ∙ sym (quiet P a.counts (events_in (life_of a)) (next_op_of told) is.run (omega arith))
            ∙ sym (count_other (events_in (life_of a)) (Own (next_op_of told) (NotBegun c)) (next_op_of told)
            (no_act (next_op_of told) (next_op_of told) (NotBegun c) refl));
        space = λ runs. space;
      }

      pub refused_client : IsClient P b
      refused_client = passed_client P a b (Own (next_op_of told) (NotBegun c)) is refused_passed

    -- ---- its end

    module _ (runs : IsSome told.state.running) (some : a.refused.items ≢ []) (count : b.transactions ≡ a.transactions) where
      its_program : program_of told.state.running (op_of told) ≡ told.state.running
      its_program = program_own told.state.running (op_of told) is.own_op

      was : (a.pass.running ≡ None) × IsRefused a.refused.items told.state.running
      was = refused_by a.refused.items a.pass.running told.state.running is.going some

      was_op : was_refused a.refused.items (op_of told) ≡ true
      was_op = was_by a.refused.items told.state.running (op_of told) runs is.own_op was.1

      let_go_is : (a.actor ≡ told) ⊎ (a.actor ≡ left_behind (looked P told)) → let_go a.actor ≡ ended_by P told
      let_go_is (inl same) = ap let_go same ∙ says_end P told no_room (says_by told a.refused.items told.state.running runs was.1)
      let_go_is (inr stray) = ap let_go stray ∙ looked_end P told

      module _ (after : b.actor ≡ let_go a.actor)
          (silent : b.refused.items ≡ a.refused.items ++ Own (op_of told) (Ended no_room) ∷ []) where
        ended_is : b.actor ≡ ended_by P told
        ended_is = after ∙ let_go_is (stands_runs P told a.actor is.stands runs)

        ended_idle : (ended_by P told).state.running ≡ None
        ended_idle = ended_none P a.counts told.state

        last_same : op_of (ended_by P told) ≡ op_of told
        last_same i = record { actor = told.actor; number = ended_number P a.counts told.state told.state.running i }

        pub refused_end : IsClient P b
        refused_end = passed_client P a b (Own (op_of told) (Ended no_room)) is record {
          counts = counts;
          pass = pass;
          actor = ap (λ (x : ActorState S). x.actor) ended_is;
          silent = silent;
          may = ap (program_answer P a.counts told.state.memory) its_program
              ∙ refused_answer a.counts told.state.memory a.refused.items told.state.running runs was.1;
          room = λ early. tt;
          mine = same_number a.actor.actor;
          quiet = was_op;
          prompt = λ s. tt;
          stands = inl ended_is;
          own_op = none_own (ended_by P told).state.running _ ended_idle;
          idle = was.0;
          full = full_by a.refused.items a.pass is.full some;
          refused = none_refused (a.refused.items ++ Own (op_of told) (Ended no_room) ∷ []) (ended_by P told).state.running ended_idle;
          counted = count ∙ is.counted
              ∙ sym (count_other (events_in (life_of a)) (Own (op_of told) (Ended no_room)) (op_of told)
              (no_act (op_of told) (op_of told) (Ended no_room) refl))
              ∙ ap (transactions (events_in (life_of a) ++ Own (op_of told) (Ended no_room) ∷ [])) (sym last_same);
          space = λ still. absurd (none_runs (ended_by P told).state.running ended_idle still);
        }

      module _ (after : b.actor ≡ record a.actor { state = record a.actor.state { stopped = true; running = None } })
          (silent : b.refused.items ≡ a.refused.items ++ Own (op_of told) Stopped ∷ []) where
        pub refused_stop : IsClient P b
        refused_stop = passed_client P a b (Own (op_of told) Stopped) is record {
          counts = counts;
          pass = pass;
          actor = ap (λ (x : ActorState S). x.actor) after;
          silent = silent;
          may = let p = some_of told.state.running runs in (p.0, its_program ∙ p.1);
          room = λ early. tt;
          mine = same_number a.actor.actor;
          quiet = was_op;
          prompt = λ s. tt;
          stands = subst (StandsAs P (record told { state = record told.state { stopped = true; running = None } })) (sym after)
              (stands_stop P told a.actor is.stands);
          own_op = λ y h. absurd cc;
          idle = was.0;
          full = full_by a.refused.items a.pass is.full some;
          refused = tt;
          counted = count ∙ is.counted
              ∙ sym (count_other (events_in (life_of a)) (Own (op_of told) Stopped) (op_of told)
              (no_act (op_of told) (op_of told) Stopped refl));
          space = λ still. absurd (none_runs None refl still);
        }
