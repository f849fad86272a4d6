-- a client whose ops were all noted: its actor and its pass, when one moment more comes
use Rattle.std.proofs.Common.{◌≡◌, ℕ, ◌+◌, ◌<◌, ◌≤◌, ◌^◌, ◌⊎◌, inl, inr, true, Bool, Option, Some, None, IsSome, List, [], ◌∷◌, ◌++◌, refl}
use Rattle.std.proofs.Common.{sym}
use Rattle.std.proofs.Common.{ap, ◌∙◌, subst, arith}
use Rattle.std.specs.Option.{ForSome}
use Rattle.std.specs.List.{All}
use Rattle.std.proofs.lemmas.List.{map-append}
use Rattle.std.proofs.lemmas.List.Elements.{All-push}
use Rattle.tect_ids.specs.declared.ids.Counts.{Counts}
use Rattle.tect_ids.specs.declared.ids.OpId.{OpId}
use Rattle.tect_ids.specs.declared.ids.Place.{Place}
use Rattle.tect_ids.specs.declared.answer.Answer.{Answer}
use Rattle.tect_ids.specs.declared.answer.Answer.TheVariants as answers
use Rattle.store_rules.specs.declared.any.AnyReq.{AnyReq}
use Rattle.store_rules.specs.declared.any.AnyReply.{AnyReply}
use Rattle.store_rules.specs.Places.{request_place}
use Rattle.program_forms.specs.declared.heard.Heard.{Heard}
use Rattle.program_forms.specs.Lacks.{IsLack}
use Rattle.program_forms.specs.Memories.{Memory}
use Rattle.program_forms.specs.Kinds.{Programs}
use Rattle.entry_words.specs.declared.entry.Moment.{Moment}
use Rattle.entry_words.specs.declared.entry.Moment.TheVariants.{Act, Local}
use Rattle.entry_words.specs.declared.entry.Note.TheVariants as notes
use Rattle.passes.specs.declared.pass.Pass.{Pass}
use Rattle.passes.specs.Commits as passes
use Rattle.passes.specs.Adding.{NotedEnd, entry_at}
use Rattle.world_runs.specs.declared.event.Event.{Event}
use Rattle.world_runs.specs.declared.event.Event.TheVariants.{Own}
use Rattle.world_runs.specs.declared.event.Happening.TheVariants.{Acted, Ended, Failed}
use Rattle.world_runs.specs.Actors.{Actor, Running, idle_actor, running_op, program_of, program_ask, program_answer, went_on, ended}
use Rattle.world_runs.specs.Races.{is_own}
use Rattle.world_runs.specs.Report.{transactions}
use Rattle.world_runs.specs.Events.{end_event, event_of, events_of, own, IsPlaced}
use Rattle.world_runs.specs.Limits.{KeepsRoom, OwnLimits}
use Rattle.world_runs.specs.OwnRuns.{OwnMayHappen, OwnRun, own_next, own_state}
use Rattle.world_runs.proofs.Actors.{same_number}
use Rattle.clients.specs.ActorState.{ActorState, op_of}
use Rattle.clients.specs.PassSteps.{Entered, ended_by}
use Rattle.clients.proofs.Calls.{heard_by}
use Rattle.clients.proofs.Growing.{state_push, run_push, limits_push, own_push, program_own, went_own, plain_end, count_act, count_other}
use Rattle.clients.proofs.Growing.{end_no_act, went_number, ended_number}
use Rattle.clients.proofs.Weights.{fills, has_room}

abbrev pub own_events : Pass → List Event
own_events p = events_of p.moments.items

pub record Stage {S : Type 0} (P : Programs S) (a : ActorState S) (p : Pass) (t : ℕ) : Type 0 where
  pub same : p.actor ≡ a.actor
  pub state : a.state ≡ own_state P a.counts idle_actor (own_events p)
  pub run : OwnRun P a.counts idle_actor (own_events p)
  pub limits : p.clock < 2 ^ 63 → OwnLimits P a.counts [] idle_actor (own_events p)
  pub own : own a.actor (own_events p) ≡ own_events p
  pub placed : All (IsPlaced a.counts) p.moments.items
  pub own_op : ForSome a.state.running (λ r. r.op ≡ op_of a)
  pub going : p.running ≡ running_op a.state.running
  pub counted : t ≡ transactions (own_events p) (op_of a)

-- one moment more
pub record Pushed {S : Type 0} (P : Programs S) (a b : ActorState S) (p r : Pass) (m : Moment) (e : Event) : Type 0 where
  pub moments : r.moments.items ≡ p.moments.items ++ m ∷ []
  pub event : event_of m ≡ e
  pub later : p.clock ≤ r.clock
  pub pass : r.actor ≡ p.actor
  pub actor : b.actor ≡ a.actor
  pub counts : b.counts ≡ a.counts
  pub may : OwnMayHappen P a.counts a.state e
  pub room : r.clock < 2 ^ 63 → KeepsRoom P a.counts (own_events p) a.state e
  pub mine : is_own a.actor e ≡ true
  pub state : b.state ≡ own_next P a.counts a.state e
  pub placed : IsPlaced a.counts m
  pub own_op : ForSome b.state.running (λ r. r.op ≡ op_of b)
  pub going : r.running ≡ running_op b.state.running

module _ {S : Type 0} (P : Programs S) (a b : ActorState S) (p r : Pass) (t n : ℕ) (m : Moment) (e : Event) (stage : Stage P a p t)
    (pushed : Pushed P a b p r m e) where
  pub pushed_events : own_events r ≡ own_events p ++ e ∷ []
  pushed_events =
      ap events_of pushed.moments ∙ map-append event_of p.moments.items (m ∷ []) ∙ ap (λ (x : Event). own_events p ++ x ∷ []) pushed.event

  pushed_state : b.state ≡ own_state P a.counts idle_actor (own_events p ++ e ∷ [])
  pushed_state = pushed.state ∙ ap (λ (s : Actor S). own_next P a.counts s e) stage.state ∙ sym (state_push P a.counts (own_events p) e)

  pushed_run : OwnRun P a.counts idle_actor (own_events p ++ e ∷ [])
  pushed_run = run_push P a.counts (own_events p) e stage.run (subst (λ (s : Actor S). OwnMayHappen P a.counts s e) stage.state pushed.may)

  pushed_limits : r.clock < 2 ^ 63 → OwnLimits P a.counts [] idle_actor (own_events p ++ e ∷ [])
  pushed_limits early =
      limits_push P a.counts (own_events p) e (stage.limits (omega (arith, pushed.later, early)))
      (subst (λ (s : Actor S). KeepsRoom P a.counts (own_events p) s e) stage.state (pushed.room early))

  pushed_own : own b.actor (own_events p ++ e ∷ []) ≡ own_events p ++ e ∷ []
  pushed_own = ap (λ (k : ℕ). own k (own_events p ++ e ∷ [])) pushed.actor ∙ own_push a.actor (own_events p) e stage.own pushed.mine

  pub push_stage : n ≡ transactions (own_events p ++ e ∷ []) (op_of b) → Stage P b r n
  push_stage counted = record {
    same = pushed.pass ∙ stage.same ∙ sym pushed.actor;
    state = rw (pushed_events, pushed.counts) pushed_state;
    run = rw (pushed_events, pushed.counts) pushed_run;
    limits = λ early. rw (pushed_events, pushed.counts) (pushed_limits early);
    own = rw pushed_events pushed_own;
    placed = rw (pushed.moments, pushed.counts) (All-push (IsPlaced a.counts) p.moments.items m stage.placed pushed.placed);
    own_op = pushed.own_op;
    going = pushed.going;
    counted = rw pushed_events counted;
  }

-- ---- the op that runs

some_of : {X : Type 0} (o : Option X) → IsSome o → (x : X) × (o ≡ Some x)
some_of (Some x) is = (x, refl)
some_of None is = absurd (grind (arith, is))

module _ {S : Type 0} where
  running_own : (o : Option (Running S)) (op : OpId) → IsSome o → ForSome o (λ r. r.op ≡ op) → running_op o ≡ Some op
  running_own (Some p) op is its = let same : p.op ≡ op = its p refl in rw same refl
  running_own None op is its = absurd (grind (arith, is))

  module _ (P : Programs S) (c : Counts) where
    went_runs_by : (n : ℕ) (m : Memory) (b : Bool) (o : Option (Running S)) (q : AnyReq) (x : AnyReply) (h : Heard)
        → (let s : Actor S = record { number = n; memory = m; stopped = b; running = o } in
        running_op (went_on P c s o q x h).running ≡ running_op o)
    went_runs_by n m b None q x h = refl
    went_runs_by n m b (Some p) q x h = refl

    pub went_runs : (s : Actor S) (q : AnyReq) (x : AnyReply) (h : Heard)
        → running_op (went_on P c s s.running q x h).running ≡ running_op s.running
    went_runs s q x h = went_runs_by s.number s.memory s.stopped s.running q x h

    went_some_by : (n : ℕ) (m : Memory) (b : Bool) (o : Option (Running S)) (q : AnyReq) (x : AnyReply) (h : Heard) → IsSome o
        → (let s : Actor S = record { number = n; memory = m; stopped = b; running = o } in IsSome (went_on P c s o q x h).running)
    went_some_by n m b (Some p) q x h is = refl
    went_some_by n m b None q x h is = is

    pub went_some : (s : Actor S) (q : AnyReq) (x : AnyReply) (h : Heard) → IsSome s.running
        → IsSome (went_on P c s s.running q x h).running
    went_some s q x h is = went_some_by s.number s.memory s.stopped s.running q x h is

    ended_none_by : (n : ℕ) (m : Memory) (b : Bool) (o : Option (Running S))
        → (let s : Actor S = record { number = n; memory = m; stopped = b; running = o } in (ended P c s o).running ≡ None)
    ended_none_by n m b None = refl
    ended_none_by n m b (Some r) = refl

    pub ended_none : (s : Actor S) → (ended P c s s.running).running ≡ None
    ended_none s = ended_none_by s.number s.memory s.stopped s.running

none_own : {S : Type 0} (o : Option (Running S)) (op : OpId) → o ≡ None → ForSome o (λ r. r.op ≡ op)
none_own None op is y h = absurd cc
none_own (Some r) op is y h = absurd cc

module _ {S : Type 0} (P : Programs S) (a : ActorState S) (p : Pass) (t : ℕ) (stage : Stage P a p t) (runs : IsSome a.state.running) where
  pub runs_op : p.running ≡ Some (op_of a)
  runs_op = stage.going ∙ running_own a.state.running (op_of a) runs stage.own_op

  its_program : program_of a.state.running (op_of a) ≡ a.state.running
  its_program = program_own a.state.running (op_of a) stage.own_op

  pub its_own : (x : Running S) × (program_of a.state.running (op_of a) ≡ Some x)
  its_own = let o = some_of a.state.running runs in (o.0, its_program ∙ o.1)

  -- ---- a transaction

  module _ (r : Pass) (q : AnyReq) (x : AnyReply) (h : Heard) (asks : program_ask P a.counts a.state.memory a.state.running ≡ Some q)
      (room : ¬ passes.IsFull p) (done : Entered a.counts h p r q x) where
    abbrev acted : ActorState S
    acted = heard_by P a q x h

    acted_event : event_of (Act (entry_at a.counts r.clock p q x) h) ≡ Own (op_of a) (Acted q x h)
    acted_event =
        let by : (k : ℕ) (o : Option OpId) → k ≡ a.actor → o ≡ Some (op_of a)
        → (let op : OpId = record { actor = k; number = passes.op_number o } in Own op (Acted q x h) ≡ Own (op_of a) (Acted q x h)) =
        λ k o e f. rw (e, f) refl in
        by p.actor p.running stage.same runs_op

    acted_asks : program_ask P a.counts a.state.memory (program_of a.state.running (op_of a)) ≡ Some q
    acted_asks = ap (program_ask P a.counts a.state.memory) its_program ∙ asks

    pub acted_op : op_of acted ≡ op_of a
    acted_op i = record { actor = a.actor; number = went_number P a.counts a.state a.state.running q x h i }

    pub acted_pushed : Pushed P a acted p r (Act (entry_at a.counts r.clock p q x) h) (Own (op_of a) (Acted q x h))
    acted_pushed = record {
      moments = done.moments;
      event = acted_event;
      later = omega (arith, done.later);
      pass = done.actor;
      actor = refl;
      counts = refl;
      may = acted_asks;
      room = λ early full. has_room p room (rw stage.same full);
      mine = same_number a.actor;
      state = refl;
      placed = refl;
      own_op = subst (λ (o : OpId). ForSome acted.state.running (λ r. r.op ≡ o)) (sym acted_op)
          (went_own P a.counts a.state q x h (op_of a) stage.own_op);
      going = done.running ∙ stage.going ∙ sym (went_runs P a.counts a.state q x h);
    }

    pub acted_stage : Stage P acted r (t + 1)
    acted_stage =
        push_stage P a acted p r t (t + 1) (Act (entry_at a.counts r.clock p q x) h) (Own (op_of a) (Acted q x h)) stage acted_pushed
        (ap (λ (n : ℕ). n + 1) stage.counted ∙ sym (count_act (own_events p) (op_of a) q x h)
        ∙ ap (transactions (own_events p ++ Own (op_of a) (Acted q x h) ∷ [])) (sym acted_op))

  -- ---- an end

  -- why it ends with that answer
  abbrev pub Because : Answer → Type 0
  Because x = ((program_answer P a.counts a.state.memory a.state.running ≡ Some x) × ¬ IsLack x) ⊎ ((x ≡ answers.NoMemory)
      ⊎ ((place : Place) × (q : AnyReq) × (x ≡ answers.HistoryFull place) × passes.IsFull p
      × (program_ask P a.counts a.state.memory a.state.running ≡ Some q) × (place ≡ request_place a.counts q)))

  module _ (b : ActorState S) (r : Pass) (x : Answer) (after : b ≡ ended_by P a) (done : NotedEnd p r (notes.Ended (op_of a) x)) where
    after_none : b.state.running ≡ None
    after_none = ap (λ (z : ActorState S). z.state.running) after ∙ ended_none P a.counts a.state

    after_op : op_of b ≡ op_of a
    after_op = ap op_of after ∙ (λ i. record { actor = a.actor; number = ended_number P a.counts a.state a.state.running i })

    after_state : b.state ≡ ended P a.counts a.state a.state.running
    after_state = ap (λ (z : ActorState S). z.state) after

    end_by : (e : Event) → end_event (op_of a) x ≡ e → OwnMayHappen P a.counts a.state e
        → (r.clock < 2 ^ 63 → KeepsRoom P a.counts (own_events p) a.state e) → is_own a.actor e ≡ true
        → b.state ≡ own_next P a.counts a.state e → Pushed P a b p r (Local (p.clock + 1) p.actor (notes.Ended (op_of a) x)) e
    end_by e event may room mine state = record {
      moments = done.moments;
      event = event;
      later = omega (arith, done.clock);
      pass = done.actor;
      actor = ap (λ (z : ActorState S). z.actor) after;
      counts = ap (λ (z : ActorState S). z.counts) after;
      may = may;
      room = room;
      mine = mine;
      state = state;
      placed = tt;
      own_op = none_own b.state.running (op_of b) after_none;
      going = done.running ∙ sym (ap running_op after_none);
    }

    failed_by : (y : Answer) → x ≡ y → end_event (op_of a) y ≡ Own (op_of a) (Failed y) → IsLack y
        → (r.clock < 2 ^ 63 → KeepsRoom P a.counts (own_events p) a.state (Own (op_of a) (Failed y)))
        → Pushed P a b p r (Local (p.clock + 1) p.actor (notes.Ended (op_of a) x)) (Own (op_of a) (Failed y))
    failed_by y is event lack room = end_by (Own (op_of a) (Failed y)) (ap (end_event (op_of a)) is ∙ event) (lack, its_own) room
        (same_number a.actor) after_state

    pub ended_pushed : Because x → Pushed P a b p r (Local (p.clock + 1) p.actor (notes.Ended (op_of a) x)) (end_event (op_of a) x)
    ended_pushed (inl (answer, plain)) =
        let event : end_event (op_of a) x ≡ Own (op_of a) (Ended x) = plain_end (op_of a) x plain in
        subst (Pushed P a b p r (Local (p.clock + 1) p.actor (notes.Ended (op_of a) x))) (sym event)
        (end_by (Own (op_of a) (Ended x)) event (ap (program_answer P a.counts a.state.memory) its_program ∙ answer) (λ early. tt)
        (same_number a.actor) after_state)
    ended_pushed (inr (inl is)) =
        subst (Pushed P a b p r (Local (p.clock + 1) p.actor (notes.Ended (op_of a) x))) (sym (ap (end_event (op_of a)) is))
        (failed_by answers.NoMemory is refl tt (λ early. tt))
    ended_pushed (inr (inr (place, q, is, full, asks, at))) =
        subst (Pushed P a b p r (Local (p.clock + 1) p.actor (notes.Ended (op_of a) x))) (sym (ap (end_event (op_of a)) is))
        (failed_by (answers.HistoryFull place) is refl tt
        (λ early. (
          rw (← stage.same) (fills p full (omega (arith, done.clock, early))),
          (q, ap (program_ask P a.counts a.state.memory) its_program ∙ asks, at),
        )))

    pub ended_stage : Because x → Stage P b r t
    ended_stage why =
        push_stage P a b p r t t (Local (p.clock + 1) p.actor (notes.Ended (op_of a) x)) (end_event (op_of a) x) stage
        (ended_pushed why)
        (stage.counted ∙ sym (count_other (own_events p) (end_event (op_of a) x) (op_of a) (end_no_act (op_of a) (op_of a) x))
        ∙ ap (transactions (own_events p ++ end_event (op_of a) x ∷ [])) (sym after_op))
