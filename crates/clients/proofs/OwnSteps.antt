-- the step of an actor with its pass, as a step of its client's life
use Rattle.std.proofs.Common.{◌≡◌, ℕ, ◌+◌, inl, inr, Option, Some, None, IsSome, List, [], ◌∷◌, ◌++◌, length, refl, sym, ap, ◌∙◌}
use Rattle.std.proofs.Common.{subst, arith, append_assoc}
use Rattle.std.specs.Prelude.{Result, Ok}
use Rattle.std.proofs.lemmas.List.{append-nil}
use Rattle.tect_ids.specs.declared.ids.Counts.{Counts}
use Rattle.tect_ids.specs.declared.ids.OpId.{OpId}
use Rattle.tect_ids.specs.declared.answer.Answer.{Answer}
use Rattle.store_rules.specs.declared.any.AnyReq.{AnyReq}
use Rattle.store_rules.specs.declared.any.AnyReply.{AnyReply}
use Rattle.store_rules.specs.Places.{request_place}
use Rattle.program_forms.specs.declared.standing.Standing.{Standing}
use Rattle.program_forms.specs.declared.standing.Standing.TheVariants.{Goes, Left, NoRoom}
use Rattle.program_forms.specs.Lacks.{IsLack}
use Rattle.program_forms.specs.Kinds.{Programs}
use Rattle.entry_words.specs.declared.entry.Entry.{Entry}
use Rattle.entry_words.specs.declared.entry.Moment.TheVariants.{Act, Local}
use Rattle.entry_words.specs.declared.entry.Note.TheVariants as notes
use Rattle.entry_words.specs.declared.entry.Refused.{Refused}
use Rattle.entry_words.specs.declared.entry.Refused.TheVariants as refusals
use Rattle.passes.specs.declared.pass.Pass.{Pass}
use Rattle.passes.specs.Commits as passes
use Rattle.entry_words.specs.Moments.{trail_of}
use Rattle.passes.proofs.Pushes.{steps_count-len}
use Rattle.world_runs.specs.declared.event.Event.{Event}
use Rattle.world_runs.specs.declared.event.Event.TheVariants.{Own}
use Rattle.world_runs.specs.declared.event.Happening.TheVariants.{Acted}
use Rattle.world_runs.specs.Actors.{Actor, Running, idle_actor}
use Rattle.world_runs.specs.Events.{end_event}
use Rattle.world_runs.specs.OwnRuns.{own_state}
use Rattle.clients.specs.ActorState.{ActorState, op_of}
use Rattle.clients.specs.ActorCalls.{standing_plain, IsPlainOf}
use Rattle.clients.specs.Turns.{turned_by}
use Rattle.clients.specs.Refused.{IsGoing, standing_goes}
use Rattle.clients.specs.declared.steps.Step.{Step}
use Rattle.passes.specs.Adding.{entry_at}
use Rattle.clients.specs.Lives.{ClientLife, events_in, state_in, op_in}
use Rattle.clients.specs.Steps.{Tried, Unasked, Did, Denied, Asks, DidThere, state_after, EndsSo, entry_in, tried_life, ended_life}
use Rattle.clients.specs.Steps.{tried_events, end_events, is_later, OwnStep}
use Rattle.clients.specs.PassSteps.{Finishes, Tries, act_count, after_try, StepEnds, TookStep}
use Rattle.clients.proofs.Growing.{went_number}
use Rattle.clients.proofs.Stages.{own_events, Stage, pushed_events, runs_op, went_some, acted_pushed, acted_stage, Because}
use Rattle.clients.proofs.Stages.{ended_pushed, ended_stage}

-- its life, where no op was refused
abbrev pub life_at : {S : Type 0} → ActorState S → Pass → ClientLife
life_at a p = record { counts = a.counts; actor = a.actor; clock = p.clock; moments = p.moments.items; silent = [] }

module _ {S : Type 0} (P : Programs S) (a : ActorState S) (p : Pass) (t : ℕ) (stage : Stage P a p t) where
  pub events_at : events_in (life_at a p) ≡ own_events p
  events_at = append-nil (own_events p)

  pub state_at : a.state ≡ state_in P (life_at a p)
  state_at = stage.state ∙ ap (own_state P a.counts idle_actor) (sym events_at)

  pub op_at : op_in P (life_at a p) ≡ op_of a
  op_at = ap (λ (s : Actor S). let op : OpId = record { actor = a.actor; number = s.number } in op) (sym state_at)

  module _ (runs : IsSome a.state.running) where
    -- ---- the request

    pub after_runs : (tried : Tried) → IsSome (after_try P a tried).state.running
    after_runs Unasked = runs
    after_runs (Did q x h) = went_some P a.counts a.state q x h runs
    after_runs (Denied q e) = runs

    same_pass_stage : (r : Pass) → r ≡ p → Stage P a r (t + 0)
    same_pass_stage r is = rw is (let z : t + 0 ≡ t = omega arith in rw z stage)

    pub tried_stage : (r : Pass) (tried : Tried) → Asks P a.counts a.state tried → Tries a.counts p r tried
        → Stage P (after_try P a tried) r (t + act_count tried)
    tried_stage r Unasked asks tries = same_pass_stage r tries
    tried_stage r (Did q x h) asks tries = acted_stage P a p t stage runs r q x h asks tries.0 tries.1
    tried_stage r (Denied q refusals.NoMemory) asks tries = same_pass_stage r tries
    tried_stage r (Denied q (refusals.HistoryFull place)) asks tries = same_pass_stage r tries.0
    tried_stage r (Denied q (refusals.Astray want found)) asks tries = same_pass_stage r tries

    -- the entry as the life tells of it
    pub entry_at_is : (stamp : ℕ) (q : AnyReq) (x : AnyReply) → entry_at a.counts stamp p q x ≡ entry_in P (life_at a p) stamp q x
    entry_at_is stamp q x =
        let number : passes.op_number p.running ≡ (state_in P (life_at a p)).number =
        ap passes.op_number (runs_op P a p t stage runs) ∙ ap (λ (s : Actor S). s.number) state_at in
        let step : p.steps ≡ length (trail_of p.moments.items) = omega
        (arith, steps_count-len 0 p.steps (trail_of p.moments.items) p.known.counted) in
        λ i. record {
          stamp = stamp;
          place = request_place a.counts q;
          actor = stage.same i;
          number = number i;
          step = step i;
          req = q;
          reply = x;
        }

    pub tried_life_is : (r : Pass) (tried : Tried) → Tries a.counts p r tried
        → life_at (after_try P a tried) r ≡ tried_life P (life_at a p) r.clock tried
    tried_life_is r Unasked tries = ap (life_at a) tries
    tried_life_is r (Did q x h) tries =
        let moments : r.moments.items ≡ p.moments.items ++ Act (entry_in P (life_at a p) r.clock q x) h ∷ [] =
        tries.1.moments ∙ ap (λ (e : Entry). p.moments.items ++ Act e h ∷ []) (entry_at_is r.clock q x) in
        λ i. record { counts = a.counts; actor = a.actor; clock = r.clock; moments = moments i; silent = [] }
    tried_life_is r (Denied q refusals.NoMemory) tries = ap (life_at a) tries
    tried_life_is r (Denied q (refusals.HistoryFull place)) tries = ap (life_at a) tries.0
    tried_life_is r (Denied q (refusals.Astray want found)) tries = ap (life_at a) tries

    same_events : (r : Pass) → r ≡ p → own_events r ≡ own_events p ++ []
    same_events r is = ap own_events is ∙ sym (append-nil (own_events p))

    pub tried_own : (r : Pass) (tried : Tried) → Asks P a.counts a.state tried → Tries a.counts p r tried
        → own_events r ≡ own_events p ++ tried_events (op_of a) tried
    tried_own r Unasked asks tries = same_events r tries
    tried_own r (Did q x h) asks tries =
        pushed_events P a _ p r t t (Act (entry_at a.counts r.clock p q x) h) (Own (op_of a) (Acted q x h)) stage
        (acted_pushed P a p t stage runs r q x h asks tries.0 tries.1)
    tried_own r (Denied q refusals.NoMemory) asks tries = same_events r tries
    tried_own r (Denied q (refusals.HistoryFull place)) asks tries = same_events r tries.0
    tried_own r (Denied q (refusals.Astray want found)) asks tries = same_events r tries

    -- ---- the end

    pub finished_stage : (b : ActorState S) (r : Pass) (answer : Option Answer) → Finishes P a b p r answer
        → ((x : Answer) → answer ≡ Some x → Because P a p t stage runs x) → Stage P b r t
    finished_stage b r None done why = rw (done.0, done.1) stage
    finished_stage b r (Some x) done why = ended_stage P a p t stage runs b r x done.0 done.1 (why x refl)

    pub finished_life : (b : ActorState S) (r : Pass) (answer : Option Answer) → Finishes P a b p r answer
        → life_at b r ≡ ended_life (life_at a p) (op_of a) answer
    finished_life b r None done = λ i. life_at (done.0 i) (done.1 i)
    finished_life b r (Some x) done =
        let moments : r.moments.items ≡ p.moments.items ++ Local (p.clock + 1) a.actor (notes.Ended (op_of a) x) ∷ [] =
        done.1.moments ∙ ap (λ (k : ℕ). p.moments.items ++ Local (p.clock + 1) k (notes.Ended (op_of a) x) ∷ []) stage.same in
        let own : b.actor ≡ a.actor = ap (λ (z : ActorState S). z.actor) done.0 in
        let counts : b.counts ≡ a.counts = ap (λ (z : ActorState S). z.counts) done.0 in
        λ i. record { counts = counts i; actor = own i; clock = done.1.clock i; moments = moments i; silent = [] }

    pub finished_own : (b : ActorState S) (r : Pass) (answer : Option Answer) → Finishes P a b p r answer
        → ((x : Answer) → answer ≡ Some x → Because P a p t stage runs x)
        → own_events r ≡ own_events p ++ end_events [] (op_of a) answer
    finished_own b r None done why = same_events r done.1
    finished_own b r (Some x) done why =
        pushed_events P a b p r t t (Local (p.clock + 1) p.actor (notes.Ended (op_of a) x)) (end_event (op_of a) x) stage
        (ended_pushed P a p t stage runs b r x done.0 done.1 (why x refl))

-- ---- the step

later_of : (counts : Counts) (p r : Pass) (tried : Tried) → Tries counts p r tried → is_later p.clock r.clock tried
later_of counts p r Unasked tries = tt
later_of counts p r (Did q x h) tries = tries.1.later
later_of counts p r (Denied q e) tries = tt

module _ {S : Type 0} where
  plain_at : (at : Standing S) (x : Answer) → standing_goes at → standing_plain at (Some x) → ¬ IsLack x
  plain_at (Goes s) x goes plain = plain
  plain_at Left x goes plain = absurd goes
  plain_at NoRoom x goes plain = absurd goes

  -- a command that goes on has no answer that is a lack
  pub plain_going : (o : Option (Running S)) (x : Answer) → IsGoing o → IsPlainOf o (Some x) → ¬ IsLack x
  plain_going None x going plain = plain
  plain_going (Some r) x going plain = plain_at r.at x going plain

-- a command does not end for a request that went astray, and it is full where it ends as full
because : {S : Type 0} (P : Programs S) (a : ActorState S) (p r : Pass) (n : ℕ) (tried : Tried) (stage : Stage P (after_try P a tried) r n)
    (runs : IsSome (after_try P a tried).state.running) → IsGoing a.state.running
    → Asks P a.counts a.state tried → Tries a.counts p r tried → (x : Answer) → StepEnds P (after_try P a tried) tried (Some x)
    → Because P (after_try P a tried) r n stage runs x
because P a p r n Unasked stage runs going asks tries x (inl is) = inl (is.0, plain_going a.state.running x going is.1)
because P a p r n Unasked stage runs going asks tries x (inr is) = inr (inl is)
because P a p r n (Did q y h) stage runs going asks tries x (inl is) = inl is
because P a p r n (Did q y h) stage runs going asks tries x (inr is) = inr (inl is)
because P a p r n (Denied q refusals.NoMemory) stage runs going asks tries x so = inr (inl so)
because P a p r n (Denied q (refusals.HistoryFull place)) stage runs going asks tries x so =
    inr (inr (place, q, so, subst passes.IsFull (sym tries.0) tries.1, asks, tries.2))
because P a p r n (Denied q (refusals.Astray want found)) stage runs going asks tries x so = absurd so

-- why it ends, as the life tells of it
ends_forgotten : {S : Type 0} (P : Programs S) (a : ActorState S) (tried : Tried) (answer : Option Answer)
    → StepEnds P (after_try P a tried) tried answer → EndsSo P a.counts (state_after P a.counts a.state tried) tried answer
ends_forgotten P a Unasked None ends = ends
ends_forgotten P a Unasked (Some x) (inl is) = inl is.0
ends_forgotten P a Unasked (Some x) (inr is) = inr is
ends_forgotten P a (Did q y h) answer ends = ends
ends_forgotten P a (Denied q e) answer ends = ends

number_stays : {S : Type 0} (P : Programs S) (a : ActorState S) (tried : Tried) → op_of (after_try P a tried) ≡ op_of a
number_stays P a Unasked = refl
number_stays P a (Did q x h) = λ i. record { actor = a.actor; number = went_number P a.counts a.state a.state.running q x h i }
number_stays P a (Denied q e) = refl

module _ {S W : Type 0} (P : Programs S) (done : W → W → ℕ → AnyReq → Result Entry Refused → Type 0) (w v : W) (a b : ActorState S)
    (p r : Pass) (t : ℕ) (stage : Stage P a p t) (runs : IsSome a.state.running) (going : IsGoing a.state.running) (step : Step)
    (took : TookStep P done w v a b p r step) where
  middle_stage : Stage P (after_try P a took.tried) took.middle (t + act_count took.tried)
  middle_stage = tried_stage P a p t stage runs took.middle took.tried took.asks took.tries

  middle_runs : IsSome (after_try P a took.tried).state.running
  middle_runs = after_runs P a p t stage runs took.tried

  why : (x : Answer) → step.answer ≡ Some x
      → Because P (after_try P a took.tried) took.middle (t + act_count took.tried) middle_stage middle_runs x
  why x is =
      because P a p took.middle (t + act_count took.tried) took.tried middle_stage middle_runs going took.asks took.tries x
      (subst (StepEnds P (after_try P a took.tried) took.tried) is took.ends)

  pub step_stage : Stage P b r (t + step.transactions)
  step_stage =
      let last : Stage P b r (t + act_count took.tried) =
      finished_stage P (after_try P a took.tried) took.middle (t + act_count took.tried) middle_stage middle_runs b r
      step.answer took.finishes why in
      rw took.acted last

  step_life : life_at b r ≡ ended_life (tried_life P (life_at a p) took.middle.clock took.tried) (op_in P (life_at a p)) step.answer
  step_life =
      finished_life P (after_try P a took.tried) took.middle (t + act_count took.tried) middle_stage middle_runs b r step.answer
      took.finishes
      ∙ ap (λ (l : ClientLife). ended_life l (op_of (after_try P a took.tried)) step.answer)
      (tried_life_is P a p t stage runs took.middle took.tried took.tries)
      ∙ ap (λ (o : OpId). ended_life (tried_life P (life_at a p) took.middle.clock took.tried) o step.answer)
      (number_stays P a took.tried ∙ sym (op_at P a p t stage))

  step_own : own_events r ≡ own_events p ++ (tried_events (op_of a) took.tried ++ end_events [] (op_of a) step.answer)
  step_own =
      finished_own P (after_try P a took.tried) took.middle (t + act_count took.tried) middle_stage middle_runs b r step.answer
      took.finishes why
      ∙ ap (λ (es : List Event). es ++ end_events [] (op_of (after_try P a took.tried)) step.answer)
      (tried_own P a p t stage runs took.middle took.tried took.asks took.tries)
      ∙ ap (λ (o : OpId). (own_events p ++ tried_events (op_of a) took.tried) ++ end_events [] o step.answer) (number_stays P a took.tried)
      ∙ append_assoc (own_events p) (tried_events (op_of a) took.tried) (end_events [] (op_of a) step.answer)

  step_events : events_in (life_at b r) ≡ events_in (life_at a p)
      ++ (tried_events (op_in P (life_at a p)) took.tried ++ end_events [] (op_in P (life_at a p)) step.answer)
  step_events =
      append-nil (own_events r) ∙ step_own
      ∙ ap (λ (o : OpId). own_events p ++ (tried_events o took.tried ++ end_events [] o step.answer)) (sym (op_at P a p t stage))
      ∙ ap (λ (es : List Event). es ++ (tried_events (op_in P (life_at a p)) took.tried
      ++ end_events [] (op_in P (life_at a p)) step.answer)) (sym (append-nil (own_events p)))

  there_at : (tried : Tried) → DidThere done w v p.clock (entry_at a.counts took.middle.clock p) tried
      → DidThere done w v p.clock (entry_in P (life_at a p) took.middle.clock) tried
  there_at Unasked there = there
  there_at (Did q x h) there = subst (λ (e : Entry). done w v p.clock q (Ok e)) (entry_at_is P a p t stage runs took.middle.clock q x)
      there
  there_at (Denied q e) there = there

  pub own_step : OwnStep P done w v (life_at a p) (life_at b r) (turned_by step.answer)
  own_step = record {
    tried = took.tried;
    stamp = took.middle.clock;
    answer = step.answer;
    asks = subst (λ (s : Actor S). Asks P a.counts s took.tried) (state_at P a p t stage) took.asks;
    there = there_at took.tried took.there;
    later = later_of a.counts p took.middle took.tried took.tries;
    life = step_life;
    events = step_events;
    ends = subst (λ (s : Actor S). EndsSo P a.counts (state_after P a.counts s took.tried) took.tried step.answer)
        (state_at P a p t stage) (ends_forgotten P a took.tried step.answer took.ends);
    told = refl;
  }
