-- an actor stands as its events tell, but for a request that went astray
use Rattle.std.proofs.Common.{◌≡◌, ◌⊎◌, inl, inr, ℕ, Bool, true, false, Option, Some, None, IsSome, is_some, refl, sym, ap, ◌∙◌, subst}
use Rattle.std.proofs.Common.{arith}
use Rattle.std.specs.Prelude.{Result}
use Rattle.tect_ids.specs.declared.ids.Counts.{Counts}
use Rattle.tect_ids.specs.declared.ids.OpId.{OpId}
use Rattle.tect_ids.specs.declared.answer.Answer.{Answer}
use Rattle.store_rules.specs.declared.any.AnyReq.{AnyReq}
use Rattle.program_forms.specs.Memories.{Memory}
use Rattle.program_forms.specs.Kinds.{Programs}
use Rattle.program_calls.specs.Keeping.{KeepsSerial}
use Rattle.entry_words.specs.declared.entry.Entry.{Entry}
use Rattle.entry_words.specs.declared.entry.Note.TheVariants.{Ended}
use Rattle.entry_words.specs.declared.entry.Refused.{Refused}
use Rattle.passes.specs.declared.pass.Pass.{Pass}
use Rattle.passes.specs.Adding.{NotedEnd}
use Rattle.world_runs.specs.Actors.{Actor, Running, program_ask, program_answer, ended}
use Rattle.clients.specs.ActorState.{ActorState, op_of}
use Rattle.clients.specs.ActorCalls.{actor_looked, looked, at_left, left_behind}
use Rattle.clients.specs.declared.steps.Step.{Step}
use Rattle.clients.specs.ClientInside.{StandsAs}
use Rattle.clients.specs.Steps.{Tried, Unasked, Did, Denied}
use Rattle.clients.specs.PassSteps.{Finishes, StepEnds, TookStep, ended_by}
use Rattle.clients.proofs.Calls.{looked_serial}

module _ {S : Type 0} (P : Programs S) where
  module _ (c : Counts) (m : Memory) where
    left_asks : (o : Option (Running S)) (q : AnyReq) → program_ask P c m (at_left o) ≡ Some q → ⊥
    left_asks None q is = cc
    left_asks (Some r) q is = cc

    left_answers : (o : Option (Running S)) (x : Answer) → program_answer P c m (at_left o) ≡ Some x → ⊥
    left_answers None x is = cc
    left_answers (Some r) x is = cc

  left_some : (o : Option (Running S)) → is_some (at_left o) ≡ is_some o
  left_some None = refl
  left_some (Some r) = refl

  module _ (c : Counts) (n : ℕ) (m : Memory) (b : Bool) where
    abbrev with : Option (Running S) → Actor S
    with o = record { number = n; memory = m; stopped = b; running = o }

    looked_number : (o : Option (Running S)) → (actor_looked P c (with o) o).number ≡ n
    looked_number None = refl
    looked_number (Some r) = refl

    looked_stopped : (o : Option (Running S)) → (actor_looked P c (with o) o).stopped ≡ b
    looked_stopped None = refl
    looked_stopped (Some r) = refl

    looked_some : (o : Option (Running S)) → is_some (actor_looked P c (with o) o).running ≡ is_some o
    looked_some None = refl
    looked_some (Some r) = refl

    left_end : (o : Option (Running S)) → (let l : Actor S = actor_looked P c (with o) o in
        let k : Actor S = record l { running = at_left l.running } in ended P c k k.running ≡ ended P c (with o) o)
    left_end None = refl
    left_end (Some r) = refl

    left_none : (o : Option (Running S)) → o ≡ None → (let l : Actor S = actor_looked P c (with o) o in
        let k : Actor S = record l { running = at_left l.running } in k ≡ with o)
    left_none None is = refl
    left_none (Some r) is = absurd cc

  module _ (t : ActorState S) where
    pub stray_op : op_of (left_behind (looked P t)) ≡ op_of t
    stray_op i = record
        { actor = t.actor; number = looked_number t.counts t.state.number t.state.memory t.state.stopped t.state.running i }

    stray_stopped : (left_behind (looked P t)).state.stopped ≡ t.state.stopped
    stray_stopped = looked_stopped t.counts t.state.number t.state.memory t.state.stopped t.state.running

    stray_some : is_some (left_behind (looked P t)).state.running ≡ is_some t.state.running
    stray_some = left_some (looked P t).state.running
        ∙ looked_some t.counts t.state.number t.state.memory t.state.stopped t.state.running

    stray_end : ended_by P (left_behind (looked P t)) ≡ ended_by P t
    stray_end i = record t { state = left_end t.counts t.state.number t.state.memory t.state.stopped t.state.running i }

    stray_idle : t.state.running ≡ None → left_behind (looked P t) ≡ t
    stray_idle idle i = record t { state = left_none t.counts t.state.number t.state.memory t.state.stopped t.state.running idle i }

  module _ (t a : ActorState S) where
    pub stands_counts : StandsAs P t a → a.counts ≡ t.counts
    stands_counts (inl is) = ap (λ (z : ActorState S). z.counts) is
    stands_counts (inr (inl is)) = ap (λ (z : ActorState S). z.counts) is
    stands_counts (inr (inr (stopped, none, is))) = ap (λ (z : ActorState S). z.counts) is

    pub stands_op : StandsAs P t a → op_of a ≡ op_of t
    stands_op (inl is) = ap op_of is
    stands_op (inr (inl is)) = ap op_of is ∙ stray_op t
    stands_op (inr (inr (stopped, none, is))) = ap op_of is

    pub stands_stopped : StandsAs P t a → a.state.stopped ≡ t.state.stopped
    stands_stopped (inl is) = ap (λ (z : ActorState S). z.state.stopped) is
    stands_stopped (inr (inl is)) = ap (λ (z : ActorState S). z.state.stopped) is ∙ stray_stopped t
    stands_stopped (inr (inr (stopped, none, is))) = ap (λ (z : ActorState S). z.state.stopped) is

    pub stands_some : StandsAs P t a → is_some a.state.running ≡ is_some t.state.running
    stands_some (inl is) = ap (λ (z : ActorState S). is_some z.state.running) is
    stands_some (inr (inl is)) = ap (λ (z : ActorState S). is_some z.state.running) is ∙ stray_some t
    stands_some (inr (inr (stopped, none, is))) = ap (λ (z : ActorState S). is_some z.state.running) is

    -- an idle one that goes on
    pub stands_idle : StandsAs P t a → t.state.running ≡ None → t.state.stopped ≡ false → a ≡ t
    stands_idle (inl is) idle goes = is
    stands_idle (inr (inl is)) idle goes = is ∙ stray_idle t idle
    stands_idle (inr (inr (stopped, none, is))) idle goes = absurd cc

    none_some : t.state.running ≡ None → IsSome t.state.running → ⊥
    none_some none some = grind (arith, none, some)

    -- one whose command runs
    pub stands_runs : StandsAs P t a → IsSome t.state.running → (a ≡ t) ⊎ (a ≡ left_behind (looked P t))
    stands_runs (inl is) runs = inl is
    stands_runs (inr (inl is)) runs = inr is
    stands_runs (inr (inr (stopped, none, is))) runs = absurd (none_some none runs)

    pub stands_serial : KeepsSerial P → StandsAs P t a → IsSome t.state.running → a.state.memory.serial ≡ t.state.memory.serial
    stands_serial keeps (inl is) runs = ap (λ (z : ActorState S). z.state.memory.serial) is
    stands_serial keeps (inr (inl is)) runs = ap (λ (z : ActorState S). z.state.memory.serial) is
        ∙ looked_serial P t.counts keeps t.state t.state.running
    stands_serial keeps (inr (inr (stopped, none, is))) runs = absurd (none_some none runs)

    -- a stop leaves its memory as it is
    pub stands_stop : StandsAs P t a
        → (let b : ActorState S = record a { state = record a.state { stopped = true; running = None } } in
        let u : ActorState S = record t { state = record t.state { stopped = true; running = None } } in StandsAs P u b)
    stands_stop (inl is) = inl (λ i. record (is i) { state = record (is i).state { stopped = true; running = None } })
    stands_stop (inr (inl is)) = inr (inr (
      refl,
      refl,
      (λ i. record (is i) { state = record (is i).state { stopped = true; running = None } })
          ∙ (λ i. record t {
            state = record {
              number = looked_number t.counts t.state.number t.state.memory t.state.stopped t.state.running i;
              memory = (looked P t).state.memory;
              stopped = true;
              running = None;
            };
          })
          ∙ ap (λ (m : Memory). let u : ActorState S =
          record t { state = record t.state { memory = m; stopped = true; running = None } } in u)
          (sym (ap (λ (z : ActorState S). z.state.memory) is)),
    ))
    stands_stop (inr (inr (stopped, none, is))) = inr (inr (
      refl,
      refl,
      λ i. record (is i) { state = record (is i).state { stopped = true; running = None } },
    ))

-- ---- a step

module _ {S W : Type 0} (P : Programs S) (done : W → W → ℕ → AnyReq → Result Entry Refused → Type 0) (w v : W) (t b : ActorState S)
    (p r : Pass) (step : Step) where
  finishes_so : (middle : Pass) (answer : Option Answer) → StepEnds P (left_behind (looked P t)) Unasked answer
      → Finishes P (left_behind (looked P t)) b middle r answer → Finishes P t b middle r answer
  finishes_so middle None ends finishes = absurd ends
  finishes_so middle (Some x) ends finishes =
      (finishes.0 ∙ stray_end P t, subst (λ (o : OpId). NotedEnd middle r (Ended o x)) (stray_op P t) finishes.1)

  ends_so : (answer : Option Answer) → StepEnds P (left_behind (looked P t)) Unasked answer → StepEnds P t Unasked answer
  ends_so None ends = ends
  ends_so (Some x) (inl is) =
      absurd (left_answers P t.counts (looked P t).state.memory (looked P t).state.running x is.0)
  ends_so (Some x) (inr is) = inr is

  stray_took : (took : TookStep P done w v (left_behind (looked P t)) b p r step) → (tried : Tried) → took.tried ≡ tried
      → TookStep P done w v t b p r step
  stray_took took Unasked is = record {
    tried = Unasked;
    middle = took.middle;
    asks = tt;
    there = rw is at took.there;
    tries = rw is at took.tries;
    ends = ends_so step.answer (rw is at took.ends);
    finishes = finishes_so took.middle step.answer (rw is at took.ends) (rw is at took.finishes);
    acted = rw is at took.acted;
  }
  stray_took took (Did q x h) is =
      absurd (left_asks P t.counts (looked P t).state.memory (looked P t).state.running q (rw is at took.asks))
  stray_took took (Denied q e) is =
      absurd (left_asks P t.counts (looked P t).state.memory (looked P t).state.running q (rw is at took.asks))

  -- a step is one of the actor as its events tell it
  pub seen_step : (a : ActorState S) → (a ≡ t) ⊎ (a ≡ left_behind (looked P t)) → TookStep P done w v a b p r step
      → TookStep P done w v t b p r step
  seen_step a (inl is) took = subst (λ (z : ActorState S). TookStep P done w v z b p r step) is took
  seen_step a (inr is) took =
      let stray = subst (λ (z : ActorState S). TookStep P done w v z b p r step) is took in stray_took stray stray.tried refl
