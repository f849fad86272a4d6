-- the steps that the code takes
use Rattle.std.proofs.Common.{ℕ, ◌≡◌, ◌+◌, ◌<◌, ◌^◌, ◌⊎◌, inl, inr, false, arith, Option, Some, None, [], ◌∷◌, ◌++◌, refl, sym, ap, ◌∙◌}
use Rattle.std.proofs.Common.{subst}
use Rattle.std.specs.Prelude.{Result, Ok, Err}
use Rattle.tect_ids.specs.declared.ids.Counts.{Counts}
use Rattle.tect_ids.specs.declared.ids.OpId.{OpId}
use Rattle.tect_ids.specs.declared.ids.NoMemory.{NoMemory as Wanting}
use Rattle.tect_ids.specs.declared.answer.Answer.{Answer}
use Rattle.tect_ids.specs.declared.answer.Answer.TheVariants as answers
use Rattle.store_rules.specs.declared.any.AnyReq.{AnyReq}
use Rattle.store_rules.specs.declared.any.AnyReply.{AnyReply}
use Rattle.program_forms.specs.declared.heard.Heard.{Heard}
use Rattle.program_forms.specs.declared.heard.Heard.TheVariants as hearing
use Rattle.program_forms.specs.declared.standing.Standing.{Standing}
use Rattle.program_forms.specs.declared.standing.Standing.TheVariants.{Goes, Left, NoRoom}
use Rattle.program_forms.specs.Lacks.{IsLack}
use Rattle.program_forms.specs.Memories.{Memory}
use Rattle.program_forms.specs.Kinds.{Programs}
use Rattle.entry_words.specs.declared.entry.Entry.{Entry}
use Rattle.entry_words.specs.declared.entry.Moment.{Moment}
use Rattle.entry_words.specs.declared.entry.Moment.TheVariants.{Act}
use Rattle.entry_words.specs.declared.entry.Note.TheVariants.{Ended}
use Rattle.entry_words.specs.declared.entry.Refused.{Refused}
use Rattle.entry_words.specs.Moments.{heard_last}
use Rattle.passes.specs.declared.pass.Pass.{Pass}
use Rattle.passes.specs.Logged.{Logged}
use Rattle.passes.specs.Commits.{IsFull}
use Rattle.passes.specs.Adding.{entry_at, Committed, NotedEnd}
use Rattle.passes.proofs.Hearing.{heard_last-act}
use Rattle.world_runs.specs.Actors.{Actor, Running, has_ended, ended}
use Rattle.clients.specs.ActorState.{ActorState, op_of}
use Rattle.clients.specs.ActorCalls.{looked, asks_now, says_now, actor_on, gone_on, let_go, ComesTo, Advances}
use Rattle.clients.specs.declared.steps.Step.{Step}
use Rattle.clients.specs.Steps.{Unasked, Did, Denied, EndsSo}
use Rattle.clients.specs.PassSteps.{ended_by, Entered, Finishes, Tries, Marks, SettlesSo, EndsHere, HearsSo, StepEnds}
use Rattle.clients.specs.PassSteps.{after_try, TookStep}
use Rattle.program_calls.specs.declared.went.Went.{Went}
use Rattle.program_calls.specs.Hearing.{heard_if_kept}
use Rattle.program_calls.specs.Keeping.{KeepsSerial}
use Rattle.clients.proofs.Calls.{heard_by, looked_serial, looked_asks, looked_says, looked_plain, looked_on, looked_end, looked_op}
use Rattle.clients.proofs.Calls.{says_end, says_answers}

-- what is marked in a pass, in the words of its call
pub marked : (h : Heard) (p k : Pass) → (let m : Logged Moment = record { items = heard_last h p.moments.items; spare = p.moments.spare } in
    k.moments ≡ m) → (k.actor ≡ p.actor) × (k.clock ≡ p.clock) × (k.steps ≡ p.steps) × (k.bytes ≡ p.bytes) × (k.running ≡ p.running)
    → Marks h p k
marked h p k moments same =
    record { moments = ap (λ (m : Logged Moment). m.items) moments; clock = same.1; actor = same.0; running = same.4 }

module _ {S : Type 0} (P : Programs S) where
  -- ---- how the command goes on at the reply

  left_of : (c : Counts) (n : ℕ) (m : Memory) (b : _) (op : OpId) (at : Standing S) (q : AnyReq) (x : AnyReply)
      → (let r : Running S = record { op = op; at = at } in
      let a : Actor S = record { number = n; memory = m; stopped = b; running = Some r } in
      let g : Actor S = actor_on P c a (Some r) q x hearing.Left in
      let e : Actor S = record g { running = None } in e ≡ ended P c g g.running)
  left_of c n m b op (Goes s) q x = refl
  left_of c n m b op Left q x = refl
  left_of c n m b op NoRoom q x = refl

  left_by : (c : Counts) (n : ℕ) (m : Memory) (b : _) (o : Option (Running S)) (q : AnyReq) (x : AnyReply)
      → (let a : Actor S = record { number = n; memory = m; stopped = b; running = o } in
      let g : Actor S = actor_on P c a o q x hearing.Left in
      let e : Actor S = record g { running = None } in e ≡ ended P c g g.running)
  left_by c n m b None q x = refl
  left_by c n m b (Some r) q x = left_of c n m b r.op r.at q x

  left_ends : (a : ActorState S) (q : AnyReq) (x : AnyReply)
      → let_go (gone_on P a q x hearing.Left) ≡ ended_by P (gone_on P a q x hearing.Left)
  left_ends a q x i = record a { state = left_by a.counts a.state.number a.state.memory a.state.stopped a.state.running q x i }

  module _ (a m b : ActorState S) (p k r : Pass) (q : AnyReq) (x : AnyReply) where
    module _ (w : Went) (h : Heard) (so : h ≡ heard_if_kept w.kept) (marks : Marks h p k) where
      came : (b : ActorState S) (o : Option Answer) → w.answer ≡ o → Advances P a b q x (Ok w) → ComesTo P (gone_on P a q x h) b o
      came b o is goes = subst (λ (g : Heard). ComesTo P (gone_on P a q x g) b o) (sym so)
          (subst (ComesTo P (gone_on P a q x (heard_if_kept w.kept)) b) is goes)

      pub hears_going : w.answer ≡ None → Advances P a b q x (Ok w) → HearsSo P a b p k q x None
      hears_going none goes =
          let is : ComesTo P (gone_on P a q x h) b None = came b None none goes in
          record {
            heard = h;
            middle = k;
            marks = marks;
            ends = subst (λ (z : ActorState S). has_ended P z.counts z.state.memory z.state.running ≡ false) is.0 is.1;
            finishes = (is.0, refl);
          }

      done_ends : (y z : Answer) → says_now P (gone_on P a q x h) ≡ Some z → ¬ IsLack z → (y ≡ z) ⊎ (y ≡ answers.NoMemory)
          → EndsHere P (gone_on P a q x h) (Some y)
      done_ends y z says plain (inl is) = inl (says ∙ ap Some (sym is), subst (λ (w : Answer). ¬ IsLack w) (sym is) plain)
      done_ends y z says plain (inr is) = inr is

      pub hears_done : (y z : Answer) → w.answer ≡ Some z → Advances P a m q x (Ok w) → b ≡ let_go m → NotedEnd k r (Ended (op_of m) y)
          → (y ≡ z) ⊎ (y ≡ answers.NoMemory) → HearsSo P a b p r q x (Some y)
      hears_done y z some goes after noted either =
          let is : ComesTo P (gone_on P a q x h) m (Some z) = came m (Some z) some goes in
          record {
            heard = h;
            middle = k;
            marks = marks;
            ends = done_ends y z is.1 is.2 either;
            finishes = (
              after ∙ ap let_go is.0 ∙ says_end P (gone_on P a q x h) z is.1,
              subst (λ (o : OpId). NotedEnd k r (Ended o y)) (ap op_of is.0) noted,
            );
          }

    pub hears_left : (e : Wanting) → Marks hearing.Left p k → Advances P a m q x (Err e) → b ≡ let_go m
        → NotedEnd k r (Ended (op_of m) answers.NoMemory) → HearsSo P a b p r q x (Some answers.NoMemory)
    hears_left e marks is after noted = record {
      heard = hearing.Left;
      middle = k;
      marks = marks;
      ends = inr refl;
      finishes = (
        after ∙ ap let_go is ∙ left_ends a q x,
        subst (λ (o : OpId). NotedEnd k r (Ended o answers.NoMemory)) (ap op_of is) noted,
      );
    }

  -- ---- the pass

  entered_by : (counts : Counts) (h : Heard) (p m k : Pass) (q : AnyReq) (x : AnyReply) → Committed counts p m q x → Marks h m k
      → Entered counts h p k q x
  entered_by counts h p m k q x done marks =
      let stamped : k.moments.items ≡ p.moments.items ++ Act (entry_at counts m.clock p q x) h ∷ [] =
      marks.moments ∙ ap (heard_last h) done.moments
      ∙ heard_last-act h p.moments.items (entry_at counts m.clock p q x) hearing.Whole in
      record {
        moments = rw marks.clock stamped;
        later = rw marks.clock done.later;
        actor = marks.actor ∙ done.actor;
        running = marks.running ∙ done.running;
      }

  -- ---- the steps

  module _ {W : Type 0} (done : W → W → ℕ → AnyReq → Result Entry Refused → Type 0) (w v : W) (a b : ActorState S) (p r : Pass) where
    did_ends : (q : AnyReq) (x : AnyReply) (h : Heard) (answer : Option Answer) → EndsHere P (heard_by P a q x h) answer
        → StepEnds P (after_try P a (Did q x h)) (Did q x h) answer
    did_ends q x h None ends = ends
    did_ends q x h (Some y) (inl is) = inl (says_answers P (heard_by P a q x h) y is.0, is.1)
    did_ends q x h (Some y) (inr is) = inr is

    did_here : (m : Pass) (q : AnyReq) (x : AnyReply) (answer : Option Answer) → asks_now P (looked P a) ≡ Some q
        → done w v p.clock q (Ok (entry_at a.counts m.clock p q x)) → ¬ IsFull p → Committed a.counts p m q x
        → HearsSo P (looked P a) b m r q x answer → TookStep P done w v a b p r (record { transactions = 1; answer = answer })
    did_here m q x answer asks did room committed hears =
        let same : gone_on P (looked P a) q x hears.heard ≡ heard_by P a q x hears.heard = looked_on P a q x hears.heard in
        record {
          tried = Did q x hears.heard;
          middle = hears.middle;
          asks = sym (looked_asks P a) ∙ asks;
          there = subst (λ (n : ℕ). done w v p.clock q (Ok (entry_at a.counts n p q x))) (sym hears.marks.clock) did;
          tries = (room, entered_by a.counts hears.heard p m hears.middle q x committed hears.marks);
          ends = did_ends q x hears.heard answer (subst (λ (z : ActorState S). EndsHere P z answer) same hears.ends);
          finishes = subst (λ (z : ActorState S). Finishes P z b hears.middle r answer) same hears.finishes;
          acted = refl;
        }

    -- the look-ups of l are those of a
    module _ (l : ActorState S) (is : l ≡ looked P a) where
      pub did_step : (m : Pass) (q : AnyReq) (x : AnyReply) (answer : Option Answer) → asks_now P l ≡ Some q
          → done w v p.clock q (Ok (entry_at l.counts m.clock p q x)) → ¬ IsFull p → Committed l.counts p m q x
          → HearsSo P l b m r q x answer → TookStep P done w v a b p r (record { transactions = 1; answer = answer })
      did_step m q x answer asks did room committed hears =
          did_here m q x answer (sym (ap (asks_now P) is) ∙ asks)
          (subst (λ (z : ActorState S). done w v p.clock q (Ok (entry_at z.counts m.clock p q x))) is did) room
          (subst (λ (z : ActorState S). Committed z.counts p m q x) is committed)
          (subst (λ (z : ActorState S). HearsSo P z b m r q x answer) is hears)

      end_here : b ≡ let_go l → b ≡ ended_by P a
      end_here after = after ∙ ap let_go is ∙ looked_end P a

      noted_here : (m : Pass) (x : Answer) → NotedEnd m r (Ended (op_of l) x) → NotedEnd m r (Ended (op_of a) x)
      noted_here m x noted = subst (λ (o : OpId). NotedEnd m r (Ended o x)) (ap op_of is ∙ looked_op P a) noted

      pub denied_step : (m : Pass) (q : AnyReq) (e : Refused) (x : Answer) (step : Step) → asks_now P l ≡ Some q
          → done w v p.clock q (Err e) → Tries l.counts p m (Denied q e) → EndsSo P a.counts a.state (Denied q e) (Some x)
          → b ≡ let_go l → NotedEnd m r (Ended (op_of l) x) → (let t : Step = record { transactions = 0; answer = Some x } in step ≡ t)
          → TookStep P done w v a b p r step
      denied_step m q e x step asks did tries so after noted told = rw told (record {
        tried = Denied q e;
        middle = m;
        asks = sym (looked_asks P a) ∙ sym (ap (asks_now P) is) ∙ asks;
        there = did;
        tries = subst (λ (z : ActorState S). Tries z.counts p m (Denied q e)) is tries;
        ends = so;
        finishes = (end_here after, noted_here m x noted);
        acted = refl;
      })

      settled : (x : Answer) → SettlesSo P (looked P a) x → StepEnds P a Unasked (Some x)
      settled x (inl so) = inl (sym (looked_says P a) ∙ so.0, looked_plain P a (Some x) so.1)
      settled x (inr so) = inr so

      pub unasked_step : (x : Answer) → v ≡ w → SettlesSo P l x → b ≡ let_go l → NotedEnd p r (Ended (op_of l) x)
          → TookStep P done w v a b p r (record { transactions = 0; answer = Some x })
      unasked_step x same so after noted = record {
        tried = Unasked;
        middle = p;
        asks = tt;
        there = same;
        tries = refl;
        ends = settled x (subst (λ (z : ActorState S). SettlesSo P z x) is so);
        finishes = (end_here after, noted_here p x noted);
        acted = refl;
      }

      pub wanting_step : (step : Step) → v ≡ w → b ≡ let_go l → NotedEnd p r (Ended (op_of l) answers.NoMemory)
          → (let t : Step = record { transactions = 0; answer = Some answers.NoMemory } in step ≡ t) → TookStep P done w v a b p r step
      wanting_step step same after noted told = rw told (record {
        tried = Unasked;
        middle = p;
        asks = tt;
        there = same;
        tries = refl;
        ends = inr refl;
        finishes = (end_here after, noted_here p answers.NoMemory noted);
        acted = refl;
      })

  -- its look-ups take no serial
  pub looked_few : KeepsSerial P → (a l : ActorState S) → l ≡ looked P a → a.state.memory.serial + 1 < 2 ^ 32
      → l.state.memory.serial + 1 < 2 ^ 32
  looked_few keeps a l is few =
      omega (arith, few, ap (λ (z : ActorState S). z.state.memory.serial) is, looked_serial P a.counts keeps a.state a.state.running)
