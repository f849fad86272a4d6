-- A step of an actor with its pass, in the words of the code.
use Rattle.std.specs.Prelude.{◌≡◌, ℕ, ◌<◌, ◌⊎◌, false, [], ◌∷◌, ◌++◌, Option, Some, None, Result, Err}
use Rattle.tect_ids.specs.declared.ids.Counts.{Counts}
use Rattle.tect_ids.specs.declared.answer.Answer.{Answer}
use Rattle.tect_ids.specs.declared.answer.Answer.TheVariants as answers
use Rattle.store_rules.specs.declared.any.AnyReq.{AnyReq}
use Rattle.store_rules.specs.declared.any.AnyReply.{AnyReply}
use Rattle.store_rules.specs.Places.{request_place}
use Rattle.program_forms.specs.declared.heard.Heard.{Heard}
use Rattle.program_forms.specs.Lacks.{IsLack}
use Rattle.program_forms.specs.Kinds.{Programs}
use Rattle.entry_words.specs.declared.entry.Entry.{Entry}
use Rattle.entry_words.specs.declared.entry.Moment.TheVariants.{Act}
use Rattle.entry_words.specs.declared.entry.Note.TheVariants.{Ended}
use Rattle.entry_words.specs.declared.entry.Refused.{Refused}
use Rattle.entry_words.specs.declared.entry.Refused.TheVariants.{NoMemory, HistoryFull, Astray}
use Rattle.entry_words.specs.Moments.{heard_last}
use Rattle.passes.specs.declared.pass.Pass.{Pass}
use Rattle.passes.specs.Commits.{IsFull}
use Rattle.passes.specs.Adding.{entry_at, NotedEnd}
use Rattle.world_runs.specs.Actors.{program_ask, program_answer, has_ended, ended}
use Rattle.clients.specs.ActorState.{ActorState, op_of}
use Rattle.clients.specs.ActorCalls.{IsPlainOf, says_now, gone_on, looked, left_behind}
use Rattle.clients.specs.declared.steps.Step.{Step}
use Rattle.clients.specs.Steps.{Tried, Unasked, Did, Denied, Asks, DidThere, state_after, EndsSo}

-- the actor after the end of its command
abbrev pub ended_by : {S : Type 0} → Programs S → ActorState S → ActorState S
ended_by P a = record a { state = ended P a.counts a.state a.state.running }

-- the pass has the transaction, which was heard so
pub record Entered (counts : Counts) (h : Heard) (old new : Pass) (q : AnyReq) (x : AnyReply) : Type 0 where
  pub moments : new.moments.items ≡ old.moments.items ++ Act (entry_at counts new.clock old q x) h ∷ []
  pub later : old.clock < new.clock
  pub actor : new.actor ≡ old.actor
  pub running : new.running ≡ old.running

-- the actor and the pass after the end, if it comes
abbrev pub Finishes : {S : Type 0} → Programs S → ActorState S → ActorState S → Pass → Pass → Option Answer → Type 0
Finishes P a b p r None = (b ≡ a) × (r ≡ p)
Finishes P a b p r (Some x) = (b ≡ ended_by P a) × NotedEnd p r (Ended (op_of a) x)

-- ---- in the words of its calls

-- the pass's last moment says that the command heard the reply so
pub record Marks (h : Heard) (old new : Pass) : Type 0 where
  pub moments : new.moments.items ≡ heard_last h old.moments.items
  pub clock : new.clock ≡ old.clock
  pub actor : new.actor ≡ old.actor
  pub running : new.running ≡ old.running

-- as it stands it has that answer, which is no want of memory or of room unless its op was refused; or memory is wanting
abbrev pub SettlesSo : {S : Type 0} → Programs S → ActorState S → Answer → Type 0
SettlesSo P a x = ((says_now P a ≡ Some x) × IsPlainOf a.state.running (Some x)) ⊎ (x ≡ answers.NoMemory)

-- it goes on; or it has that answer as it stands, or memory is wanting
abbrev pub EndsHere : {S : Type 0} → Programs S → ActorState S → Option Answer → Type 0
EndsHere P a None = has_ended P a.counts a.state.memory a.state.running ≡ false
EndsHere P a (Some x) = ((says_now P a ≡ Some x) × ¬ IsLack x) ⊎ (x ≡ answers.NoMemory)

-- the command went on at the reply to the request that it asks as it stands
pub record HearsSo {S : Type 0} (P : Programs S) (a b : ActorState S) (p r : Pass) (q : AnyReq) (x : AnyReply) (answer : Option Answer)
    : Type 0 where
  pub heard : Heard
  pub middle : Pass
  pub marks : Marks heard p middle
  pub ends : EndsHere P (gone_on P a q x heard) answer
  pub finishes : Finishes P (gone_on P a q x heard) b middle r answer

-- ---- a whole step

-- the pass has the transaction; it has none where the request was refused: as full, at the request's place
abbrev pub Tries : Counts → Pass → Pass → Tried → Type 0
Tries counts p r Unasked = r ≡ p
Tries counts p r (Did q x h) = (¬ IsFull p) × Entered counts h p r q x
Tries counts p r (Denied q NoMemory) = r ≡ p
Tries counts p r (Denied q (HistoryFull place)) = (r ≡ p) × IsFull p × (place ≡ request_place counts q)
Tries counts p r (Denied q (Astray want found)) = r ≡ p

abbrev pub act_count : Tried → ℕ
act_count Unasked = 0
act_count (Did q x h) = 1
act_count (Denied q e) = 0

abbrev pub after_try : {S : Type 0} → Programs S → ActorState S → Tried → ActorState S
after_try P a tried = record a { state = state_after P a.counts a.state tried }

-- Why the command ends, in its actor's state then; an answer that it came to is no want of memory or of room, unless its op was refused.
abbrev pub StepEnds : {S : Type 0} → Programs S → ActorState S → Tried → Option Answer → Type 0
StepEnds P a Unasked None = ⊥
StepEnds P a Unasked (Some x) =
    ((program_answer P a.counts a.state.memory a.state.running ≡ Some x) × IsPlainOf a.state.running (Some x)) ⊎ (x ≡ answers.NoMemory)
StepEnds P a (Did q x h) answer = EndsSo P a.counts a.state (Did q x h) answer
StepEnds P a (Denied q e) answer = EndsSo P a.counts a.state (Denied q e) answer

pub record TookStep {S W : Type 0} (P : Programs S) (done : W → W → ℕ → AnyReq → Result Entry Refused → Type 0) (w v : W)
    (a b : ActorState S) (p r : Pass) (step : Step) : Type 0 where
  pub tried : Tried
  pub middle : Pass
  pub asks : Asks P a.counts a.state tried
  pub there : DidThere done w v p.clock (entry_at a.counts middle.clock p) tried
  pub tries : Tries a.counts p middle tried
  pub ends : StepEnds P (after_try P a tried) tried step.answer
  pub finishes : Finishes P (after_try P a tried) b middle r step.answer
  pub acted : step.transactions ≡ act_count tried

-- the command goes on no more
pub record LostStep {S W : Type 0} (P : Programs S) (done : W → W → ℕ → AnyReq → Result Entry Refused → Type 0) (w v : W)
    (a b : ActorState S) (p r : Pass) (e : Refused) : Type 0 where
  pub req : AnyReq
  pub asks : program_ask P a.counts a.state.memory a.state.running ≡ Some req
  pub there : done w v p.clock req (Err e)
  pub actor : b ≡ left_behind (looked P a)
  pub pass : r ≡ p
