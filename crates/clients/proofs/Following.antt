-- what stays in a step and in a begin; and a command that goes on is nearer to its end
use Rattle.std.proofs.Common.{◌≡◌, inl, inr, ℕ, ◌+◌, ◌<◌, Option, Some, None, List, [], ◌∷◌, ◌++◌, refl, ap, ◌∙◌, length, length-append}
use Rattle.std.proofs.Common.{arith}
use Rattle.std.specs.Prelude.{Result, Ok, Err, MatchResult, OnOk, OnErr}
use Rattle.tect_ids.specs.declared.ids.Counts.{Counts}
use Rattle.tect_ids.specs.declared.ids.OpId.{OpId}
use Rattle.tect_ids.specs.declared.command.Command.{Command}
use Rattle.tect_ids.specs.declared.answer.Answer.{Answer}
use Rattle.tect_ids.specs.declared.answer.Answer.TheVariants as answers
use Rattle.store_rules.specs.declared.any.AnyReq.{AnyReq}
use Rattle.store_rules.specs.declared.any.AnyReply.{AnyReply}
use Rattle.entry_words.specs.declared.entry.Entry.{Entry}
use Rattle.entry_words.specs.declared.entry.Moment.TheVariants.{Act}
use Rattle.entry_words.specs.declared.entry.Refused.{Refused}
use Rattle.entry_words.specs.declared.entry.Refused.TheVariants as refusals
use Rattle.world_runs.specs.declared.event.Event.{Event}
use Rattle.program_forms.specs.declared.heard.Heard.{Heard}
use Rattle.program_forms.specs.Kinds.{Programs}
use Rattle.world_runs.specs.Actors.{Actor, Running, idle_actor, went_on, ended}
use Rattle.world_runs.specs.Events.{end_event}
use Rattle.world_runs.specs.OwnRuns.{own_state, own_next}
use Rattle.world_runs.proofs.Actors.{own_state-append}
use Rattle.program_calls.specs.declared.turned.Turned.{Turned}
use Rattle.program_calls.specs.declared.turned.Turned.TheVariants.{Going}
use Rattle.clients.specs.Turns.{turned_by}
use Rattle.passes.specs.declared.commits.Astray.{Astray}
use Rattle.clients.specs.Lives.{ClientLife, events_in, state_in, op_in, Begins, left_in, IsLife}
use Rattle.clients.specs.Steps.{entry_in, Tried, Unasked, Did, Denied, EndsSo, state_after, WentAstray, tried_events, end_events}
use Rattle.clients.specs.Steps.{tried_life, ended_with, ended_life, OwnStep}

-- the events of a step
abbrev pub step_events : List Event → OpId → Tried → Option Answer → List Event
step_events silent op tried answer = tried_events op tried ++ end_events silent op answer

-- ---- what stays

tried_counts : {S : Type 0} (P : Programs S) (l : ClientLife) (stamp : ℕ) (tried : Tried) → (tried_life P l stamp tried).counts ≡ l.counts
tried_counts P l stamp Unasked = refl
tried_counts P l stamp (Did q x h) = refl
tried_counts P l stamp (Denied q e) = refl

with_counts : (l : ClientLife) (silent : List Event) (op : OpId) (a : Answer) → (ended_with l silent op a).counts ≡ l.counts
with_counts l [] op a = refl
with_counts l (e ∷ es) op a = refl

ended_counts : (l : ClientLife) (op : OpId) (answer : Option Answer) → (ended_life l op answer).counts ≡ l.counts
ended_counts l op None = refl
ended_counts l op (Some a) = with_counts l l.silent op a

tried_actor : {S : Type 0} (P : Programs S) (l : ClientLife) (stamp : ℕ) (tried : Tried) → (tried_life P l stamp tried).actor ≡ l.actor
tried_actor P l stamp Unasked = refl
tried_actor P l stamp (Did q x h) = refl
tried_actor P l stamp (Denied q e) = refl

with_actor : (l : ClientLife) (silent : List Event) (op : OpId) (a : Answer) → (ended_with l silent op a).actor ≡ l.actor
with_actor l [] op a = refl
with_actor l (e ∷ es) op a = refl

ended_actor : (l : ClientLife) (op : OpId) (answer : Option Answer) → (ended_life l op answer).actor ≡ l.actor
ended_actor l op None = refl
ended_actor l op (Some a) = with_actor l l.silent op a

module _ {S : Type 0} (P : Programs S) (counts : Counts) where
  ended_same : (s : Actor S) (o : Option (Running S)) → (ended P counts s o).number ≡ s.number
  ended_same s None = refl
  ended_same s (Some r) = refl

  went_same : (s : Actor S) (o : Option (Running S)) (q : AnyReq) (x : AnyReply) (h : Heard)
      → (went_on P counts s o q x h).number ≡ s.number
  went_same s None q x h = refl
  went_same s (Some r) q x h = refl

  end_number : (s : Actor S) (op : OpId) (a : Answer) → (own_next P counts s (end_event op a)).number ≡ s.number
  end_number s op answers.NoMemory = ended_same s s.running
  end_number s op (answers.HistoryFull p) = ended_same s s.running
  end_number s op _ = ended_same s s.running

  ends_number : (s : Actor S) (silent : List Event) (op : OpId) (answer : Option Answer)
      → (own_state P counts s (end_events silent op answer)).number ≡ s.number
  ends_number s silent op None = refl
  ends_number s [] op (Some a) = end_number s op a
  ends_number s (e ∷ es) op (Some a) = ended_same s s.running

  step_number : (s : Actor S) (silent : List Event) (op : OpId) (tried : Tried) (answer : Option Answer)
      → (own_state P counts s (step_events silent op tried answer)).number ≡ s.number
  step_number s silent op Unasked answer = ends_number s silent op answer
  step_number s silent op (Did q x h) answer = ends_number (went_on P counts s s.running q x h) silent op answer
      ∙ went_same s s.running q x h
  step_number s silent op (Denied q e) answer = ends_number s silent op answer

module _ {S W : Type 0} (P : Programs S) (done : W → W → ℕ → AnyReq → Result Entry Refused → Type 0) (w v : W) (old new : ClientLife)
    (turned : Turned) (step : OwnStep P done w v old new turned) where
  pub step_counts : new.counts ≡ old.counts
  step_counts =
      ap (λ (l : ClientLife). l.counts) step.life ∙ ended_counts (tried_life P old step.stamp step.tried) (op_in P old) step.answer ∙
      tried_counts P old step.stamp step.tried

  pub step_actor : new.actor ≡ old.actor
  step_actor = ap (λ (l : ClientLife). l.actor) step.life ∙ ended_actor (tried_life P old step.stamp step.tried) (op_in P old) step.answer ∙
      tried_actor P old step.stamp step.tried

  -- the state after it
  pub step_state : state_in P new ≡ own_state P old.counts (state_in P old) (step_events old.silent (op_in P old) step.tried step.answer)
  step_state =
      ap (λ (c : Counts). own_state P c idle_actor (events_in new)) step_counts ∙ ap (own_state P old.counts idle_actor) step.events
      ∙ own_state-append P old.counts idle_actor (events_in old) (step_events old.silent (op_in P old) step.tried step.answer)

  -- it is of the same op
  pub step_op : op_in P new ≡ op_in P old
  step_op =
      let number : (state_in P new).number ≡ (state_in P old).number =
      ap (λ (s : Actor S). s.number) step_state
      ∙ step_number P old.counts (state_in P old) old.silent (op_in P old) step.tried step.answer in
      λ i. record { actor = step_actor i; number = number i }

-- the same of what a step answers
pub same_op : {S W : Type 0} (P : Programs S) (done : W → W → ℕ → AnyReq → Result Entry Refused → Type 0) (w v : W) (old new : ClientLife)
    (r : Result Turned Astray)
    → MatchResult r (OwnStep P done w v old new) (λ e. WentAstray P done w v old new (refusals.Astray e.want e.found))
    → (new.counts ≡ old.counts) × (op_in P new ≡ op_in P old)
same_op P done w v old new (Ok turned) step = (step_counts P done w v old new turned step, step_op P done w v old new turned step)
same_op P done w v old new (Err e) astray = (ap (λ (l : ClientLife). l.counts) astray.life, ap (op_in P) astray.life)

-- a begin
begins_same : {S : Type 0} (P : Programs S) (old new : ClientLife) (c : Command) → Begins P old new c
    → (new.counts ≡ old.counts) × (new.actor ≡ old.actor)
begins_same P old new c (inl (room, is)) = (ap (λ (l : ClientLife). l.counts) is, ap (λ (l : ClientLife). l.actor) is)
begins_same P old new c (inr (full, is)) = (ap (λ (l : ClientLife). l.counts) is, ap (λ (l : ClientLife). l.actor) is)

pub begin_same : {S T E : Type 0} (P : Programs S) (old new : ClientLife) (c : Command) (r : Result T E) → OnOk r (Begins P old new c)
    → OnErr r (new ≡ old)
    → (new.counts ≡ old.counts) × (new.actor ≡ old.actor)
begin_same P old new c (Ok x) ok err = begins_same P old new c ok
begin_same P old new c (Err e) ok err = (ap (λ (l : ClientLife). l.counts) err, ap (λ (l : ClientLife). l.actor) err)

-- ---- a command that goes on

not_done : (answer : Option Answer) → Going ≡ turned_by answer → answer ≡ None
not_done None is = refl
not_done (Some a) is = absurd cc

did_adds : {S : Type 0} (P : Programs S) (l : ClientLife) (st : Actor S) (stamp : ℕ) (op : OpId) (tried : Tried)
    → EndsSo P l.counts st tried None
    → length (ended_life (tried_life P l stamp tried) op None).moments ≡ length l.moments + 1
did_adds P l st stamp op (Did q x h) ends = length-append l.moments (Act (entry_in P l stamp q x) h ∷ [])
did_adds P l st stamp op Unasked ends = absurd ends
did_adds P l st stamp op (Denied q e) ends = absurd ends

-- its pass has one moment more, and so there is room for fewer
pub step_nearer : {S W : Type 0} (P : Programs S) (done : W → W → ℕ → AnyReq → Result Entry Refused → Type 0) (w v : W)
    (old new : ClientLife) → IsLife P new
    → OwnStep P done w v old new Going → left_in new < left_in old
step_nearer P done w v old new is step =
    let none : step.answer ≡ None = not_done step.answer step.told in
    let adds = did_adds P old (state_after P old.counts (state_in P old) step.tried) step.stamp (op_in P old) step.tried
    (rw none at step.ends) in
    let life : new ≡ ended_life (tried_life P old step.stamp step.tried) (op_in P old) None = step.life ∙ ap
    (ended_life (tried_life P old step.stamp step.tried) (op_in P old)) none in
    omega (arith, is.few, adds, ap (λ (l : ClientLife). length l.moments) life)
