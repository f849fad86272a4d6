-- a client ends a command at once when its last reply gave the answer
use Rattle.std.proofs.Common.{◌≡◌, ℕ, false, Option, Some, None, List, [], ◌∷◌, ◌++◌, refl, sym, ap, ◌∙◌, subst}
use Rattle.std.specs.Prelude.{Result}
use Rattle.std.specs.Option.{ForSome}
use Rattle.tect_ids.specs.declared.ids.Counts.{Counts}
use Rattle.tect_ids.specs.declared.ids.OpId.{OpId}
use Rattle.tect_ids.specs.declared.answer.Answer.{Answer}
use Rattle.tect_ids.specs.declared.answer.Answer.TheVariants as answers
use Rattle.store_rules.specs.declared.any.AnyReq.{AnyReq}
use Rattle.store_rules.specs.declared.any.AnyReply.{AnyReply}
use Rattle.program_forms.specs.declared.heard.Heard.{Heard}
use Rattle.program_forms.specs.Kinds.{Programs}
use Rattle.entry_words.specs.declared.entry.Entry.{Entry}
use Rattle.entry_words.specs.declared.entry.Refused.{Refused}
use Rattle.world_runs.specs.declared.event.Event.{Event}
use Rattle.world_runs.specs.declared.event.Event.TheVariants.{Own}
use Rattle.world_runs.specs.declared.event.Happening.TheVariants.{Acted}
use Rattle.world_runs.specs.Actors.{Actor, idle_actor, has_ended, program_of, went_on}
use Rattle.world_runs.specs.Events.{end_event}
use Rattle.world_runs.specs.Follows.{IsEndOf}
use Rattle.world_runs.specs.OwnRuns.{own_next, own_state}
use Rattle.world_runs.specs.Smooth.{EndIsNext, OwnEndsAtOnce, IsPromptFrom}
use Rattle.world_runs.proofs.Prompt.{ends_at_once-append}
use Rattle.program_calls.specs.declared.turned.Turned.{Turned}
use Rattle.clients.specs.Lives.{ClientLife, events_in, state_in, op_in}
use Rattle.clients.specs.Steps.{Tried, Unasked, Did, Denied, EndsSo, state_after, tried_events, end_events, OwnStep}
use Rattle.clients.proofs.Growing.{program_own, went_own}

end_is : (op : OpId) (a : Answer) → IsEndOf op (end_event op a)
end_is op answers.NoMemory = (refl, tt)
end_is op (answers.HistoryFull p) = (refl, tt)
end_is op _ = (refl, tt)

end_next : (silent : List Event) (op : OpId) (a : Answer) → EndIsNext op (end_events silent op (Some a))
end_next [] op a = end_is op a
end_next (e ∷ es) op a = (refl, tt)

module _ {S : Type 0} (P : Programs S) (c : Counts) where
  prompt_end : (s : Actor S) (op : OpId) (a : Answer) (es : List Event) → IsPromptFrom P c s (end_event op a) es
  prompt_end s op answers.NoMemory es = tt
  prompt_end s op (answers.HistoryFull p) es = tt
  prompt_end s op _ es = tt

  prompt_ends : (s : Actor S) (silent : List Event) (op : OpId) (answer : Option Answer) → OwnEndsAtOnce P c s (end_events silent op answer)
  prompt_ends s silent op None = tt
  prompt_ends s [] op (Some a) = (prompt_end (own_next P c s (end_event op a)) op a [], tt)
  prompt_ends s (e ∷ es) op (Some a) = (tt, tt)

  module _ (s : Actor S) (op : OpId) (its : ForSome s.running (λ r. r.op ≡ op)) where
    act_prompt : (silent : List Event) (q : AnyReq) (x : AnyReply) (h : Heard) (answer : Option Answer)
        → EndsSo P c (state_after P c s (Did q x h)) (Did q x h) answer
        → IsPromptFrom P c (own_next P c s (Own op (Acted q x h))) (Own op (Acted q x h)) (end_events silent op answer)
    act_prompt silent q x h None ends over =
        let t : Actor S = went_on P c s s.running q x h in
        let own : program_of t.running op ≡ t.running = program_own t.running op (went_own P c s q x h op its) in
        let goes : has_ended P c t.memory (program_of t.running op) ≡ false = ap (has_ended P c t.memory) own ∙ ends in
        cc
    act_prompt silent q x h (Some a) ends over = end_next silent op a

    prompt_events : (silent : List Event) (tried : Tried) (answer : Option Answer) → EndsSo P c (state_after P c s tried) tried answer
        → OwnEndsAtOnce P c s (tried_events op tried ++ end_events silent op answer)
    prompt_events silent Unasked answer ends = prompt_ends s silent op answer
    prompt_events silent (Did q x h) answer ends =
        (act_prompt silent q x h answer ends, prompt_ends (own_next P c s (Own op (Acted q x h))) silent op answer)
    prompt_events silent (Denied q e) answer ends = prompt_ends s silent op answer

pub prompt_step : {S W : Type 0} (P : Programs S) (done : W → W → ℕ → AnyReq → Result Entry Refused → Type 0) (w v : W)
    (old new : ClientLife)
    (turned : Turned) → OwnStep P done w v old new turned → ForSome (state_in P old).running (λ r. r.op ≡ op_in P old)
    → OwnEndsAtOnce P old.counts idle_actor (events_in old) → OwnEndsAtOnce P old.counts idle_actor (events_in new)
prompt_step P done w v old new turned step its prompt =
    subst (OwnEndsAtOnce P old.counts idle_actor) (sym step.events)
    (ends_at_once-append P old.counts idle_actor (events_in old) _ prompt
    (prompt_events P old.counts (state_in P old) (op_in P old) its old.silent step.tried step.answer step.ends))

-- an event that is no transaction changes nothing of that
pub prompt_push : {S : Type 0} (P : Programs S) (c : Counts) (es : List Event) (e : Event)
    → ((s : Actor S) → IsPromptFrom P c s e []) → OwnEndsAtOnce P c idle_actor es → OwnEndsAtOnce P c idle_actor (es ++ e ∷ [])
prompt_push P c es e quiet prompt = ends_at_once-append P c idle_actor es (e ∷ []) prompt
    (quiet (own_next P c (own_state P c idle_actor es) e), tt)
