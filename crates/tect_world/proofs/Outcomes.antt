-- what a step comes to
use Rattle.std.proofs.Common.{◌≡◌, ℕ, ◌+◌, ◌≤◌, inl, inr, Bool, true, false, if◌then◌else◌, Option, Some, None, List, [], ◌∷◌, ◌++◌}
use Rattle.std.proofs.Common.{refl, ap, ◌∙◌, arith}
use Rattle.std.specs.Prelude.{nat_lt}
use Rattle.std.proofs.lemmas.Bool.Decides.{nat_tests}
use Rattle.tect_ids.specs.declared.ids.Counts.{Counts}
use Rattle.tect_ids.specs.declared.ids.OpId.{OpId}
use Rattle.tect_ids.specs.Keys.{op_eq}
use Rattle.tect_ids.specs.declared.answer.Answer.{Answer}
use Rattle.tect_ids.specs.declared.answer.Answer.TheVariants as answers
use Rattle.tect_ids.proofs.KeyTests.{op_eq_cases}
use Rattle.store_rules.specs.declared.any.AnyReq.{AnyReq}
use Rattle.store_rules.specs.declared.any.AnyReply.{AnyReply}
use Rattle.program_forms.specs.declared.heard.Heard.{Heard}
use Rattle.program_forms.specs.Kinds.{Programs}
use Rattle.program_forms.specs.Lacks.{IsLack}
use Rattle.program_forms.specs.Memories.{Memory}
use Rattle.world_runs.specs.declared.event.Event.{Event}
use Rattle.world_runs.specs.declared.event.Event.TheVariants.{Own}
use Rattle.world_runs.specs.declared.event.Happening.TheVariants.{Acted, Ended}
use Rattle.world_runs.specs.Actors.{Actor, Running, idle_actor, program_of, has_ended, went_on, ended}
use Rattle.world_runs.specs.Events.{end_event}
use Rattle.world_runs.specs.Follows.{Acts, tries, tries_for}
use Rattle.world_runs.specs.Moments.{running}
use Rattle.world_runs.specs.OwnRuns.{own_state}
use Rattle.world_runs.specs.Report.{transactions}
use Rattle.world_runs.proofs.Actors.{own_state-append}
use Rattle.whole_runs.proofs.OwnLines.{transactions-append}
use Rattle.clients.specs.Turns.{turned_by}
use Rattle.program_calls.specs.declared.turned.Turned.TheVariants.{Done}
use Rattle.clients.specs.Lives.{ClientLife, events_in, state_in, op_in}
use Rattle.clients.specs.Steps.{Tried, Unasked, Did, Denied, EndsSo, tried_events, end_events}
use Rattle.world_lives.specs.Life.{Life, present, grown}
use Rattle.world_lives.specs.Steps.{EndsWith, Stepped}
use Rattle.world_lives.proofs.Grown.{went_number}
use Rattle.tect_world.proofs.Marking.{has_act}
use Rattle.tect_world.proofs.OneStep.{end_cases}

-- ---- the end of a step

end_tries : (op : OpId) (a : Answer) → tries (end_event op a) ≡ tries_for a
end_tries op answers.NoMemory = refl
end_tries op (answers.HistoryFull p) = refl
end_tries op _ = refl

ends_it : (op : OpId) (a : Answer) → EndsWith op (end_event op a) a
ends_it op answers.NoMemory = (refl, refl)
ends_it op (answers.HistoryFull p) = (refl, refl)
ends_it op _ = (refl, refl)

small : (a : Answer) → tries_for a ≤ 1
small (answers.HistoryFull p) = omega arith
small _ = omega arith

none_by : (a : Answer) → ¬ IsLack a → tries_for a ≡ 0
none_by answers.NoMemory plain = refl
none_by (answers.HistoryFull p) plain = absurd (plain tt)
none_by _ plain = refl

ran_by : {S : Type 0} (P : Programs S) (old new : Life) (op : OpId) (a : Answer) (n : ℕ) (acts : List Event) (silent : List Event)
    → Acts op n acts → n + tries_for a ≤ 1 → new ≡ grown old (acts ++ end_events silent op (Some a)) → Stepped P old new op (Done a)
ran_by P old new op a n acts [] are few grew = (
  record { acts = acts; count = n; end = end_event op a; are_acts = are; ends = ends_it op a; history = grew },
  (let e = end_tries op a in omega (arith, few, e)),
)
ran_by P old new op a n acts (s ∷ ss) are few grew = (
  record { acts = acts; count = n; end = Own op (Ended a); are_acts = are; ends = (refl, refl); history = grew },
  omega (arith, few),
)

-- behind a transaction it is no want of room
no_room_behind : {S : Type 0} (P : Programs S) (c : Counts) (s : Actor S) (q : AnyReq) (y : AnyReply) (h : Heard) (a : Answer)
    → EndsSo P c s (Did q y h) (Some a) → tries_for a ≡ 0
no_room_behind P c s q y h a (inl says) = none_by a says.1
no_room_behind P c s q y h a (inr is) = ap tries_for is

by_test : {S : Type 0} (P : Programs S) (c : Counts) (m : Memory) (r : Running S) (b : Bool) → has_ended P c m (Some r) ≡ false
    → has_ended P c m (if b then Some r else None) ≡ false
by_test P c m r true is = is
by_test P c m r false is = refl

pub goes_as : {S : Type 0} (P : Programs S) (c : Counts) (m : Memory) (o : Option (Running S)) (op : OpId) → has_ended P c m o ≡ false
    → has_ended P c m (program_of o op) ≡ false
goes_as P c m None op is = refl
goes_as P c m (Some r) op is = by_test P c m r (op_eq r.op op) is

pub step_ends : {S : Type 0} (P : Programs S) (old new : Life) (op : OpId) (c : Counts) (s : Actor S) (silent : List Event) (t : Tried)
    (x : Option Answer) → EndsSo P c s t x → new ≡ grown old (tried_events op t ++ end_events silent op x)
    → (x ≡ None → has_ended P c s.memory s.running ≡ false
    → has_ended P (present P new).counts ((present P new).actors op.actor).memory (running (present P new) op) ≡ false)
    → Stepped P old new op (turned_by x)
step_ends P old new op c s silent Unasked None ends grew goes = absurd ends
step_ends P old new op c s silent (Denied q e) None ends grew goes = absurd ends
step_ends P old new op c s silent (Did q y h) None ends grew goes =
    record { act = Own op (Acted q y h); is_act = (refl, tt); goes = goes refl ends; history = grew }
step_ends P old new op c s silent Unasked (Some a) ends grew goes =
    let few = small a in ran_by P old new op a 0 [] silent refl (omega (arith, few)) grew
step_ends P old new op c s silent (Denied q e) (Some a) ends grew goes =
    let few = small a in ran_by P old new op a 0 [] silent refl (omega (arith, few)) grew
step_ends P old new op c s silent (Did q y h) (Some a) ends grew goes =
    let none = no_room_behind P c s q y h a ends in
    ran_by P old new op a 1 (Own op (Acted q y h) ∷ []) silent ((refl, tt), (0, refl, refl)) (omega (arith, none)) grew

-- ---- whether a transaction was done

same_op : (op : OpId) → op_eq op op ≡ true
same_op op = grind (arith, op_eq_cases op op)

ended_number : {S : Type 0} (P : Programs S) (c : Counts) (a : Actor S) (o : Option (Running S)) → (ended P c a o).number ≡ a.number
ended_number P c a None = refl
ended_number P c a (Some r) = refl

module _ {S : Type 0} (P : Programs S) (counts : Counts) where
  end_number : (st : Actor S) (silent : List Event) (op : OpId) (x : Option Answer)
      → (own_state P counts st (end_events silent op x)).number ≡ st.number
  end_number st silent op None = refl
  end_number st [] op (Some a) = elim (end_cases op a) [
    | inl e ↦ rw e (ended_number P counts st st.running)
    | inr e ↦ rw e.1 (ended_number P counts st st.running)
  ]
  end_number st (e ∷ es) op (Some a) = ended_number P counts st st.running

  step_number : (st : Actor S) (silent : List Event) (op : OpId) (t : Tried) (x : Option Answer)
      → (own_state P counts st (tried_events op t ++ end_events silent op x)).number ≡ st.number
  step_number st silent op Unasked x = end_number st silent op x
  step_number st silent op (Did q y h) x =
      end_number (went_on P counts st st.running q y h) silent op x ∙ went_number P counts st st.running q y h
  step_number st silent op (Denied q e) x = end_number st silent op x

end_count : (silent : List Event) (op other : OpId) (x : Option Answer) → transactions (end_events silent op x) other ≡ 0
end_count silent op other None = refl
end_count [] op other (Some a) = elim (end_cases op a) [ inl e ↦ rw e (grind arith) | inr e ↦ rw e.1 (grind arith) ]
end_count (e ∷ es) op other (Some a) = grind arith

abbrev pub act_count : Tried → ℕ
act_count Unasked = 0
act_count (Did q y h) = 1
act_count (Denied q e) = 0

step_count : (silent : List Event) (op : OpId) (t : Tried) (x : Option Answer)
    → transactions (tried_events op t ++ end_events silent op x) op ≡ act_count t
step_count silent op Unasked x = end_count silent op op x
step_count silent op (Did q y h) x = let none = end_count silent op op x in grind (arith, same_op op, none)
step_count silent op (Denied q e) x = end_count silent op op x

more_by : (t : Tried) (n m : ℕ) → m ≡ n + act_count t → nat_lt n m ≡ has_act t
more_by Unasked n m is = grind (arith, nat_tests, is)
more_by (Did q y h) n m is = grind (arith, nat_tests, is)
more_by (Denied q e) n m is = grind (arith, nat_tests, is)

pub acted_is : {S : Type 0} (P : Programs S) (l m : ClientLife) (t : Tried) (x : Option Answer) (n k : ℕ) → m.actor ≡ l.actor
    → m.counts ≡ l.counts
    → events_in m ≡ events_in l ++ (tried_events (op_in P l) t ++ end_events l.silent (op_in P l) x)
    → n ≡ transactions (events_in l) (op_in P l) → k ≡ transactions (events_in m) (op_in P m) → nat_lt n k ≡ has_act t
acted_is P l m t x n k actor counts events before after =
    let es : List Event = tried_events (op_in P l) t ++ end_events l.silent (op_in P l) x in
    let state : (state_in P m).number ≡ (state_in P l).number =
    ap (λ (c : Counts). (own_state P c idle_actor (events_in m)).number) counts ∙ ap
    (λ (fs : List Event). (own_state P l.counts idle_actor fs).number) events
    ∙ ap (λ s. s.number) (own_state-append P l.counts idle_actor (events_in l) es) ∙ step_number P l.counts (state_in P l) l.silent
    (op_in P l) t x in
    let op : op_in P m ≡ op_in P l = λ i. record { actor = actor i; number = state i } in
    let both : transactions (events_in l ++ es) (op_in P l) ≡ transactions (events_in l) (op_in P l) + transactions es (op_in P l) =
    transactions-append (events_in l) es (op_in P l) in
    let own : transactions es (op_in P l) ≡ act_count t = step_count l.silent (op_in P l) t x in
    let last : k ≡ transactions (events_in l ++ es) (op_in P l) = after ∙ ap (transactions (events_in m)) op ∙ ap
    (λ (fs : List Event). transactions fs (op_in P l)) events in
    more_by t n k (omega (arith, last, both, own, before))
