-- an actor's own events, when one more comes
use Rattle.std.proofs.Common.{◌≡◌, ◌≢◌, ℕ, ◌+◌, ◌<◌, ◌≤◌, Bool, true, false, ◌&&◌, if◌then◌else◌, cond, Option, Some, None, List, [], ◌∷◌}
use Rattle.std.proofs.Common.{◌++◌}
use Rattle.std.proofs.Common.{length, refl, sym, ap, ◌∙◌, arith}
use Rattle.std.specs.Option.{ForSome}
use Rattle.std.proofs.lemmas.List.Sums.{sum_by-append, count_by-le-length}
use Rattle.tect_ids.specs.declared.ids.Counts.{Counts}
use Rattle.tect_ids.specs.declared.ids.OpId.{OpId}
use Rattle.tect_ids.specs.declared.answer.Answer.{Answer}
use Rattle.tect_ids.specs.declared.answer.Answer.TheVariants as answers
use Rattle.tect_ids.specs.Keys.{op_eq}
use Rattle.tect_ids.proofs.KeyTests.{op_eq_cases}
use Rattle.store_rules.specs.declared.any.AnyReq.{AnyReq}
use Rattle.store_rules.specs.declared.any.AnyReply.{AnyReply}
use Rattle.program_forms.specs.declared.heard.Heard.{Heard}
use Rattle.program_forms.specs.Lacks.{IsLack}
use Rattle.program_forms.specs.Memories.{Memory}
use Rattle.program_forms.specs.Kinds.{Programs}
use Rattle.program_calls.specs.Keeping.{KeepsSerial}
use Rattle.world_runs.specs.declared.event.Event.{Event}
use Rattle.world_runs.specs.declared.event.Event.TheVariants.{Own, Dumped}
use Rattle.world_runs.specs.declared.event.Happening.{Happening}
use Rattle.world_runs.specs.declared.event.Happening.TheVariants.{Began, NotBegun, Acted, Ended, Stopped, Failed}
use Rattle.world_runs.specs.Actors.{Actor, Running, idle_actor, program_of, program_ask, went_on, ended, OwnMay, own_after}
use Rattle.world_runs.specs.Races.{is_own}
use Rattle.world_runs.specs.Report.{is_act, is_act_of, transactions}
use Rattle.world_runs.specs.Events.{end_event, own}
use Rattle.world_runs.specs.Limits.{KeepsRoom, OwnLimits}
use Rattle.world_runs.specs.OwnRuns.{OwnMayHappen, OwnRun, own_next, own_state}
use Rattle.world_runs.proofs.Actors.{own_state-append, own_run-append, own-append, own-here}
use Rattle.world_runs.proofs.Limits.{own_limits-append}
use Rattle.clients.proofs.Calls.{went_serial, end_serial}

module _ {S : Type 0} (P : Programs S) (counts : Counts) (es : List Event) (e : Event) where
  pub state_push : own_state P counts idle_actor (es ++ e ∷ []) ≡ own_next P counts (own_state P counts idle_actor es) e
  state_push = own_state-append P counts idle_actor es (e ∷ [])

  pub run_push : OwnRun P counts idle_actor es → OwnMayHappen P counts (own_state P counts idle_actor es) e
      → OwnRun P counts idle_actor (es ++ e ∷ [])
  run_push run may = own_run-append P counts idle_actor es (e ∷ []) run (may, tt)

  pub limits_push : OwnLimits P counts [] idle_actor es → KeepsRoom P counts es (own_state P counts idle_actor es) e
      → OwnLimits P counts [] idle_actor (es ++ e ∷ [])
  limits_push limits room = own_limits-append P counts [] idle_actor es (e ∷ []) limits (room, tt)

pub own_push : (a : ℕ) (es : List Event) (e : Event) → own a es ≡ es → is_own a e ≡ true → own a (es ++ e ∷ []) ≡ es ++ e ∷ []
own_push a es e mine here = own-append a es (e ∷ []) ∙ ap (λ (fs : List Event). fs ++ own a (e ∷ [])) mine ∙ ap
    (λ (fs : List Event). es ++ fs) (own-here a e [] here)

-- ---- an actor that runs its own op

module _ {S : Type 0} where
  pub program_own : (o : Option (Running S)) (op : OpId) → ForSome o (λ r. r.op ≡ op) → program_of o op ≡ o
  program_own None op its = refl
  program_own (Some p) op its = let same : p.op ≡ op = its p refl in grind (arith, op_eq_cases p.op op)

  pub some_op : (a b : Running S) → Some a ≡ Some b → a.op ≡ b.op
  some_op a b is = let same : a ≡ b = cc in ap (λ (z : Running S). z.op) same

  went_own_by : (P : Programs S) (counts : Counts) (n : ℕ) (m : Memory) (b : Bool) (o : Option (Running S)) (q : AnyReq) (x : AnyReply)
      (h : Heard) (op : OpId)
      → ForSome o (λ r. r.op ≡ op)
      → (let s : Actor S = record { number = n; memory = m; stopped = b; running = o } in ForSome (went_on P counts s o q x h).running
      (λ r. r.op ≡ op))
  went_own_by P counts n m b None q x h op its p is = absurd cc
  went_own_by P counts n m b (Some r) q x h op its p is = sym (some_op _ p is) ∙ its r refl

  pub went_own : (P : Programs S) (counts : Counts) (s : Actor S) (q : AnyReq) (x : AnyReply) (h : Heard) (op : OpId)
      → ForSome s.running (λ r. r.op ≡ op) → ForSome (went_on P counts s s.running q x h).running (λ r. r.op ≡ op)
  went_own P counts s q x h op its = went_own_by P counts s.number s.memory s.stopped s.running q x h op its

-- ---- ends

pub plain_end : (op : OpId) (a : Answer) → ¬ IsLack a → end_event op a ≡ Own op (Ended a)
plain_end op answers.NoMemory plain = absurd (plain tt)
plain_end op (answers.HistoryFull p) plain = absurd (plain tt)
plain_end op _ plain = refl

-- ---- transactions

pub transactions-append : (es fs : List Event) (op : OpId) → transactions (es ++ fs) op ≡ transactions es op + transactions fs op
transactions-append es fs op = sum_by-append (λ e. cond (is_act_of op e) 1 0) es fs

pub transactions-few : (es : List Event) (op : OpId) → transactions es op ≤ length es
transactions-few es op = count_by-le-length (is_act_of op) es

same_op : (op : OpId) → op_eq op op ≡ true
same_op op = grind (arith, op_eq_cases op op)

its_act : (op : OpId) (q : AnyReq) (x : AnyReply) (h : Heard) → is_act_of op (Own op (Acted q x h)) ≡ true
its_act op q x h = ap (λ (b : Bool). b && true) (same_op op)

one_of : (e : Event) (op : OpId) → is_act_of op e ≡ true → transactions (e ∷ []) op ≡ 1
one_of e op its = grind (arith, its)

pub none_of : (e : Event) (op : OpId) → is_act_of op e ≡ false → transactions (e ∷ []) op ≡ 0
none_of e op not_its = grind (arith, not_its)

pub count_act : (es : List Event) (op : OpId) (q : AnyReq) (x : AnyReply) (h : Heard)
    → transactions (es ++ Own op (Acted q x h) ∷ []) op ≡ transactions es op + 1
count_act es op q x h =
    omega (arith, transactions-append es (Own op (Acted q x h) ∷ []) op, one_of (Own op (Acted q x h)) op (its_act op q x h))

pub count_other : (es : List Event) (e : Event) (op : OpId) → is_act_of op e ≡ false → transactions (es ++ e ∷ []) op ≡ transactions es op
count_other es e op not_its = omega (arith, transactions-append es (e ∷ []) op, none_of e op not_its)

-- what is no act is none of any op
pub no_act : (op other : OpId) (h : Happening) → is_act h ≡ false → is_act_of op (Own other h) ≡ false
no_act op other h none = elim (op_eq other op) as (λ b. (b && is_act h) ≡ false) [ true ↦ none | false ↦ refl ]

pub end_no_act : (op other : OpId) (a : Answer) → is_act_of op (end_event other a) ≡ false
end_no_act op other answers.NoMemory = no_act op other (Failed answers.NoMemory) refl
end_no_act op other (answers.HistoryFull p) = no_act op other (Failed (answers.HistoryFull p)) refl
end_no_act op other a = no_act op other (Ended a) refl

module _ {S : Type 0} (P : Programs S) (counts : Counts) where
  -- an op of a number that the actor did not come to has no transaction
  abbrev RunsNoLater : Actor S → Type 0
  RunsNoLater s = (p : Running S) → s.running ≡ Some p → p.op.number ≤ s.number

  went_no_later : (n : ℕ) (m : Memory) (b : Bool) (o : Option (Running S)) (q : AnyReq) (x : AnyReply) (h : Heard)
      → ((p : Running S) → o ≡ Some p → p.op.number ≤ n)
      → (let s : Actor S = record { number = n; memory = m; stopped = b; running = o } in RunsNoLater (went_on P counts s o q x h))
  went_no_later n m b None q x h low p is = absurd cc
  went_no_later n m b (Some r) q x h low p is = rw (← some_op _ p is) (low r refl)

  ended_no_later : (n : ℕ) (m : Memory) (b : Bool) (o : Option (Running S))
      → ((p : Running S) → o ≡ Some p → p.op.number ≤ n)
      → (let s : Actor S = record { number = n; memory = m; stopped = b; running = o } in RunsNoLater (ended P counts s o))
  ended_no_later n m b None low p is = low p is
  ended_no_later n m b (Some r) low p is = absurd cc

  no_later_after : (s : Actor S) (op : OpId) (h : Happening) → OwnMay P counts s op h → RunsNoLater s
      → RunsNoLater (own_after P counts s op h)
  no_later_after s op (Began c) may low p is = rw (← some_op _ p is) (omega arith)
  no_later_after s op (NotBegun c) may low p is = rw (← some_op _ p is) (omega arith)
  no_later_after s op (Acted q x h) may low p is = went_no_later s.number s.memory s.stopped s.running q x h low p is
  no_later_after s op (Ended a) may low p is = ended_no_later s.number s.memory s.stopped s.running low p is
  no_later_after s op Stopped may low p is = absurd cc
  no_later_after s op (Failed a) may low p is = ended_no_later s.number s.memory s.stopped s.running low p is

  no_later_next : (s : Actor S) (e : Event) → OwnMayHappen P counts s e → RunsNoLater s → RunsNoLater (own_next P counts s e)
  no_later_next s (Own op h) may low = no_later_after s op h may low
  no_later_next s Dumped may low = low

  pub went_number : (s : Actor S) (o : Option (Running S)) (q : AnyReq) (x : AnyReply) (h : Heard)
      → (went_on P counts s o q x h).number ≡ s.number
  went_number s None q x h = refl
  went_number s (Some r) q x h = refl

  pub ended_number : (s : Actor S) (o : Option (Running S)) → (ended P counts s o).number ≡ s.number
  ended_number s None = refl
  ended_number s (Some r) = refl

  numbers_grow : (s : Actor S) (e : Event) → OwnMayHappen P counts s e → s.number ≤ (own_next P counts s e).number
  numbers_grow s (Own op (Began c)) may = omega (arith, (may.0).next)
  numbers_grow s (Own op (NotBegun c)) may = omega (arith, (may.0).next)
  numbers_grow s (Own op (Acted q x h)) may = omega (arith, went_number s s.running q x h)
  numbers_grow s (Own op (Ended a)) may = omega (arith, ended_number s s.running)
  numbers_grow s (Own op Stopped) may = omega arith
  numbers_grow s (Own op (Failed a)) may = omega (arith, ended_number s s.running)
  numbers_grow s Dumped may = omega arith

  numbers_rise : (s : Actor S) (es : List Event) → OwnRun P counts s es → s.number ≤ (own_state P counts s es).number
  numbers_rise s [] run = omega arith
  numbers_rise s (e ∷ es) run = omega (arith, numbers_grow s e run.0, numbers_rise (own_next P counts s e) es run.1)

  -- the op that asks is the one that runs
  asks_its : (m : Memory) (o : Option (Running S)) (op : OpId) (q : AnyReq) → program_ask P counts m (program_of o op) ≡ Some q
      → (p : Running S) × (o ≡ Some p) × (p.op ≡ op)
  asks_its m None op q is = absurd cc
  asks_its m (Some p) op q is =
      elim (op_eq p.op op) as
      (λ b. op_eq p.op op ≡ b → program_ask P counts m (if b then Some p else None) ≡ Some q → (r : Running S) × (Some p ≡ Some r)
      × (r.op ≡ op)) [
        | true ↦ λ e h. (p, refl, grind (arith, op_eq_cases p.op op))
        | false ↦ λ e h. absurd cc
      ] refl is

  not_its_act : (s : Actor S) (e : Event) (op : OpId) → RunsNoLater s → OwnMayHappen P counts s e → s.number < op.number
      → is_act_of op e ≡ false
  not_its_act s (Own other (Acted q x h)) op low may late =
      let its = asks_its s.memory s.running other q may in
      let few : other.number ≤ s.number = rw (← its.2) (low its.0 its.1) in
      let differs : other ≢ op = λ same. absurd (omega (arith, ap (λ (o : OpId). o.number) same)) in
      let no : op_eq other op ≡ false = grind (arith, op_eq_cases other op) in
      ap (λ (b : Bool). b && true) no
  not_its_act s (Own other (Began c)) op low may late = no_act op other (Began c) refl
  not_its_act s (Own other (NotBegun c)) op low may late = no_act op other (NotBegun c) refl
  not_its_act s (Own other (Ended a)) op low may late = no_act op other (Ended a) refl
  not_its_act s (Own other Stopped) op low may late = no_act op other Stopped refl
  not_its_act s (Own other (Failed a)) op low may late = no_act op other (Failed a) refl
  not_its_act s Dumped op low may late = refl

  quiet_from : (s : Actor S) (es : List Event) (op : OpId) → RunsNoLater s → OwnRun P counts s es
      → (own_state P counts s es).number < op.number → transactions es op ≡ 0
  quiet_from s [] op low run late = refl
  quiet_from s (e ∷ es) op low run late =
      let rise = numbers_rise (own_next P counts s e) es run.1 in
      let grow = numbers_grow s e run.0 in
      let none : is_act_of op e ≡ false = not_its_act s e op low run.0 (omega arith) in
      let rest : transactions es op ≡ 0 = quiet_from (own_next P counts s e) es op (no_later_next s e run.0 low) run.1 late in
      omega (arith, transactions-append (e ∷ []) es op, none_of e op none, rest)

  pub quiet : (es : List Event) (op : OpId) → OwnRun P counts idle_actor es
      → (own_state P counts idle_actor es).number < op.number → transactions es op ≡ 0
  quiet es op run late = quiet_from idle_actor es op (λ p is. absurd cc) run late

  -- ---- serials

  module _ (keeps : KeepsSerial P) where
    serial_after : (s : Actor S) (e : Event) → (own_next P counts s e).memory.serial ≤ s.memory.serial + 1
    serial_after s (Own op (Acted q x h)) = went_serial P counts keeps s s.running q x h
    serial_after s (Own op (Began c)) = omega arith
    serial_after s (Own op (NotBegun c)) = omega arith
    serial_after s (Own op (Ended a)) = omega (arith, end_serial P counts keeps s s.running)
    serial_after s (Own op Stopped) = omega arith
    serial_after s (Own op (Failed a)) = omega (arith, end_serial P counts keeps s s.running)
    serial_after s Dumped = omega arith

    serial_from : (s : Actor S) (es : List Event) → (own_state P counts s es).memory.serial ≤ s.memory.serial + length es
    serial_from s [] = omega arith
    serial_from s (e ∷ es) = omega (arith, serial_after s e, serial_from (own_next P counts s e) es)

    pub serials-few : (es : List Event) → (own_state P counts idle_actor es).memory.serial ≤ 1 + length es
    serials-few es = serial_from idle_actor es
