-- each running command can go on to its end, at whatever moment of a run
use Rattle.std.proofs.Common.{◌≡◌, ◌≤◌, ◌+◌, ℕ, zero, suc, Option, Some, List, [], ◌∷◌, ◌++◌, refl, ap, subst, ◌∙◌, arith, take}
use Rattle.tect_ids.specs.declared.ids.OpId.{OpId}
use Rattle.tect_ids.specs.declared.answer.Answer.{Answer}
use Rattle.store_rules.specs.declared.any.AnyReq.{AnyReq}
use Rattle.store_rules.specs.declared.any.AnyReply.{AnyReply}
use Rattle.store_rules.specs.Store.{store_reply}
use Rattle.program_forms.specs.declared.standing.Standing.{Standing}
use Rattle.program_forms.specs.declared.standing.Standing.TheVariants.{Goes, Left, NoRoom}
use Rattle.program_forms.specs.Lacks.{no_room}
use Rattle.program_forms.specs.Memories.{Memory}
use Rattle.program_forms.specs.Kinds.{Does, asked_by}
use Rattle.program_parts.specs.declared.next.Next.TheVariants as next
use Rattle.program_parts.specs.declared.walking.Walking.{Walking}
use Rattle.program_rules.specs.declared.operation.Operation.{Operation}
use Rattle.program_rules.specs.declared.operation.OperationState.{OperationState}
use Rattle.program_rules.specs.Served.{Program, programs}
use Rattle.world_runs.specs.declared.event.Event.{Event}
use Rattle.world_runs.specs.declared.event.Event.TheVariants.{Own}
use Rattle.world_runs.specs.declared.event.Happening.TheVariants.{Ended}
use Rattle.world_runs.specs.Actors.{Actor, Running, program_ask, program_answer}
use Rattle.world_runs.specs.Moments.{WorldState, RunFrom, after, running, asked, answered}
use Rattle.world_runs.specs.Follows.{Acts, EndsAfter, AllFindMemory}
use Rattle.script_runs.proofs.Running.{AllWell, RunsAs, running_is_of}
use Rattle.script_runs.proofs.Histories.{find_memory-append}
use Rattle.session_runs.specs.RunningOn.{AllHaveHeard}
use Rattle.session_runs.specs.Well.{NoneFails}
use Rattle.session_runs.proofs.Well.{none_fails-append, acts_go_well}
use Rattle.session_runs.proofs.Standings.{command_part, next_same}
use Rattle.session_runs.proofs.Halting.{Halts, halts}
use Rattle.session_runs.proofs.CommandsHalt.{command_halts}
use Rattle.session_runs.proofs.Steps.{Runs, acted, op_runs, runs_on}

-- the states of a command
abbrev State : Type 0
State = Walking Operation OperationState

-- the op's number is one that its actor came to
pub runs_old : (m : WorldState Program) → AllWell m → (op : OpId) (r : Running Program) → running m op ≡ Some r → Runs m op r.at
runs_old m s op r is =
    let u : RunsAs (m.actors op.actor).running op r = running_is_of m op r is in
    let last : op.number ≡ (m.actors op.actor).number =
    subst (λ (o : OpId). o.number ≡ (m.actors op.actor).number) u.same (s op.actor r u.is).last in
    record {
      old = omega (arith, last);
      is = u.is ∙ ap (λ (o : OpId). Some (let t : Running Program = record { op = o; at = r.at } in t)) u.same;
    }

-- transactions of the op, and then its end
pub record CanEnd (m : WorldState Program) (op : OpId) : Type 0 where
  pub front : List Event
  pub count : ℕ
  pub answer : Answer
  pub acts : Acts op count front
  pub finds : AllFindMemory front
  pub run : RunFrom programs m (front ++ Own op (Ended answer) ∷ [])

end_now : (m : WorldState Program) (op : OpId) (a : Answer) → answered programs m op ≡ Some a → CanEnd m op
end_now m op a is = record { front = []; count = 0; answer = a; acts = refl; finds = tt; run = ((is, tt), tt) }

act_then : (m : WorldState Program) (op : OpId) (q : AnyReq) → asked programs m op ≡ Some q → CanEnd (after programs m (acted m op q)) op
    → CanEnd m op
act_then m op q asks e = record {
  front = acted m op q ∷ e.front;
  count = e.count + 1;
  answer = e.answer;
  acts = ((refl, tt), (e.count, refl, e.acts));
  finds = (tt, e.finds);
  run = ((asks, refl), e.run);
}

module _ (m : WorldState Program) (op : OpId) where
  -- its actor
  abbrev s : Actor Program
  s = m.actors op.actor

  -- it has its answer
  says_end : (a : Answer) → Runs m op (Goes (next.Comes a)) → CanEnd m op
  says_end a r = end_now m op a
      (ap (λ (o : Option (Running Program)). program_answer programs m.counts s.memory o) (op_runs s.running op (Goes (next.Comes a)) r.is))

  refused_end : Runs m op NoRoom → CanEnd m op
  refused_end r = end_now m op no_room
      (ap (λ (o : Option (Running Program)). program_answer programs m.counts s.memory o) (op_runs s.running op NoRoom r.is))

  -- it has its answer, or stands in a state
  next_ends : (n : Program) → ((t : State) → n ≡ next.Goes t → Runs m op (Goes (next.Goes t)) → CanEnd m op) → Runs m op (Goes n)
      → CanEnd m op
  next_ends (next.Goes t) goes r = goes t refl r
  next_ends (next.Comes a) goes r = says_end a r

  -- what it asks in a state
  asks_there : (t : State) → Runs m op (Goes (next.Goes t))
      → asked programs m op ≡ Some (command_part.asks m.counts s.memory op t)
  asks_there t r =
      ap (λ (o : Option (Running Program)). program_ask programs m.counts s.memory o) (op_runs s.running op (Goes (next.Goes t)) r.is)
      ∙ ap (λ (d : Does Answer). asked_by d) (next_same m.counts s.memory op (next.Goes t))

-- in a state that halts
state_ends : (t : State) → Halts command_part t → (m : WorldState Program) (op : OpId) → Runs m op (Goes (next.Goes t)) → CanEnd m op
state_ends t (halts own h) m op r =
    let known : Memory = (m.actors op.actor).memory in
    let q : AnyReq = command_part.asks m.counts known op own in
    let x : AnyReply = store_reply m.store q in
    act_then m op q (asks_there m op own r)
    (next_ends (after programs m (acted m op q)) op (command_part.hears m.counts known op own q x)
    (λ u e. state_ends u (h m.counts known op q x u e) (after programs m (acted m op q)) op) (runs_on m op (next.Goes own) q r))

stands_end : (m : WorldState Program) → AllHaveHeard m → (op : OpId) (at : Standing Program) → Runs m op at → CanEnd m op
stands_end m heard op (Goes p) r = next_ends m op p (λ t e. state_ends t (command_halts t) m op) r
stands_end m heard op Left r = absurd (heard op.actor op r.is)
stands_end m heard op NoRoom r = refused_end m op r

pub running_ends : (m : WorldState Program) → AllWell m → AllHaveHeard m → (op : OpId) (r : Running Program) → running m op ≡ Some r
    → CanEnd m op
running_ends m s heard op r is = stands_end m heard op r.at (runs_old m s op r is)

-- the events to its end
abbrev pub to_end : (m : WorldState Program) (op : OpId) → CanEnd m op → List Event
to_end m op e = e.front ++ Own op (Ended e.answer) ∷ []

pub end_follows : (m : WorldState Program) (op : OpId) (e : CanEnd m op) → EndsAfter op e.count (to_end m op e)
end_follows m op e = (e.front, Own op (Ended e.answer), refl, e.acts, (refl, tt))

pub end_none_fails : (m : WorldState Program) (op : OpId) (e : CanEnd m op) → NoneFails (to_end m op e)
end_none_fails m op e = none_fails-append e.front (Own op (Ended e.answer) ∷ []) (acts_go_well op e.count e.front e.acts) (tt, tt)

pub end_finds : (m : WorldState Program) (op : OpId) (e : CanEnd m op) → AllFindMemory (to_end m op e)
end_finds m op e = find_memory-append e.front (Own op (Ended e.answer) ∷ []) e.finds (tt, tt)

-- the first of its transactions
pub acts_take : (op : OpId) (n count : ℕ) (es : List Event) → n ≤ count → Acts op count es → Acts op n (take n es)
acts_take op zero count es few acts = refl
acts_take op (suc n) count [] few acts = absurd (omega (arith, few, acts))
acts_take op (suc n) count (e ∷ es) few acts =
    (acts.0, (n, omega arith, acts_take op n (acts.1).0 es (omega (arith, few, (acts.1).1)) (acts.1).2))

pub finds_take : (n : ℕ) (es : List Event) → AllFindMemory es → AllFindMemory (take n es)
finds_take zero es all = tt
finds_take (suc n) [] all = tt
finds_take (suc n) (e ∷ es) all = (all.0, finds_take n es all.1)
