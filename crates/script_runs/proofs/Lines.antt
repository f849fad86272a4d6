-- what the line of an actor changes
use Rattle.std.proofs.Common.{◌≡◌, ◌≢◌, inl, inr, ℕ, ◌+◌, ◌≤◌, true, Option, Some, None, List, [], ◌∷◌, refl, sym, ap, subst, ◌∙◌, arith}
use Rattle.tect_ids.specs.declared.ids.OpId.{OpId}
use Rattle.tect_ids.specs.Keys.{op_eq}
use Rattle.tect_ids.proofs.KeyTests.{op_eq_cases}
use Rattle.tect_ids.specs.declared.command.Command.{Command}
use Rattle.tect_ids.specs.declared.script.Act.{Act}
use Rattle.tect_ids.specs.declared.script.Act.TheVariants as acts
use Rattle.program_forms.specs.Kinds.{Programs}
use Rattle.world_runs.specs.declared.event.Event.{Event}
use Rattle.world_runs.specs.declared.event.Event.TheVariants.{Own}
use Rattle.world_runs.specs.declared.event.Happening.TheVariants.{Stopped}
use Rattle.world_runs.specs.Actors.{Actor, Running, running_op, program_of}
use Rattle.world_runs.specs.Moments.{running, WorldState, after, after_all, RunFrom}
use Rattle.world_runs.specs.Follows.{Acts, EndsAfter, EndsWithin, IsBeginOf, BeginsAndEnds, DoesLine, with_busy}
use Rattle.whole_runs.specs.ClientStates.{ClientState, TakesAct, state_left_at}
use Rattle.whole_runs.specs.ClientStates as states
use Rattle.whole_runs.specs.Standing.{busy_at, IsInState}
use Rattle.whole_runs.proofs.Actors.{changed}
use Rattle.script_runs.proofs.Running.{AllWell}
use Rattle.script_runs.proofs.Moves.{Moves, Keeps, none_moves, moves_on, acts_move, ends_move, begin_moves, stopped_moves}

-- ---- the op that an actor is busy with

-- the command of the op that the actor is busy with
pub record IsBusy {S : Type 0} (m : WorldState S) (a : ℕ) (op : OpId) : Type 0 where
  pub program : Running S
  pub runs : (m.actors a).running ≡ Some program
  pub its : program.op ≡ op
  pub own : op.actor ≡ a

program_of_op : {S : Type 0} (o : Option (Running S)) (op : OpId) → running_op o ≡ Some op
    → (r : Running S) × (o ≡ Some r) × (r.op ≡ op)
program_of_op None op e = absurd (let k : None ≡ Some op = e in cc)
program_of_op (Some r) op e = (r, refl, let k : Some r.op ≡ Some op = e in cc)

-- an op that is busy is its own actor's
pub busy_is : {S : Type 0} (m : WorldState S) → AllWell m → (a : ℕ) (op : OpId) → busy_at m a ≡ Some op → IsBusy m a op
busy_is {S = S} m s a op is =
    let p : (r : Running S) × ((m.actors a).running ≡ Some r) × (r.op ≡ op) = program_of_op (m.actors a).running op is in
    record { program = p.0; runs = p.1; its = p.2; own = subst (λ (o : OpId). o.actor ≡ a) p.2 (s a p.0 p.1).own }

itself : (op : OpId) → op_eq op op ≡ true
itself op = grind (arith, op_eq_cases op op)

-- the command runs as its op
pub runs_as_its_op : {S : Type 0} (o : Option (Running S)) (r : Running S) (op : OpId) → o ≡ Some r → r.op ≡ op → program_of o op ≡ Some r
runs_as_its_op o r op is its = let yes : op_eq r.op op ≡ true = rw its (itself op) in rw (is, yes) refl

pub busy_runs : {S : Type 0} (m : WorldState S) (a : ℕ) (op : OpId) → (b : IsBusy m a op) → running m op ≡ Some b.program
busy_runs m a op b = runs_as_its_op (m.actors op.actor).running b.program op (rw b.own b.runs) b.its

-- who is not busy runs nothing
pub idle_is : {S : Type 0} (o : Option (Running S)) → running_op o ≡ None → o ≡ None
idle_is None e = refl
idle_is (Some r) e = absurd (let k : Some r.op ≡ None = e in cc)

-- ---- a line

-- the actor does not stop by it
abbrev pub IsNoStop : Act → Type 0
IsNoStop acts.Stop = ⊥
IsNoStop _ = Unit {0}

-- what the line changes: nothing of the others; the actor begins one command or none, and is then busy with this
pub record IsDone {S : Type 0} (m n : WorldState S) (a : ℕ) (act : Act) (next : Option OpId) : Type 0 where
  pub others : (b : ℕ) → b ≢ a → n.actors b ≡ m.actors b
  pub number : (n.actors a).number ≤ (m.actors a).number + 1
  pub goes_on : IsNoStop act → (n.actors a).stopped ≡ (m.actors a).stopped
  pub busy : busy_at n a ≡ next

pub keeps_done : {S : Type 0} (m n : WorldState S) (a : ℕ) (act : Act) (next : Option OpId) → Keeps m n a next → IsDone m n a act next
keeps_done m n a act next k = record { others = k.others; number = rw k.number (omega arith); goes_on = λ g. k.stopped; busy = k.busy }

begun_done : {S : Type 0} (m n : WorldState S) (a : ℕ) (act : Act) (next : Option OpId)
    → Moves m n a ((m.actors a).number + 1) (m.actors a).stopped next → IsDone m n a act next
begun_done m n a act next k = record { others = k.others; number = rw k.number (omega arith); goes_on = λ g. k.stopped; busy = k.busy }

stopped_done : {S : Type 0} (m n : WorldState S) (a : ℕ) (next : Option OpId) → Moves m n a (m.actors a).number true next
    → IsDone m n a acts.Stop next
stopped_done m n a next k = record { others = k.others; number = rw k.number (omega arith); goes_on = λ g. absurd g; busy = k.busy }

-- an end within some steps is one after some transactions
pub within_after : (op : OpId) (n : ℕ) (es : List Event) → EndsWithin op n es → (k : ℕ) × EndsAfter op k es
within_after op n es e = (e.0, (e.1, e.2, e.3, e.4, e.5))

module _ {S : Type 0} (P : Programs S) where
  module _ (m : WorldState S) (a : ℕ) (act : Act) where
    -- after these events the line is done
    abbrev Done : Option OpId → List Event → Type 0
    Done next part = IsDone m (after_all P m part) a act next

    -- the line did nothing
    idle_done : (part : List Event) (next : Option OpId) → busy_at m a ≡ None → (part ≡ []) × (next ≡ None) → Done next part
    idle_done part next is d =
        rw (d.0, d.1) (keeps_done m m a act None (subst (λ (o : Option OpId). Keeps m m a o) is (none_moves m a)))

    -- the op ran to its end
    ends_done : (op : OpId) (n : ℕ) (part : List Event) (next : Option OpId) → op.actor ≡ a → EndsAfter op n part → next ≡ None
        → Done next part
    ends_done op n part next own e last = rw last
        (keeps_done m _ a act None (subst (λ (i : ℕ). Keeps m (after_all P m part) i None) own (ends_move P m op n part e)))

    -- the op did transactions
    acts_done : (op : OpId) (n : ℕ) (part : List Event) (next : Option OpId) → op.actor ≡ a → busy_at m a ≡ Some op → Acts op n part
        → next ≡ Some op → Done next part
    acts_done op n part next own is e last =
        rw last (keeps_done m _ a act (Some op) (subst (λ (o : Option OpId). Keeps m (after_all P m part) a o) is
        (subst (λ (i : ℕ). Keeps m (after_all P m part) i (busy_at m i)) own (acts_move P m op n part e))))

    -- the op began
    begins_done : (op : OpId) (c : Command) (begin : Event) (part : List Event) (next : Option OpId) → op.actor ≡ a → part ≡ begin ∷ []
        → IsBeginOf op c begin → RunFrom P m part → next ≡ Some op → Done next part
    begins_done op c begin part next own is begins run last =
        rw (is, last) (begun_done m _ a act (Some op)
        (subst (λ (i : ℕ). Moves m (after P m begin) i ((m.actors i).number + 1) (m.actors i).stopped (Some op)) own
        (begin_moves P m op c begin begins (rw is at run).0)))

    -- the op began and ran to its end
    does_done : (c : Command) (part : List Event) (next : Option OpId) → BeginsAndEnds a c part → RunFrom P m part → next ≡ None
        → Done next part
    does_done c part next b run last =
        let op : OpId = b.0 in
        let mid : WorldState S = after P m b.1 in
        let first : Moves m mid op.actor ((m.actors op.actor).number + 1) (m.actors op.actor).stopped (Some op) =
        begin_moves P m op c b.1 b.5 (rw b.4 at run).0 in
        let whole : Moves m (after_all P mid b.2) op.actor ((m.actors op.actor).number + 1) (m.actors op.actor).stopped None =
        moves_on m mid (after_all P mid b.2) op.actor _ _ _ _ first (ends_move P mid op (b.6).0 b.2 (b.6).1) in
        rw (b.4, last) (begun_done m _ a act None
        (subst (λ (i : ℕ). Moves m (after_all P mid b.2) i ((m.actors i).number + 1) (m.actors i).stopped None) b.3 whole))

  -- the events of a line
  pub line_done : (m : WorldState S) (a : ℕ) (act : Act) (part : List Event) (busy next : Option OpId) → busy_at m a ≡ busy
      → ((op : OpId) → busy ≡ Some op → op.actor ≡ a) → RunFrom P m part
      → DoesLine a busy act part next → IsDone m (after_all P m part) a act next
  line_done m a (acts.Do c) part None next is own run d = does_done m a (acts.Do c) c part next d.0 run d.1
  line_done m a (acts.Begin c) part None next is own run d = begins_done m a (acts.Begin c) d.0 c d.1 part next d.2 d.3 d.4 run d.5
  line_done m a (acts.Step n) part None next is own run d = idle_done m a (acts.Step n) part next is d
  line_done m a acts.Run part None next is own run d = idle_done m a acts.Run part next is d
  line_done m a acts.Stop part None next is own run d = idle_done m a acts.Stop part next is d
  line_done m a (acts.Do c) part (Some op) next is own run d = absurd d
  line_done m a (acts.Begin c) part (Some op) next is own run d = absurd d
  line_done m a (acts.Step n) part (Some op) next is own run (inl d) = acts_done m a (acts.Step n) op n part next (own op refl) is d.0 d.1
  line_done m a (acts.Step n) part (Some op) next is own run (inr d) =
      let e : (k : ℕ) × EndsAfter op k part = within_after op n part d.0 in
      ends_done m a (acts.Step n) op e.0 part next (own op refl) e.1 d.1
  line_done m a acts.Run part (Some op) next is own run d = ends_done m a acts.Run op (d.0).0 part next (own op refl) (d.0).1 d.1
  line_done m a acts.Stop part (Some op) next is own run d =
      rw (d.0, d.1) (stopped_done m _ a None
      (subst (λ (i : ℕ). Moves m (after P m (Own op Stopped)) i (m.actors i).number true None) (own op refl) (stopped_moves P m op)))

  -- the same of a moment of a run
  pub line_does : (m : WorldState S) → AllWell m → (a : ℕ) (act : Act) (part : List Event) (next : Option OpId) → RunFrom P m part
      → DoesLine a (busy_at m a) act part next
      → IsDone m (after_all P m part) a act next
  line_does m s a act part next run d = line_done m a act part (busy_at m a) next refl (λ op is. (busy_is m s a op is).own) run d

-- the busy ops after it
busy_so : {S : Type 0} (m n : WorldState S) (a : ℕ) (act : Act) (next : Option OpId) → IsDone m n a act next → (b : ℕ)
    → with_busy (busy_at m) a next b ≡ busy_at n b
busy_so {S = S} m n a act next d b =
    changed (λ o. o ≡ busy_at n b) (busy_at m) a next b (λ e. rw e (sym d.busy))
    (λ e. ap (λ (st : Actor S). running_op st.running) (sym (d.others b e)))

pub busy_after : {S : Type 0} (m n : WorldState S) (a : ℕ) (act : Act) (next : Option OpId) → IsDone m n a act next
    → with_busy (busy_at m) a next ≡ busy_at n
busy_after m n a act next d i b = busy_so m n a act next d b i

-- ---- states

-- where the line leaves no command running
abbrev LeavesNone : Act → Type 0
LeavesNone (acts.Do c) = Unit {0}
LeavesNone (acts.Begin c) = ⊥
LeavesNone (acts.Step n) = ⊥
LeavesNone acts.Run = Unit {0}
LeavesNone acts.Stop = Unit {0}

rests_next : (a : ℕ) (busy : Option OpId) (act : Act) (part : List Event) (next : Option OpId) → LeavesNone act
    → DoesLine a busy act part next
    → next ≡ None
rests_next a None (acts.Do c) part next r d = d.1
rests_next a None (acts.Begin c) part next r d = absurd r
rests_next a None (acts.Step n) part next r d = absurd r
rests_next a None acts.Run part next r d = d.1
rests_next a None acts.Stop part next r d = d.1
rests_next a (Some op) (acts.Do c) part next r d = absurd d
rests_next a (Some op) (acts.Begin c) part next r d = absurd d
rests_next a (Some op) (acts.Step n) part next r d = absurd r
rests_next a (Some op) acts.Run part next r d = d.1
rests_next a (Some op) acts.Stop part next r d = d.1

module _ {S : Type 0} (P : Programs S) (m n : WorldState S) (a : ℕ) (busy : Option OpId) where
  rests : (act : Act) (part : List Event) (next : Option OpId) → IsDone m n a act next → DoesLine a busy act part next → LeavesNone act
      → (n.actors a).running ≡ None
  rests act part next done does r = idle_is (n.actors a).running (done.busy ∙ rests_next a busy act part next r does)

  -- the actor stands as its client's state after the line tells
  pub turn_stands : (state : ClientState) (act : Act) (part : List Event) (next : Option OpId)
      → IsDone m n a act next → DoesLine a busy act part next
      → TakesAct P state act → IsInState state (m.actors a) → IsInState (state_left_at act) (n.actors a)
  turn_stands states.Idle (acts.Do c) part next done does takes stood =
      (rests (acts.Do c) part next done does tt, done.goes_on tt ∙ stood.1)
  turn_stands states.Idle (acts.Begin c) part next done does takes stood = done.goes_on tt ∙ stood.1
  turn_stands states.Idle (acts.Step k) part next done does takes stood = absurd takes
  turn_stands states.Idle acts.Run part next done does takes stood = absurd takes
  turn_stands states.Idle acts.Stop part next done does takes stood = absurd takes
  turn_stands states.Busy (acts.Do c) part next done does takes stood = absurd takes
  turn_stands states.Busy (acts.Begin c) part next done does takes stood = absurd takes
  turn_stands states.Busy (acts.Step k) part next done does takes stood = done.goes_on tt ∙ stood
  turn_stands states.Busy acts.Run part next done does takes stood = (rests acts.Run part next done does tt, done.goes_on tt ∙ stood)
  turn_stands states.Busy acts.Stop part next done does takes stood = rests acts.Stop part next done does tt
  turn_stands states.Gone act part next done does takes stood = absurd takes
