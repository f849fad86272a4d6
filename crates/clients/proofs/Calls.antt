-- what the calls of an actor do one by one is what an actor does at a moment of the world
use Rattle.std.proofs.Common.{◌≡◌, ℕ, ◌+◌, ◌≤◌, Bool, true, false, if◌then◌else◌, Option, Some, None, refl, sym, ap, ◌∙◌, arith}
use Rattle.tect_ids.specs.declared.ids.Counts.{Counts}
use Rattle.tect_ids.specs.declared.ids.OpId.{OpId}
use Rattle.tect_ids.specs.declared.answer.Answer.{Answer}
use Rattle.store_rules.specs.declared.any.AnyReq.{AnyReq}
use Rattle.store_rules.specs.declared.any.AnyReply.{AnyReply}
use Rattle.program_forms.specs.declared.heard.Heard.{Heard}
use Rattle.program_forms.specs.declared.heard.Heard.TheVariants as hearing
use Rattle.program_forms.specs.declared.standing.Standing.{Standing}
use Rattle.program_forms.specs.declared.standing.Standing.TheVariants.{Goes, Left, NoRoom}
use Rattle.store_rules.specs.Views.{is_made}
use Rattle.program_forms.specs.Memories.{Memory, always}
use Rattle.program_forms.specs.Kinds.{Does, Asks, Says, Kind, Turned, Programs, said_by, turned, turned_by}
use Rattle.program_calls.specs.Keeping.{KeepsSerial}
use Rattle.world_runs.specs.Actors.{Actor, Running, asked_in, answer_in, is_said, standing_does, running_does, program_ask, program_answer}
use Rattle.world_runs.specs.Actors.{memory_after, memory_at_end, standing_heard, went_on, ended}
use Rattle.clients.specs.ActorState.{ActorState, op_of}
use Rattle.clients.specs.ActorCalls.{standing_looked, actor_looked, looked, standing_now, running_now, asks_now, says_now, standing_plain}
use Rattle.clients.specs.ActorCalls.{IsPlainOf}
use Rattle.clients.specs.ActorCalls.{standing_on, memory_on, actor_on, gone_on, let_go}
use Rattle.clients.specs.PassSteps.{ended_by}

-- the actor after its command went on at a reply
abbrev pub heard_by : {S : Type 0} → Programs S → ActorState S → AnyReq → AnyReply → Heard → ActorState S
heard_by P a q x h = record a { state = went_on P a.counts a.state a.state.running q x h }

-- a command that has no answer as it stands asks
pub goes_on : {R : Type 0} (d : Does R) → said_by d ≡ None → is_said d ≡ false
goes_on (Asks q) is = refl
goes_on (Says a) is = absurd cc

-- where it has its answer, it looks nothing up
turned_says : {S R : Type 0} (K : Kind S R) (c : Counts) (m : Memory) (op : OpId) (s : S) (y : R) → said_by (K.does c m op s) ≡ Some y
    → (let t : Turned S = record { memory = m; state = s } in turned K c m op s ≡ t)
turned_says {S} {R} K c m op s y is =
    let t : Turned S = record { memory = m; state = s } in
    elim (K.does c m op s) as (λ (d : Does R). said_by d ≡ Some y → turned_by d m s (K.turns c m op s) ≡ t)
    [ Asks q ↦ λ h. absurd cc | Says a ↦ λ h. refl ] is

module _ {S : Type 0} (P : Programs S) where
  module _ (c : Counts) where
    -- ---- of a standing

    does_at : (m : Memory) (op : OpId) (at : Standing S)
        → standing_now P c (memory_at_end P c m op at) op (standing_looked P c m op at) ≡ standing_does P c m op at
    does_at m op (Goes s) = refl
    does_at m op Left = refl
    does_at m op NoRoom = refl

    memory_at : (m : Memory) (op : OpId) (at : Standing S) (q : AnyReq) (x : AnyReply) (h : Heard)
        → memory_on P (memory_at_end P c m op at) op (standing_looked P c m op at) q x h ≡ memory_after P c m op at q x h
    memory_at m op (Goes s) q x h = refl
    memory_at m op Left q x h = refl
    memory_at m op NoRoom q x h = refl

    heard_at : (m : Memory) (op : OpId) (at : Standing S) (q : AnyReq) (x : AnyReply) (h : Heard)
        → standing_on P c (memory_at_end P c m op at) op (standing_looked P c m op at) q x h ≡ standing_heard P c m op at q x h
    heard_at m op (Goes s) q x hearing.Whole = refl
    heard_at m op (Goes s) q x hearing.Unkept = refl
    heard_at m op (Goes s) q x hearing.Left = refl
    heard_at m op Left q x h = refl
    heard_at m op NoRoom q x h = refl

    plain_at : (m : Memory) (op : OpId) (at : Standing S) (x : Option Answer) → standing_plain (standing_looked P c m op at) x
        → standing_plain at x
    plain_at m op (Goes s) x plain = plain
    plain_at m op Left x plain = plain
    plain_at m op NoRoom x plain = plain

    still_at : (m : Memory) (op : OpId) (at : Standing S) (y : Answer) → answer_in (standing_now P c m op at) ≡ Some y
        → memory_at_end P c m op at ≡ m
    still_at m op (Goes s) y is = ap (λ (t : Turned S). t.memory) (turned_says P.kind c m op s y is)
    still_at m op Left y is = refl
    still_at m op NoRoom y is = refl

    says_at : (m : Memory) (op : OpId) (at : Standing S) (y : Answer) → answer_in (standing_now P c m op at) ≡ Some y
        → answer_in (standing_does P c m op at) ≡ Some y
    says_at m op (Goes s) y is = ap (λ (t : Turned S). said_by (P.kind.does c t.memory op t.state)) (turned_says P.kind c m op s y is) ∙ is
    says_at m op Left y is = is
    says_at m op NoRoom y is = is

    -- ---- of what runs

    module _ (n : ℕ) (m : Memory) (b : Bool) where
      abbrev with : Option (Running S) → Actor S
      with r = record { number = n; memory = m; stopped = b; running = r }

      does_of : (r : Option (Running S))
          → running_now P c (actor_looked P c (with r) r).memory (actor_looked P c (with r) r).running ≡ running_does P c m r
      does_of None = refl
      does_of (Some r) = does_at m r.op r.at

      on_of : (r : Option (Running S)) (q : AnyReq) (x : AnyReply) (h : Heard)
          → actor_on P c (actor_looked P c (with r) r) (actor_looked P c (with r) r).running q x h ≡ went_on P c (with r) r q x h
      on_of None q x h = refl
      on_of (Some r) q x h = λ i. record {
        number = n;
        memory = memory_at m r.op r.at q x h i;
        stopped = b;
        running = Some record { op = r.op; at = heard_at m r.op r.at q x h i };
      }

      end_of : (r : Option (Running S)) → (let e : Actor S =
          record (actor_looked P c (with r) r) { running = None } in e ≡ ended P c (with r) r)
      end_of None = refl
      end_of (Some r) = refl

      number_of : (r : Option (Running S)) → (actor_looked P c (with r) r).number ≡ n
      number_of None = refl
      number_of (Some r) = refl

      plain_of : (r : Option (Running S)) (x : Option Answer) → IsPlainOf (actor_looked P c (with r) r).running x → IsPlainOf r x
      plain_of None x plain = plain
      plain_of (Some r) x plain = plain_at m r.op r.at x plain

      still_of : (r : Option (Running S)) (y : Answer) → answer_in (running_now P c m r) ≡ Some y
          → (let e : Actor S = record (with r) { running = None } in e ≡ ended P c (with r) r)
      still_of None y is = absurd cc
      still_of (Some r) y is = ap (λ (k : Memory). let e : Actor S = record { number = n; memory = k; stopped = b; running = None } in e)
          (sym (still_at m r.op r.at y is))

      says_of : (r : Option (Running S)) (y : Answer) → answer_in (running_now P c m r) ≡ Some y
          → answer_in (running_does P c m r) ≡ Some y
      says_of None y is = is
      says_of (Some r) y is = says_at m r.op r.at y is

    -- look-ups take no serial
    serial_at : KeepsSerial P → (m : Memory) (op : OpId) (at : Standing S) → (memory_at_end P c m op at).serial ≡ m.serial
    serial_at keeps m op (Goes s) = keeps c m op s
    serial_at keeps m op Left = refl
    serial_at keeps m op NoRoom = refl

    pub looked_serial : KeepsSerial P → (a : Actor S) (r : Option (Running S)) → (actor_looked P c a r).memory.serial ≡ a.memory.serial
    looked_serial keeps a None = refl
    looked_serial keeps a (Some r) = serial_at keeps a.memory r.op r.at

    pub end_serial : KeepsSerial P → (a : Actor S) (r : Option (Running S)) → (ended P c a r).memory.serial ≡ a.memory.serial
    end_serial keeps a None = refl
    end_serial keeps a (Some r) = serial_at keeps a.memory r.op r.at

    made_serial : (m : Memory) (q : AnyReq) (x : AnyReply) → (always m q x).serial ≤ m.serial + 1
    made_serial m q x = elim (is_made x) as (λ b. (if b then m.serial + 1 else m.serial) ≤ m.serial + 1)
        [ true ↦ omega arith | false ↦ omega arith ]

    after_serial : KeepsSerial P → (m : Memory) (op : OpId) (at : Standing S) (q : AnyReq) (x : AnyReply) (h : Heard)
        → (memory_after P c m op at q x h).serial ≤ m.serial + 1
    after_serial keeps m op (Goes s) q x h =
        omega (arith, keeps c m op s, made_serial (turned P.kind c m op s).memory q x)
    after_serial keeps m op Left q x h = omega arith
    after_serial keeps m op NoRoom q x h = omega arith

    pub went_serial : KeepsSerial P → (a : Actor S) (r : Option (Running S)) (q : AnyReq) (x : AnyReply) (h : Heard)
        → (went_on P c a r q x h).memory.serial ≤ a.memory.serial + 1
    went_serial keeps a None q x h = omega arith
    went_serial keeps a (Some r) q x h = after_serial keeps a.memory r.op r.at q x h

  -- ---- of an actor

  pub looked_asks : (a : ActorState S) → asks_now P (looked P a) ≡ program_ask P a.counts a.state.memory a.state.running
  looked_asks a = ap asked_in (does_of a.counts a.state.number a.state.memory a.state.stopped a.state.running)

  pub looked_says : (a : ActorState S) → says_now P (looked P a) ≡ program_answer P a.counts a.state.memory a.state.running
  looked_says a = ap answer_in (does_of a.counts a.state.number a.state.memory a.state.stopped a.state.running)

  pub looked_plain : (a : ActorState S) (x : Option Answer) → IsPlainOf (looked P a).state.running x → IsPlainOf a.state.running x
  looked_plain a x plain = plain_of a.counts a.state.number a.state.memory a.state.stopped a.state.running x plain

  pub looked_on : (a : ActorState S) (q : AnyReq) (x : AnyReply) (h : Heard) → gone_on P (looked P a) q x h ≡ heard_by P a q x h
  looked_on a q x h i = record a { state = on_of a.counts a.state.number a.state.memory a.state.stopped a.state.running q x h i }

  pub looked_end : (a : ActorState S) → let_go (looked P a) ≡ ended_by P a
  looked_end a i = record a { state = end_of a.counts a.state.number a.state.memory a.state.stopped a.state.running i }

  pub looked_op : (a : ActorState S) → op_of (looked P a) ≡ op_of a
  looked_op a i = record
      { actor = a.actor; number = number_of a.counts a.state.number a.state.memory a.state.stopped a.state.running i }

  -- where it has its answer, its end is all that is left
  pub says_end : (a : ActorState S) (y : Answer) → says_now P a ≡ Some y → let_go a ≡ ended_by P a
  says_end a y is i = record a { state = still_of a.counts a.state.number a.state.memory a.state.stopped a.state.running y is i }

  pub says_answers : (a : ActorState S) (y : Answer) → says_now P a ≡ Some y
      → program_answer P a.counts a.state.memory a.state.running ≡ Some y
  says_answers a y is = says_of a.counts a.state.number a.state.memory a.state.stopped a.state.running y is
