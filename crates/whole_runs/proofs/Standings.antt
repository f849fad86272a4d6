-- what an actor may do tells how its command stands, and its number grows
use Rattle.std.proofs.Common.{◌≡◌, ◌≤◌, ℕ, Bool, true, false, if◌then◌else◌, Option, Some, None, refl, ap, sym, ◌∙◌, arith}
use Rattle.tect_ids.specs.declared.ids.Counts.{Counts}
use Rattle.tect_ids.specs.declared.ids.OpId.{OpId}
use Rattle.tect_ids.specs.declared.answer.Answer.{Answer}
use Rattle.tect_ids.specs.Keys.{op_eq}
use Rattle.tect_ids.proofs.KeyTests.{op_eq_cases}
use Rattle.store_rules.specs.declared.any.AnyReq.{AnyReq}
use Rattle.store_rules.specs.declared.any.AnyReply.{AnyReply}
use Rattle.program_forms.specs.declared.heard.Heard.{Heard}
use Rattle.program_forms.specs.declared.standing.Standing.{Standing}
use Rattle.program_forms.specs.declared.standing.Standing.TheVariants.{Goes, Left, NoRoom}
use Rattle.program_forms.specs.Memories.{Memory}
use Rattle.program_forms.specs.Kinds.{Does, Asks, Says, asked_by, said_by, Programs, next_does}
use Rattle.world_runs.specs.declared.event.Event.{Event}
use Rattle.world_runs.specs.declared.event.Event.TheVariants.{Own, Dumped}
use Rattle.world_runs.specs.declared.event.Happening.{Happening}
use Rattle.world_runs.specs.declared.event.Happening.TheVariants.{Began, NotBegun, Acted, Ended, Stopped, Failed}
use Rattle.world_runs.specs.Actors.{Actor, Running, program_of, program_ask, program_answer, OwnMay, own_after, went_on, ended}
use Rattle.world_runs.specs.Moments.{WorldState, May, after}
use Rattle.whole_runs.proofs.Actors.{changed}

-- what runs as the op
pub record RunsSo {S : Type 0} (o : Option (Running S)) (op : OpId) (r : Running S) : Type 0 where
  pub is : o ≡ Some r
  pub own : r.op ≡ op

pub runs_of : {S : Type 0} (o : Option (Running S)) (op : OpId) (r : Running S) → program_of o op ≡ Some r → RunsSo o op r
runs_of None op r e = absurd (let k : None ≡ Some r = e in cc)
runs_of {S = S} (Some s) op r e = at (op_eq s.op op) refl e
  where
    at : (b : Bool) → op_eq s.op op ≡ b → (if b then Some s else None) ≡ Some r → RunsSo (Some s) op r
    at true is e = let own : s.op ≡ op = grind (arith, op_eq_cases s.op op) in let same : s ≡ r = cc in
        record { is = e; own = rw (← same) own }
    at false is e = absurd (let k : None ≡ Some r = e in cc)

-- the actor's running command is that op's, and stands so
pub runs_at : {S : Type 0} (o : Option (Running S)) (op : OpId) (r : Running S) → program_of o op ≡ Some r
    → o ≡ Some record { op = op; at = r.at }
runs_at {S = S} o op r e =
    let its : RunsSo o op r = runs_of o op r e in
    let same : r ≡ record { op = op; at = r.at } = ap (λ (a : OpId). (let s : Running S = record { op = a; at = r.at } in s)) its.own in
    its.is ∙ ap (λ (s : Running S). Some s) same

module _ (S : Type 0) (P : Programs S) (counts : Counts) (m : Memory) where
  -- the command that asks
  pub record Asking (o : Option (Running S)) (op : OpId) (q : AnyReq) : Type 0 where
    pub state : S
    pub is : o ≡ Some record { op = op; at = Goes state }
    pub asks : next_does P.kind counts m op state ≡ Asks q

  -- the command that says its answer
  pub record Saying (o : Option (Running S)) (op : OpId) (a : Answer) : Type 0 where
    pub at : Standing S
    pub is : o ≡ Some record { op = op; at = at }
    pub says : program_answer P counts m (Some record { op = op; at = at }) ≡ Some a

  does_ask : (d : Does Answer) (q : AnyReq) → asked_by d ≡ Some q → d ≡ Asks q
  does_ask (Asks r) q e = let same : r ≡ q = cc in rw same refl
  does_ask (Says a) q e = absurd (let k : None ≡ Some q = e in cc)

  pub does_say : (d : Does Answer) (a : Answer) → said_by d ≡ Some a → d ≡ Says a
  does_say (Asks q) a e = absurd (let k : None ≡ Some a = e in cc)
  does_say (Says b) a e = let same : b ≡ a = cc in rw same refl

  pub asks_of : (o : Option (Running S)) (op : OpId) (q : AnyReq) → program_ask P counts m (program_of o op) ≡ Some q → Asking o op q
  asks_of o op q e = of (program_of o op) refl e
    where
      standing : (at : Standing S) → o ≡ Some record { op = op; at = at }
          → program_ask P counts m (Some record { op = op; at = at }) ≡ Some q → Asking o op q
      standing (Goes s) is e = record { state = s; is = is; asks = does_ask (next_does P.kind counts m op s) q e }
      standing Left is e = absurd (let k : None ≡ Some q = e in cc)
      standing NoRoom is e = absurd (let k : None ≡ Some q = e in cc)

      of : (r : Option (Running S)) → program_of o op ≡ r → program_ask P counts m r ≡ Some q → Asking o op q
      of None is e = absurd (let k : None ≡ Some q = e in cc)
      of (Some r) is e =
          let its : RunsSo o op r = runs_of o op r is in
          let same : r ≡ record { op = op; at = r.at } =
          ap (λ (a : OpId). (let s : Running S = record { op = a; at = r.at } in s)) its.own in
          standing r.at (runs_at o op r is) (ap (λ (s : Running S). program_ask P counts m (Some s)) (sym same) ∙ e)

  pub says_of : (o : Option (Running S)) (op : OpId) (a : Answer) → program_answer P counts m (program_of o op) ≡ Some a → Saying o op a
  says_of o op a e = of (program_of o op) refl e
    where
      of : (r : Option (Running S)) → program_of o op ≡ r → program_answer P counts m r ≡ Some a → Saying o op a
      of None is e = absurd (let k : None ≡ Some a = e in cc)
      of (Some r) is e =
          let its : RunsSo o op r = runs_of o op r is in
          let same : r ≡ record { op = op; at = r.at } =
          ap (λ (b : OpId). (let s : Running S = record { op = b; at = r.at } in s)) its.own in
          record {
            at = r.at;
            is = runs_at o op r is;
            says = ap (λ (s : Running S). program_answer P counts m (Some s)) (sym same) ∙ e;
          }

-- ---- an actor's number

pub went_on_number : {S : Type 0} (P : Programs S) (counts : Counts) (s : Actor S) (o : Option (Running S)) (q : AnyReq) (x : AnyReply)
    (h : Heard) → (went_on P counts s o q x h).number ≡ s.number
went_on_number P counts s None q x h = refl
went_on_number P counts s (Some r) q x h = refl

pub ended_number : {S : Type 0} (P : Programs S) (counts : Counts) (s : Actor S) (o : Option (Running S))
    → (ended P counts s o).number ≡ s.number
ended_number P counts s None = refl
ended_number P counts s (Some r) = refl

pub own_grows : {S : Type 0} (P : Programs S) (counts : Counts) (s : Actor S) (op : OpId) (h : Happening) → OwnMay P counts s op h
    → s.number ≤ (own_after P counts s op h).number
own_grows P counts s op (Began c) may = omega (arith, (may.0).next)
own_grows P counts s op (NotBegun c) may = omega (arith, (may.0).next)
own_grows P counts s op (Acted q x h) may = rw (went_on_number P counts s s.running q x h) (omega arith)
own_grows P counts s op (Ended a) may = rw (ended_number P counts s s.running) (omega arith)
own_grows P counts s op Stopped may = omega arith
own_grows P counts s op (Failed a) may = rw (ended_number P counts s s.running) (omega arith)

pub numbers_grow : {S : Type 0} (P : Programs S) (m : WorldState S) (e : Event) → May P m e → (a : ℕ)
    → (m.actors a).number ≤ ((after P m e).actors a).number
numbers_grow {S = S} P m (Own op h) may a = changed (λ (s : Actor S). (m.actors a).number ≤ s.number) m.actors op.actor
    (own_after P m.counts (m.actors op.actor) op h) a
    (λ same. rw same (own_grows P m.counts (m.actors op.actor) op h may.0)) (λ d. omega arith)
numbers_grow P m Dumped may a = omega arith
