-- what a running command asks, and what it comes to
use Rattle.std.proofs.Common.{◌≡◌, Bool, true, false, if◌then◌else◌, Option, Some, None, refl, subst, arith}
use Rattle.tect_ids.specs.declared.ids.OpId.{OpId}
use Rattle.tect_ids.specs.Keys.{op_eq}
use Rattle.tect_ids.proofs.KeyTests.{keys}
use Rattle.store_rules.specs.declared.any.AnyReq.{AnyReq}
use Rattle.program_forms.specs.declared.standing.Standing.{Standing}
use Rattle.program_forms.specs.declared.standing.Standing.TheVariants.{Goes, Left, NoRoom}
use Rattle.program_forms.specs.Kinds.{Does, Asks, Says, Programs, asked_by, said_by, next_does}
use Rattle.world_runs.specs.Actors.{Running, program_of, program_ask}
use Rattle.world_runs.specs.Moments.{WorldState, asked}

asks_it : {R : Type 0} (d : Does R) (q : AnyReq) → asked_by d ≡ Some q → d ≡ Asks q
asks_it (Asks p) q e = let same : p ≡ q = cc in rw same refl
asks_it (Says r) q e = absurd (let k : None ≡ Some q = e in cc)

pub says_it : {R : Type 0} (d : Does R) (r : R) → said_by d ≡ Some r → d ≡ Says r
says_it (Asks q) r e = absurd (let k : None ≡ Some r = e in cc)
says_it (Says t) r e = let same : t ≡ r = cc in rw same refl

-- where an op asks, it runs, and its state asks it
pub record IsAsked {S : Type 0} (P : Programs S) (m : WorldState S) (op : OpId) (q : AnyReq) (s : S) : Type 0 where
  pub is : (m.actors op.actor).running ≡ Some record { op = op; at = Goes s }
  pub ask : next_does P.kind m.counts (m.actors op.actor).memory op s ≡ Asks q

-- the command that runs as an op is found at its actor
pub record RunsAs {S : Type 0} (o : Option (Running S)) (op : OpId) (r : Running S) : Type 0 where
  pub is : o ≡ Some r
  pub same : r.op ≡ op

pub runs_as : {S : Type 0} (o : Option (Running S)) (op : OpId) (r : Running S) → program_of o op ≡ Some r → RunsAs o op r
runs_as None op r e = absurd (grind (arith, e))
runs_as (Some t) op r e = at (op_eq t.op op) refl e
  where
    at : (b : Bool) → op_eq t.op op ≡ b → (if b then Some t else None) ≡ Some r → RunsAs (Some t) op r
    at true e same = record { is = same; same = grind (arith, keys) }
    at false e same = absurd (grind (arith, same))

same_running : {S : Type 0} (r : Running S) (op : OpId) (st : Standing S) → r.op ≡ op → r.at ≡ st → r ≡ record { op = op; at = st }
same_running r op st e f = rw (← e, ← f) refl

module _ {S : Type 0} (P : Programs S) (m : WorldState S) (op : OpId) (q : AnyReq) where
  asked_at : (r : Running S) → RunsAs (m.actors op.actor).running op r → (st : Standing S) → r.at ≡ st
      → program_ask P m.counts (m.actors op.actor).memory (Some record { op = op; at = st }) ≡ Some q
      → (s : S) × IsAsked P m op q s
  asked_at r runs (Goes s) at asks = (
    s,
    record {
      is = rw (runs.is, same_running r op (Goes s) runs.same at) refl;
      ask = asks_it (next_does P.kind m.counts (m.actors op.actor).memory op s) q asks;
    },
  )
  asked_at r runs Left at asks = absurd (let k : None ≡ Some q = asks in cc)
  asked_at r runs NoRoom at asks = absurd (let k : None ≡ Some q = asks in cc)

  asked_as : (o : Option (Running S)) → program_of (m.actors op.actor).running op ≡ o
      → program_ask P m.counts (m.actors op.actor).memory o ≡ Some q → (s : S) × IsAsked P m op q s
  asked_as None e asks = absurd (let k : None ≡ Some q = asks in cc)
  asked_as (Some r) e asks =
      let runs : RunsAs (m.actors op.actor).running op r = runs_as (m.actors op.actor).running op r e in
      asked_at r runs r.at refl (subst (λ (t : Running S). program_ask P m.counts (m.actors op.actor).memory (Some t) ≡ Some q)
      (same_running r op r.at runs.same refl) asks)

  pub asked_by_op : asked P m op ≡ Some q → (s : S) × IsAsked P m op q s
  asked_by_op asks = asked_as (program_of (m.actors op.actor).running op) refl asks
