-- an op that runs at a moment, and its transactions
use Rattle.std.proofs.Common.{◌≡◌, ◌≤◌, true, Option, Some, refl, arith}
use Rattle.tect_ids.specs.declared.ids.OpId.{OpId}
use Rattle.tect_ids.specs.Keys.{op_eq}
use Rattle.tect_ids.proofs.KeyTests.{op_eq_cases}
use Rattle.store_rules.specs.declared.any.AnyReq.{AnyReq}
use Rattle.store_rules.specs.declared.any.AnyReply.{AnyReply}
use Rattle.store_rules.specs.Store.{store_reply}
use Rattle.program_forms.specs.declared.heard.Heard.TheVariants.{Whole}
use Rattle.program_forms.specs.declared.standing.Standing.{Standing}
use Rattle.program_forms.specs.declared.standing.Standing.TheVariants.{Goes}
use Rattle.program_parts.specs.Parts.{next_hears}
use Rattle.program_rules.specs.Served.{Program, programs}
use Rattle.world_runs.specs.declared.event.Event.{Event}
use Rattle.world_runs.specs.declared.event.Event.TheVariants.{Own}
use Rattle.world_runs.specs.declared.event.Happening.{Happening}
use Rattle.world_runs.specs.declared.event.Happening.TheVariants.{Acted}
use Rattle.world_runs.specs.Actors.{Actor, Running, program_of, own_after}
use Rattle.world_runs.specs.Moments.{WorldState, after}
use Rattle.whole_runs.proofs.Actors.{changed_there}
use Rattle.whole_runs.proofs.Standings.{went_on_number}
use Rattle.session_runs.proofs.Standings.{command_part, runs_on_as}

-- the op runs, and stands so
pub record Runs (m : WorldState Program) (op : OpId) (at : Standing Program) : Type 0 where
  pub old : op.number ≤ (m.actors op.actor).number
  pub is : (m.actors op.actor).running ≡ Some record { op = op; at = at }

-- an op is itself
pub same_op : (a b : OpId) → a ≡ b → op_eq a b ≡ true
same_op a b e = grind (arith, e, op_eq_cases a b)

-- and it runs as that op
pub op_runs : (o : Option (Running Program)) (op : OpId) (at : Standing Program) → o ≡ Some record { op = op; at = at }
    → program_of o op ≡ Some record { op = op; at = at }
op_runs o op at e = rw (e, same_op op op refl) refl

-- the actor itself after its event
pub own_actor : (P : Actor Program → Type 0) (m : WorldState Program) (op : OpId) (h : Happening)
    → P (own_after programs m.counts (m.actors op.actor) op h) → P ((after programs m (Own op h)).actors op.actor)
own_actor P m op h is = changed_there P m.actors op.actor (own_after programs m.counts (m.actors op.actor) op h) is

-- a transaction of it, heard whole
abbrev pub acted : WorldState Program → OpId → AnyReq → Event
acted m op q = Own op (Acted q (store_reply m.store q) Whole)

-- after that it stands where its part goes on
pub runs_on : (m : WorldState Program) (op : OpId) (p : Program) (q : AnyReq) → Runs m op (Goes p)
    → Runs (after programs m (acted m op q)) op
    (Goes (next_hears command_part m.counts (m.actors op.actor).memory op p q (store_reply m.store q)))
runs_on m op p q r =
    let s : Actor Program = m.actors op.actor in
    let x : AnyReply = store_reply m.store q in
    record {
      old = own_actor (λ (a : Actor Program). op.number ≤ a.number) m op (Acted q x Whole)
          (rw (went_on_number programs m.counts s s.running q x Whole) r.old);
      is = own_actor
          (λ (a : Actor Program). a.running
          ≡ Some record { op = op; at = Goes (next_hears command_part m.counts s.memory op p q x) })
          m op (Acted q x Whole) (runs_on_as m.counts s s.running op p q x Whole r.is);
    }
