use Rattle.std.proofs.Common.{arith, ap}
use Rattle.entry_words.specs.declared.entry.Moment.{Moment}
use Rattle.passes.specs.Logged.{Logged}
use Rattle.passes.proofs.Keeping.{IsPass-room}
use Rattle.passes.proofs.pass.Pass.lower.Goals as goal

pub invariant_of-self : goal.invariant_of-self
invariant_of-self c = record {
  known =
      let p = c.args.self.now in
      IsPass-room p.actor p.clock p.steps p.bytes p.running p.moments _ p.known (ap (λ (m : Logged Moment). m.items) c.lower.ensures)
      (omega (arith, ap (λ (m : Logged Moment). m.spare) c.lower.ensures, c.aside-aside.ensures));
}
