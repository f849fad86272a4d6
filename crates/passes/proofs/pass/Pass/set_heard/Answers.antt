use Rattle.std.proofs.Common.{ap}
use Rattle.entry_words.specs.declared.entry.Moment.{Moment}
use Rattle.passes.specs.Logged.{Logged}
use Rattle.passes.proofs.Hearing.{IsPass-heard}
use Rattle.passes.proofs.pass.Pass.set_heard.Goals as goal

pub invariant_of-self : goal.invariant_of-self
invariant_of-self c = record {
  known =
      let p = c.args.self.now in
      IsPass-heard c.args.heard p.actor p.clock p.steps p.bytes p.running p.moments _ p.known
      (ap (λ (m : Logged Moment). m.items) c.set_heard.ensures)
      (ap (λ (m : Logged Moment). m.spare) c.set_heard.ensures);
}
