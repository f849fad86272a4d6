use Rattle.std.proofs.Common.{arith, ap}
use Rattle.entry_words.specs.declared.entry.Moment.{Moment}
use Rattle.passes.specs.Logged.{Logged}
use Rattle.passes.proofs.Keeping.{IsPass-note}
use Rattle.passes.proofs.pass.Pass.add_note.Goals as goal

pub invariant_of-self : goal.invariant_of-self
invariant_of-self c = record {
  known =
      let p = c.args.self.now in
      IsPass-note p.actor p.clock p.steps p.bytes p.running c.args.running p.moments _ c.args.note p.known
      (ap (λ (m : Logged Moment). m.items) c.push.ensures)
      c.requires.running c.requires.own c.requires.cost c.requires.few
      (omega (arith, ap (λ (m : Logged Moment). m.spare) c.push.ensures, c.requires.room)) c.requires.early;
}
