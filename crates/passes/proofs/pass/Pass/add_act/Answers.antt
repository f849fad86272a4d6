use Rattle.std.proofs.Common.{arith, ap, ◌+◌}
use Rattle.entry_words.specs.declared.entry.Moment.{Moment}
use Rattle.program_forms.specs.declared.heard.Heard.TheVariants.{Whole}
use Rattle.passes.specs.Logged.{Logged}
use Rattle.passes.proofs.Keeping.{IsPass-act, aside-le}
use Rattle.passes.proofs.pass.Pass.add_act.Goals as goal

pub invariant_of-self : goal.invariant_of-self
invariant_of-self c = record {
  known =
      let p = c.args.self.now in
      let spare = ap (λ (m : Logged Moment). m.spare) c.push.ensures in
      let one = aside-le p.running in
      IsPass-act p.actor p.clock p.steps p.bytes p.running p.moments _ c.args.entry Whole _ p.known
      (ap (λ (m : Logged Moment). m.items) c.push.ensures)
      c.requires.own.0 c.requires.own.1 c.requires.later (ap (λ n. p.bytes + n) c.bytes-bytes.ensures.bytes)
      (omega (arith, c.requires.few)) (omega (arith, spare, c.requires.room)) (omega (arith, c.requires.early, one));
}
