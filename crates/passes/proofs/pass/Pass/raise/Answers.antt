use Rattle.std.proofs.Common.{arith}
use Rattle.passes.proofs.Keeping.{IsPass-raised, aside-le}
use Rattle.passes.proofs.pass.Pass.raise.Goals as goal

pub invariant_of-self : goal.invariant_of-self
invariant_of-self c = record {
  known =
      let p = c.args.self.now in
      let max = c.max-self.ensures in
      IsPass-raised p.actor p.clock c.max-self.result p.steps p.bytes p.running p.moments p.known (omega (arith, max))
      (omega (arith, max, c.requires, p.known.early, aside-le p.running));
}
