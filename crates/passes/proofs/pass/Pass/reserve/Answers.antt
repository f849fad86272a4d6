use Rattle.std.proofs.Common.{arith, refl}
use Rattle.passes.proofs.Keeping.{IsPass-room, same_pass}
use Rattle.passes.proofs.pass.Pass.reserve.Goals as goal

pub invariant_of-self : goal.invariant_of-self
invariant_of-self c = record {
  known =
      let p = c.args.self.now in
      IsPass-room p.actor p.clock p.steps p.bytes p.running p.moments _ p.known c.reserve.ensures.items
      (omega (arith, c.reserve.ensures.keeps, p.known.room));
}

pub returns-in-Err-clause-err : goal.returns-in-Err-clause-err
returns-in-Err-clause-err c = same_pass _ c.args.self.now refl refl refl refl refl c.in-Err.ensures.err
