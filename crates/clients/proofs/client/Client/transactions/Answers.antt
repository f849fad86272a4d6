use Rattle.std.proofs.Common.{arith}
use Rattle.clients.specs.Lives.{op_in}
use Rattle.clients.specs.ClientInside.{life_of}
use Rattle.clients.proofs.Few.{few_transactions}
use Rattle.clients.proofs.Lives.{is_life}
use Rattle.clients.proofs.client.Client.transactions.Goals as goal

pub returns-clause-few : goal.returns-clause-few
returns-clause-few g c =
    let P = g.P.Programs.rules in
    let a = c.self.inside in
    let life = is_life P a c.self.invariant in
    omega (
      arith,
      c.self.invariant.counted,
      few_transactions a.pass.moments.items a.refused.items (op_in P (life_of a)) 65536 life.few
          c.self.invariant.silent,
    )
