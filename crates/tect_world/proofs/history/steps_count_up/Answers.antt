use Rattle.std.proofs.Common.{subst, arith}
use Rattle.std.specs.List.{All}
use Rattle.std.proofs.lemmas.List.{take_all}
use Rattle.std.proofs.lemmas.List.Elements.{All-more}
use Rattle.clients.specs.Lives.{ClientLife}
use Rattle.world_lives.specs.Told.{StepsCountUp}
use Rattle.world_lives.proofs.MomentsTold.{steps_of_pass}
use Rattle.tect_world.proofs.history.steps_count_up.Goals as goal

pub each-preserved : goal.each-preserved
each-preserved g c =
    All-more (λ (l : ClientLife). StepsCountUp l.moments) c.args.clients.now c.each.client-index c.client-item.result c.each-test.true
    c.each.invariant
    (subst (λ (l : ClientLife). StepsCountUp l.moments) c.client-item.is
    (steps_of_pass c.pass.result.now c.client-item.result.moments c.pass.ensures.pass.2))

pub returns : goal.returns
returns g c =
    subst (All (λ (l : ClientLife). StepsCountUp l.moments))
    (take_all c.each.client-index c.args.clients.now (omega (arith, c.each-test.false))) c.each.invariant
