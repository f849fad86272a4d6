use Rattle.std.proofs.Common.{◌≡◌, ◌+◌, ◌<◌, ◌^◌, false}
use Rattle.std.specs.Prelude.{IsNone, IsTrue}
use Rattle.tect_world.proofs.Worlds.{from_client}
use Rattle.tect_world.proofs.world.World.can_begin.Goals as goal

pub returns-clause-idle : goal.returns-clause-idle
returns-clause-idle g c =
    rw (← c.self.view_is)
    (λ h. from_client g.P.Programs.rules c.self.inside c.args.actor c.index.result.now c.self.invariant c.requires.0 c.requires.1
    c.index.ensures
    (λ x. IsNone x.running) (c.can_begin.ensures.idle h))

pub returns-clause-goes_on : goal.returns-clause-goes_on
returns-clause-goes_on g c =
    rw (← c.self.view_is)
    (λ h. from_client g.P.Programs.rules c.self.inside c.args.actor c.index.result.now c.self.invariant c.requires.0 c.requires.1
    c.index.ensures
    (λ x. x.stopped ≡ false) (c.can_begin.ensures.goes_on h))

pub returns-clause-few : goal.returns-clause-few
returns-clause-few g c =
    rw (← c.self.view_is)
    (λ h. from_client g.P.Programs.rules c.self.inside c.args.actor c.index.result.now c.self.invariant c.requires.0 c.requires.1
    c.index.ensures
    (λ x. x.number + 1 < 2 ^ 31) (c.can_begin.ensures.few h))

pub returns-clause-may : goal.returns-clause-may
returns-clause-may g c =
    rw (← c.self.view_is)
    (from_client g.P.Programs.rules c.self.inside c.args.actor c.index.result.now c.self.invariant c.requires.0 c.requires.1
    c.index.ensures
    (λ x. IsNone x.running → x.stopped ≡ false → x.number + 1 < 2 ^ 31 → IsTrue c.can_begin.result) c.can_begin.ensures.may)
