use Rattle.std.proofs.Common.{◌≡◌, is_some}
use Rattle.tect_world.proofs.Worlds.{from_client}
use Rattle.tect_world.proofs.world.World.is_running.Goals as goal

pub returns-clause-running : goal.returns-clause-running
returns-clause-running g c =
    rw (← c.self.view_is)
    (from_client g.P.Programs.rules c.self.inside c.args.actor c.index.result.now c.self.invariant c.requires.0 c.requires.1
    c.index.ensures
    (λ x. c.is_running.result ≡ is_some x.running) c.is_running.ensures.running)
