-- The passes of the clients of a race.
use Rattle.std.specs.Prelude.{◌≡◌}
use Rattle.passes.specs.declared.pass.Pass.{Pass}
use Rattle.racers.specs.declared.racer.Racer.{Racer}

-- it is what the client noted
pub record IsPassOf {S : Type 0} (r : Racer S) (p : Pass) : Type 0 where
  pub actor : p.actor ≡ r.client.actor
  pub moments : p.moments.items ≡ r.client.moments
