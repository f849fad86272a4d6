-- What a commit says of the machine, whether it was done or refused.
use Rattle.std.proofs.Common.{◌≡◌, Result, Ok, Err, IfOk, OnOk, ap}
use Rattle.std.specs.Prelude.{OnErr}
use Rattle.store_rules.specs.declared.any.AnyReq.{AnyReq}
use Rattle.store_rules.specs.declared.any.AnyReply.{AnyReply}
use Rattle.place_kit.specs.declared.kept.Kept.{Kept}
use Rattle.place_kit.specs.declared.machine.Machine.{Ghosts}
use Rattle.passes.specs.declared.pass.Pass.{Pass}
use Rattle.place_kit.specs.Committed.{Committed}

module _ {X Y Z R E : Type 0} {g : Ghosts X Y Z} (old new : Kept X Y Z g) (before now : Pass) (req : AnyReq) (wide : R → AnyReply) where
  pub label_stays : (result : Result R E) → IfOk result (λ r. Committed old new before now req (wide r))
      → OnErr result ((new ≡ old) × (now ≡ before)) → new.label ≡ old.label
  label_stays (Ok r) done kept = done.served.label
  label_stays (Err e) done kept = ap (λ (k : Kept X Y Z g). k.label) kept.0

  pub machine_after : (result : Result R E) → IfOk result (λ r. Committed old new before now req (wide r))
      → OnOk result (new.machine ≡ g.after old.machine req)
  machine_after (Ok r) done = done.served.state
  machine_after (Err e) done = tt
