use Rattle.std.proofs.Common.{refl}
use Rattle.place_kit.proofs.Keeping.{same_kept}
use Rattle.place_kit.proofs.kept.Kept.reserve.Goals as goal

pub invariant_of-self : goal.invariant_of-self
invariant_of-self g c = record { kept = rw c.reserve.ensures.items c.args.self.now.kept; layered = c.args.self.now.layered }

pub returns-in-Err-clause-err : goal.returns-in-Err-clause-err
returns-in-Err-clause-err g c = same_kept g.row.M.coded _ c.args.self.now refl refl refl c.in-Err.ensures.err refl refl
