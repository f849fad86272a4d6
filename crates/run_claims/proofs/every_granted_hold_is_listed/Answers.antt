use Rattle.run_claims.proofs.RunsKeep.{granted_at_each_moment as law}
use Rattle.run_claims.proofs.every_granted_hold_is_listed.Goals as goal

pub returns : goal.returns
returns c = law
