use Rattle.run_claims.proofs.RunsKeep.{running_is_last_begun as law}
use Rattle.run_claims.proofs.running_is_last_begun.Goals as goal

pub returns : goal.returns
returns c = law
