use Rattle.run_claims.proofs.RunsKeep.{running_goes_on as law}
use Rattle.run_claims.proofs.running_goes_on.Goals as goal

pub returns : goal.returns
returns c = law
