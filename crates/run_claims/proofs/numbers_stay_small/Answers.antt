use Rattle.run_claims.proofs.RunsKeep.{numbers_stay_small as law}
use Rattle.run_claims.proofs.numbers_stay_small.Goals as goal

pub returns : goal.returns
returns c = law
