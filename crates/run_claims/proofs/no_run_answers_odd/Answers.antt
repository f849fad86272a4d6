use Rattle.run_claims.proofs.RunsKeep.{no_run_answers_odd as law}
use Rattle.run_claims.proofs.no_run_answers_odd.Goals as goal

pub returns : goal.returns
returns c = law
