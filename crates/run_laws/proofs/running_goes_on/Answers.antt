use Rattle.run_laws.proofs.RunsKeep.{running_goes_on as law}
use Rattle.run_laws.proofs.running_goes_on.Goals as goal

pub returns : goal.returns
returns g c P = law P
