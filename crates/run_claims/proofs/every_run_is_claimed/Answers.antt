use Rattle.run_claims.proofs.Claims.{every_run_is_claimed}
use Rattle.run_claims.proofs.every_run_is_claimed.Goals as goal

pub returns : goal.returns
returns c = every_run_is_claimed
