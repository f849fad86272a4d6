use Rattle.whole_runs.proofs.Limits.{own_limits_make_limits}
use Rattle.noted_runs.proofs.own_limits_make_limits.Goals as goal

pub returns : goal.returns
returns g c P = own_limits_make_limits P
