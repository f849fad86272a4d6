use Rattle.noted_runs.proofs.Following.{clients_follow}
use Rattle.noted_runs.proofs.clients_follow.Goals as goal

pub returns : goal.returns
returns c = clients_follow
