use Rattle.session_runs.proofs.Sessions.{session_can}
use Rattle.session_runs.proofs.each_session_can_be_run.Goals as goal

pub returns : goal.returns
returns c = session_can
