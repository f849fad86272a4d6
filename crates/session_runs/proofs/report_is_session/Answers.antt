use Rattle.session_runs.proofs.Scripts.{session_reported}
use Rattle.session_runs.proofs.report_is_session.Goals as goal

pub returns : goal.returns
returns c = session_reported
