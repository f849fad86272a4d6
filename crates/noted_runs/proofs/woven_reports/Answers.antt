use Rattle.noted_runs.proofs.Shown.{woven_reports}
use Rattle.noted_runs.proofs.woven_reports.Goals as goal

pub returns : goal.returns
returns c = woven_reports
