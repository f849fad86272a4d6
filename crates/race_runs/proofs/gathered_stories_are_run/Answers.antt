use Rattle.race_runs.proofs.Gathered.{gathered_stories_are_run}
use Rattle.race_runs.proofs.gathered_stories_are_run.Goals as goal

pub returns : goal.returns
returns g c P = gathered_stories_are_run P
