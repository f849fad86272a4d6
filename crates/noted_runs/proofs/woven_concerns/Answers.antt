use Rattle.noted_runs.proofs.Weaving.{woven_concerns, woven_replies}
use Rattle.noted_runs.proofs.woven_concerns.Goals as goal

pub returns-clause-concerns : goal.returns-clause-concerns
returns-clause-concerns c = woven_concerns

pub returns-clause-replies : goal.returns-clause-replies
returns-clause-replies c = woven_replies
