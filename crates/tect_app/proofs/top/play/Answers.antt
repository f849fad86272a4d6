use Rattle.replay_claims.proofs.Shown.{replay_shown, replay_cut}
use Rattle.tect_app.proofs.top.play.Goals as goal

pub returns-in-Ok-clause-whole : goal.returns-in-Ok-clause-whole
returns-in-Ok-clause-whole g c done = replay_shown c.args.plan.now _ _ c.requires c.in-Ok.ensures.whole

pub returns-in-Err-NoMemory-clause-cut : goal.returns-in-Err-NoMemory-clause-cut
returns-in-Err-NoMemory-clause-cut g c not_done = replay_cut c.args.plan.now _ _ c.requires c.in-Err-NoMemory.ensures.cut

pub returns-in-Err-Failed-clause-cut : goal.returns-in-Err-Failed-clause-cut
returns-in-Err-Failed-clause-cut g c not_done = replay_cut c.args.plan.now _ _ c.requires c.in-Err-Failed.ensures.cut
