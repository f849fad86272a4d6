use Rattle.run_claims.proofs.RunsKeep.{sound_at_each_moment as law}
use Rattle.run_claims.proofs.every_moment_is_sound.Goals as goal

pub returns : goal.returns
returns c = law
