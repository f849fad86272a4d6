use Rattle.store_shards.proofs.Parts.{step_whole}
use Rattle.store_shards.proofs.shards_step_as_the_store.Goals as goal

pub returns : goal.returns
returns c counts parts whole q is = step_whole counts parts whole is q
