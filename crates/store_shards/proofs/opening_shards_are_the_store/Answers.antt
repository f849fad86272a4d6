use Rattle.store_shards.proofs.Parts.{opening_whole}
use Rattle.store_shards.proofs.opening_shards_are_the_store.Goals as goal

pub returns : goal.returns
returns c = opening_whole
