use Rattle.store_shards.proofs.Parts.{one_store}
use Rattle.store_shards.proofs.shards_are_one_store.Goals as goal

pub returns : goal.returns
returns c = one_store
