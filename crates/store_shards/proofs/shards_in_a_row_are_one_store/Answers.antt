use Rattle.store_shards.proofs.Rows.{together_is}
use Rattle.store_shards.proofs.shards_in_a_row_are_one_store.Goals as goal

pub returns : goal.returns
returns c counts row whole places number is = together_is counts row whole places number is
