use Rattle.store_shards.proofs.Parts.{after_whole, opening_whole, same_replies}
use Rattle.store_shards.proofs.opening_shards_stay_the_store.Goals as goal

pub returns-clause-whole : goal.returns-clause-whole
returns-clause-whole c counts qs = after_whole counts _ _ qs (opening_whole counts)

pub returns-clause-replies : goal.returns-clause-replies
returns-clause-replies c counts qs = same_replies counts _ _ qs (opening_whole counts)
