use Rattle.store_shards.proofs.Parts.{after_whole, same_replies}
use Rattle.store_shards.proofs.shards_stay_the_store.Goals as goal

pub returns-clause-whole : goal.returns-clause-whole
returns-clause-whole c = after_whole

pub returns-clause-replies : goal.returns-clause-replies
returns-clause-replies c = same_replies
