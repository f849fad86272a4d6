use Rattle.store_shards.proofs.Parts.{same_changes, same_reply}
use Rattle.store_shards.proofs.shards_reply_as_the_store.Goals as goal

pub returns-clause-reply : goal.returns-clause-reply
returns-clause-reply c counts parts whole q is = same_reply counts parts whole is q

pub returns-clause-changes : goal.returns-clause-changes
returns-clause-changes c counts parts whole q is = same_changes counts parts whole is q
