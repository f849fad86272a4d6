use Rattle.store_shards.proofs.Parts.{request_shard}
use Rattle.store_shards.proofs.each_request_has_a_shard.Goals as goal

pub returns : goal.returns
returns c = request_shard
