use Rattle.all_shards.proofs.AtPlaces.{AllAt}
use Rattle.kept_shards.proofs.Started.{IsNew}
use Rattle.kept_shards.proofs.shards.KeptShards.start.Given as goal

abbrev pub invariant-loop-number : goal.invariant-loop-number
invariant-loop-number l = AllAt (IsNew l.counts) l.number l.kepts.items
