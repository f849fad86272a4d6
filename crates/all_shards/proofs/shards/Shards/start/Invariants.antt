use Rattle.all_shards.proofs.AtPlaces.{AllAt}
use Rattle.all_shards.proofs.Stepped.{IsOpening}
use Rattle.all_shards.proofs.shards.Shards.start.Given as goal

abbrev pub invariant-loop-number : goal.invariant-loop-number
invariant-loop-number l = AllAt (IsOpening l.counts) l.number l.machines.items
