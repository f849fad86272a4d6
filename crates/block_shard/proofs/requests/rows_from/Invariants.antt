use Rattle.std.proofs.Common.{◌≡◌, map, reverse}
use Rattle.store_rules.specs.Blocks.{rows_from}
use Rattle.block_shard.proofs.requests.rows_from.Given as goal

abbrev pub invariant-loop-row : goal.invariant-loop-row
invariant-loop-row l = l.made ≡ rows_from (reverse (map (λ row. row.now) l.yielded))
