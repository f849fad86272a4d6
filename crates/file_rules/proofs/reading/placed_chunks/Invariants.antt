use Rattle.std.proofs.Common.{◌≡◌, take}
use Rattle.file_rules.specs.Read.{placed_chunks}
use Rattle.file_rules.proofs.reading.placed_chunks.Given as goal

abbrev pub invariant-loop-row : goal.invariant-loop-row
invariant-loop-row l = l.chunks ≡ placed_chunks l.blk (take l.row-index l.rows)
