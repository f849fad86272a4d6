use Rattle.std.proofs.Common.{None}
use Rattle.block_shard.proofs.MadeRows.{no_rows, rows_more}
use Rattle.block_shard.proofs.indexed.take_rows.Goals as goal

pub loop-row-init : goal.loop-row-init
loop-row-init c = no_rows c.args.blk None c.args.index.now

pub loop-row-preserved : goal.loop-row-preserved
loop-row-preserved c =
    rw c.take.ensures (rows_more c.args.blk c.args.rows.now c.loop-row.row-index _ None c.args.index.now c.loop-row.index
    c.loop-row-test.true c.loop-row.invariant)
