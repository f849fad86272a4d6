use Rattle.std.proofs.Common.{Some}
use Rattle.block_shard.proofs.MadeRows.{no_rows, rows_more, others_stay}
use Rattle.block_shard.proofs.indexed.put_rows.Goals as goal

pub loop-row-init : goal.loop-row-init
loop-row-init c = no_rows c.args.blk (Some tt) c.args.index.now

pub returns-in_err-put-clause-others : goal.returns-in_err-put-clause-others
returns-in_err-put-clause-others c =
    rw c.in_err-put.ensures.unchanged (others_stay c.args.blk c.args.rows.now c.loop-row.row-index (Some tt) c.args.index.now c.loop-row.index
    c.loop-row.invariant)

pub loop-row-preserved : goal.loop-row-preserved
loop-row-preserved c =
    rw c.in_ok-put.ensures.listed (rows_more c.args.blk c.args.rows.now c.loop-row.row-index _ (Some tt) c.args.index.now c.loop-row.index
    c.loop-row-test.true c.loop-row.invariant)
