use Rattle.block_shard.proofs.MadeRows.{taken_back}
use Rattle.block_shard.proofs.indexed.list_rows.Goals as goal

pub returns-then-is_err-clause-unchanged : goal.returns-then-is_err-clause-unchanged
returns-then-is_err-clause-unchanged c =
    taken_back c.args.blk c.args.rows.now c.args.index.now c.put_rows.new.index c.take_rows.new.index c.requires c.put_rows.ensures.others
    c.take_rows.ensures
