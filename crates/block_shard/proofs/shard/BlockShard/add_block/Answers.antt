use Rattle.std.proofs.Common.{sym}
use Rattle.map_words.proofs.Results.{at_ok}
use Rattle.block_shard.proofs.IndexKept.{index_added, index_back, at_err}
use Rattle.block_shard.proofs.shard.BlockShard.add_block.Goals as goal

pub invariant_of-self-then-is_err : goal.invariant_of-self-then-is_err
invariant_of-self-then-is_err c =
    rw (at_err c.put.result (sym c.if-is_err.ensures.value) c.put.ensures.unchanged) (index_back c.self.inside.index c.self.inside.blocks
    c.args.blk c.self.invariant (rw c.self.view_is c.requires.new) c.args.rows.now c.list_rows.new.index c.in_ok-list_rows.ensures.listed
    c.take_rows.new.index c.take_rows.ensures)

pub invariant_of-self-else-is_err : goal.invariant_of-self-else-is_err
invariant_of-self-else-is_err c =
    rw (at_ok c.put.result (sym c.if-is_err.ensures.value) c.put.ensures.stored) (index_added c.self.inside.index c.self.inside.blocks
    c.args.blk c.self.invariant (rw c.self.view_is c.requires.new) c.args.rows.now c.list_rows.new.index c.in_ok-list_rows.ensures.listed
    c.args.block c.requires.rows)
