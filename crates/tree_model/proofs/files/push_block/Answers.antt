use Rattle.std.proofs.Common.{None, Some, arith}
use Rattle.tree_model.proofs.SameFiles.{same_files}
use Rattle.tree_model.proofs.files.push_block.Goals as goal

pub returns-in-None-clause-added : goal.returns-in-None-clause-added
returns-in-None-clause-added c = grind (arith, c.get_mut.follows, c.in-None.is, same_files c.args.files.now c.args.file None)

pub returns-in-Some-clause-unchanged : goal.returns-in-Some-clause-unchanged
returns-in-Some-clause-unchanged c = grind (
  arith,
  c.get_mut.follows,
  c.in-Some.is,
  c.push.ensures.err,
  same_files c.args.files.now c.args.file (Some c.in-Some.found.now),
)
