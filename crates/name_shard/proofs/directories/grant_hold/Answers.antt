use Rattle.std.proofs.Common.{None, Some, arith}
use Rattle.name_shard.proofs.SameDirs.{same_dirs}
use Rattle.name_shard.proofs.directories.grant_hold.Goals as goal

pub returns-in-None-clause-listed : goal.returns-in-None-clause-listed
returns-in-None-clause-listed c = grind (arith, c.get_mut.follows, c.in-None.is, same_dirs c.args.dirs.now c.args.dir None)

pub returns-in-Some-clause-unchanged : goal.returns-in-Some-clause-unchanged
returns-in-Some-clause-unchanged c = grind (
  arith,
  c.get_mut.follows,
  c.in-Some.is,
  c.grant.ensures.err,
  same_dirs c.args.dirs.now c.args.dir (Some c.in-Some.directory.now),
)
