use Rattle.std.proofs.Common.{None, arith}
use Rattle.name_shard.proofs.SameDirs.{same_dirs}
use Rattle.name_shard.proofs.directories.close.Goals as goal

pub returns-in_default : goal.returns-in_default
returns-in_default c = grind (arith, c.get_mut.follows, c.in_default.is, same_dirs c.args.dirs.now c.args.dir None)
