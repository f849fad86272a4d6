use Rattle.std.proofs.Common.{None, arith}
use Rattle.file_shard.proofs.SameFiles.{same_files}
use Rattle.file_shard.proofs.seals.close.Goals as goal

pub returns-in_default : goal.returns-in_default
returns-in_default c = grind (arith, c.get_mut.follows, c.in_default.is, same_files c.args.files.now c.args.file None)
