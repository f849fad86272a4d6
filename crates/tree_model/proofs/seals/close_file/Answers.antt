use Rattle.std.proofs.Common.{None, arith}
use Rattle.tree_model.proofs.SameFiles.{same_files}
use Rattle.tree_model.proofs.seals.close_file.Goals as goal

pub returns-in_default : goal.returns-in_default
returns-in_default c = grind (arith, c.get_mut.follows, c.in_default.is, same_files c.args.files.now c.args.file None)
