use Rattle.std.proofs.Common.{rules}
use Rattle.tect_ids.specs.Keys.{op_eq}
use Rattle.tree_model.proofs.files.holds_token.Goals as goal

pub returns-in-Some : goal.returns-in-Some
unfolding op_eq
returns-in-Some c = search rules
