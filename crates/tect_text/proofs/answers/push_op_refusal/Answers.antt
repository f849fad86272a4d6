use Rattle.std.proofs.Common.{append_assoc}
use Rattle.tect_text.proofs.answers.push_op_refusal.Goals as goal

pub returns-in-TokenChanged-clause-ok : goal.returns-in-TokenChanged-clause-ok
returns-in-TokenChanged-clause-ok c = rw c.in-TokenChanged.is (rw append_assoc at c.push_op-in-TokenChanged.ensures.ok)
