use Rattle.std.proofs.Common.{append_assoc}
use Rattle.tect_text.proofs.answers.push_number_refusal.Goals as goal

pub returns-in-HistoryFull-clause-ok : goal.returns-in-HistoryFull-clause-ok
returns-in-HistoryFull-clause-ok c = rw c.in-HistoryFull.is (rw append_assoc at c.push_number-in-HistoryFull.ensures.ok)
