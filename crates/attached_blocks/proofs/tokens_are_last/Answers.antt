use Rattle.attached_blocks.proofs.Laws.{last_so}
use Rattle.attached_blocks.proofs.tokens_are_last.Goals as goal

pub returns : goal.returns
returns c = last_so
