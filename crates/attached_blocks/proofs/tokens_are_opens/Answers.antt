use Rattle.attached_blocks.proofs.Laws.{opens_so}
use Rattle.attached_blocks.proofs.tokens_are_opens.Goals as goal

pub returns : goal.returns
returns c = opens_so
