use Rattle.attached_blocks.proofs.Laws.{opened_so}
use Rattle.attached_blocks.proofs.attaches_are_to_opened.Goals as goal

pub returns : goal.returns
returns c = opened_so
