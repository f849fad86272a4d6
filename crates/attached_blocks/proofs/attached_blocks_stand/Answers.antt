use Rattle.attached_blocks.proofs.Laws.{stand_so}
use Rattle.attached_blocks.proofs.attached_blocks_stand.Goals as goal

pub returns : goal.returns
returns c = stand_so
