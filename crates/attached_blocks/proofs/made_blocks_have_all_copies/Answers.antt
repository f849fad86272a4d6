use Rattle.attached_blocks.proofs.Laws.{copies_so}
use Rattle.attached_blocks.proofs.made_blocks_have_all_copies.Goals as goal

pub returns : goal.returns
returns c = copies_so
