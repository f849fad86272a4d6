use Rattle.files_told.proofs.Append.{append_tells}
use Rattle.files_told.proofs.Blocks.{blocks_tell}
use Rattle.files_told.proofs.Open.{open_tells}
use Rattle.files_told.proofs.Read.{read_tells}
use Rattle.files_told.proofs.files_tell.Goals as goal

pub returns-clause-opens : goal.returns-clause-opens
returns-clause-opens c = open_tells

pub returns-clause-appends : goal.returns-clause-appends
returns-clause-appends c = append_tells

pub returns-clause-lists : goal.returns-clause-lists
returns-clause-lists c = blocks_tell

pub returns-clause-reads : goal.returns-clause-reads
returns-clause-reads c = read_tells
