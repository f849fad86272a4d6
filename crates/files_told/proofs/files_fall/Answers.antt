use Rattle.files_told.proofs.Falls.{open_falls, append_falls, blocks_fall, read_falls}
use Rattle.files_told.proofs.files_fall.Goals as goal

pub returns-clause-opens : goal.returns-clause-opens
returns-clause-opens c = open_falls

pub returns-clause-appends : goal.returns-clause-appends
returns-clause-appends c = append_falls

pub returns-clause-lists : goal.returns-clause-lists
returns-clause-lists c = blocks_fall

pub returns-clause-reads : goal.returns-clause-reads
returns-clause-reads c = read_falls
