use Rattle.file_laws.proofs.Begins.{open_begins_laws, append_begins, blocks_begins_laws, read_begins_laws}
use Rattle.file_laws.proofs.contents_begin_lawfully.Goals as goal

pub returns-clause-opening : goal.returns-clause-opening
returns-clause-opening c path = open_begins_laws path

pub returns-clause-append : goal.returns-clause-append
returns-clause-append c = append_begins

pub returns-clause-blocks : goal.returns-clause-blocks
returns-clause-blocks c = blocks_begins_laws

pub returns-clause-read : goal.returns-clause-read
returns-clause-read c = read_begins_laws
