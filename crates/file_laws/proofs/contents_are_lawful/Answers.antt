use Rattle.file_laws.proofs.Open.{open_laws}
use Rattle.file_laws.proofs.Append.{append_laws}
use Rattle.file_laws.proofs.Blocks.{blocks_laws}
use Rattle.file_laws.proofs.Read.{read_laws}
use Rattle.file_laws.proofs.contents_are_lawful.Goals as goal

pub returns-clause-opening : goal.returns-clause-opening
returns-clause-opening c = open_laws

pub returns-clause-append : goal.returns-clause-append
returns-clause-append c = append_laws

pub returns-clause-blocks : goal.returns-clause-blocks
returns-clause-blocks c = blocks_laws

pub returns-clause-read : goal.returns-clause-read
returns-clause-read c = read_laws
