use Rattle.files_told.proofs.Begins.{files_begin_so}
use Rattle.files_told.proofs.files_begin.Goals as goal

pub returns : goal.returns
returns c = files_begin_so
