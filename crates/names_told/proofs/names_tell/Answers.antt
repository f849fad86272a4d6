use Rattle.names_told.proofs.NamesTell.{names_tell_so}
use Rattle.names_told.proofs.names_tell.Goals as goal

pub returns : goal.returns
returns c = names_tell_so
