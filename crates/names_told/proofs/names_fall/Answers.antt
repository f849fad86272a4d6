use Rattle.names_told.proofs.Falls.{names_fall_so, reading_falls_so}
use Rattle.names_told.proofs.names_fall.Goals as goal

pub returns : goal.returns
returns c = record { asked = names_fall_so; listed = reading_falls_so }
