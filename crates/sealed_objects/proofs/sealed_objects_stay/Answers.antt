use Rattle.sealed_objects.proofs.Stays.{objects_stay}
use Rattle.sealed_objects.proofs.sealed_objects_stay.Goals as goal

pub returns : goal.returns
returns c = objects_stay
