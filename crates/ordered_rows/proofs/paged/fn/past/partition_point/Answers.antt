use Rattle.std.proofs.Common.{refl}
use Rattle.std.proofs.lemmas.Fn.{says_at}
use Rattle.ordered_rows.proofs.paged.fn.past.partition_point.Goals as goal

pub returns : goal.returns
returns g c = says_at _ c.test.ensures refl
