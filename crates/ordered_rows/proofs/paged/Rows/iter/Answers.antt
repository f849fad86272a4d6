use Rattle.ordered_rows.proofs.InPages.{none_empty}
use Rattle.ordered_rows.proofs.paged.Rows.iter.Goals as goal

pub new-requires : goal.new-requires
new-requires g c = rw c.deref.ensures.value (none_empty c.self.inside.pages.items c.self.invariant.paged)

pub returns-clause-rising : goal.returns-clause-rising
returns-clause-rising g c = rw (← c.self.view_is) c.self.invariant.rising
