use Rattle.std.proofs.Common.{refl, sym, ◌∙◌}
use Rattle.std.proofs.lemmas.Fn.{says_at}
use Rattle.ordered_rows.proofs.Starts.{starts_some, starts_none}
use Rattle.ordered_rows.proofs.paged.fn.Rows.seek_past.partition_point.Goals as goal

pub returns-in-Some : goal.returns-in-Some
returns-in-Some g c p tests =
    let first = starts_some p c.deref.result.now c.in-Some.pair.now c.in-Some.ensures.value in
    rw (← c.deref.ensures.value) (tests c.in-Some.pair.now.0 c.test.result (says_at _ c.test.ensures refl) ∙ sym first)

pub returns-in-None : goal.returns-in-None
returns-in-None g c p tests = rw (← c.deref.ensures.value) (sym (starts_none p c.deref.result.now c.in-None.ensures.value))
