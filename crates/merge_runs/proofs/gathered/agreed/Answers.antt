use Rattle.merge_runs.proofs.Agreement.{apart_disagrees}
use Rattle.merge_runs.proofs.Gathers.{apart_found, one_found}
use Rattle.merge_runs.proofs.gathered.agreed.Goals as goal

pub split-requires-clause-apart : goal.split-requires-clause-apart
split-requires-clause-apart c =
    apart_found c.args.kepts.now c.args.passes.now c.in_ok-order.order.items c.as_slice.result.now c.in_ok-apart.field-0
    c.in_ok-order.ensures.all c.as_slice.ensures.value c.in_ok-apart.ensures c.in-Some.apart c.in-Some.is

pub returns-in-Some-clause-memory : goal.returns-in-Some-clause-memory
returns-in-Some-clause-memory c = λ a. absurd (apart_disagrees c.args.kepts.now c.args.passes.now c.in-Some.apart.now
    (apart_found c.args.kepts.now c.args.passes.now c.in_ok-order.order.items c.as_slice.result.now c.in_ok-apart.field-0
    c.in_ok-order.ensures.all c.as_slice.ensures.value c.in_ok-apart.ensures c.in-Some.apart c.in-Some.is) a)

pub returns-clause-one : goal.returns-clause-one
returns-clause-one c =
    one_found c.args.kepts.now c.args.passes.now c.in_ok-order.order.items c.as_slice.result.now c.in_ok-apart.field-0
    c.in_ok-order.ensures.all c.as_slice.ensures.value c.in_ok-apart.ensures
    c.requires.places c.requires.actors c.in_ok-order.ensures.order c.in-None.is
