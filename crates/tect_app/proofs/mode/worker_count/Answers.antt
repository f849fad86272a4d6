use Rattle.tect_app.proofs.Words.{workers_spelled, workers_not_spelled}
use Rattle.tect_app.proofs.mode.worker_count.Goals as goal

pub returns-then-workers-le-MAX_WORKERS-clause-some : goal.returns-then-workers-le-MAX_WORKERS-clause-some
returns-then-workers-le-MAX_WORKERS-clause-some c =
    workers_spelled c.args.word.now c.read_number-workers.result
    (rw c.as_bytes.ensures.value at c.read_number-workers.ensures.numeral)
    (rw c.as_bytes.ensures.value at c.read_number-workers.ensures.other)
    c.if-workers-ge1.true c.if-workers-le-MAX_WORKERS.true

pub returns-else-workers-ge1-clause-none : goal.returns-else-workers-ge1-clause-none
returns-else-workers-ge1-clause-none c none =
    workers_not_spelled c.args.word.now c.read_number-workers.result (rw c.as_bytes.ensures.value at c.read_number-workers.ensures.numeral)
    c.else-workers-ge1.either
