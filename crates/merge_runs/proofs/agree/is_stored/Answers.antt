use Rattle.merge_runs.proofs.Known.{stored_by, stored_nowhere}
use Rattle.merge_runs.proofs.agree.is_stored.Goals as goal

pub returns-then-at-kepts : goal.returns-then-at-kepts
returns-then-at-kepts c = stored_by c.args.kepts.now c.args.entry.now c.index-kepts-at.result c.place_has.result
    c.requires c.if-at-kepts.true c.index-kepts-at.is c.place_has.ensures

pub returns-else-at-kepts : goal.returns-else-at-kepts
returns-else-at-kepts c = stored_nowhere c.args.kepts.now c.args.entry.now c.requires c.if-at-kepts.false
