use Rattle.std.proofs.Common.{arith}
use Rattle.merge_runs.proofs.Taking.{takes_entry}
use Rattle.merge_runs.proofs.agree.take_entry.Goals as goal

pub returns-in-Ok : goal.returns-in-Ok
returns-in-Ok c =
    takes_entry c.args.lists.now.items c.args.entry.now c.index.result.now c.in-Ok.rest (omega arith) c.index.ensures c.in-Ok.ensures
