use Rattle.std.proofs.Common.{rules}
use Rattle.tect_edge.proofs.memory_sink.BytesSinkSink.put.Goals as goal
use Rattle.tect_edge.proofs.memory_sink.BytesSinkSink.put.Goals.{then-contains-via-then-contains}
use Rattle.tect_edge.proofs.memory_sink.BytesSinkSink.put.Goals.{then-contains-via-else-contains+then-is_err}

pub returns-then-contains-clause-wanting : goal.returns-then-contains-clause-wanting
returns-then-contains-clause-wanting c failed unlisted =
    elim c.then-contains.branch [
      | then-contains-via-then-contains w ↦ absurd (unlisted (search rules))
      | then-contains-via-else-contains+then-is_err w ↦ search rules
    ]
