use Rattle.std.proofs.Common.{◌++◌, arith, length-append}
use Rattle.std.proofs.KnownBytes.{Consumes-trans}
use Rattle.tect_edge.proofs.reading.read_input.Goals as goal

-- the bytes so far, and what the last call took
pub returns-in_err-read_more-clause-taken : goal.returns-in_err-read_more-clause-taken
returns-in_err-read_more-clause-taken g c =
    let bytes = c.turns.bytes.items in
    let taken = c.read_more.ensures.taken in (
      bytes ++ taken.0,
      Consumes-trans _ _ _ bytes taken.0 c.turns.invariant.consumed taken.1,
      omega (arith, taken.2, c.turns.bytes.ok.0, length-append bytes taken.0),
      omega (arith, c.read_more.ensures.call, c.turns.invariant.calls, length-append bytes taken.0),
    )
