use Rattle.std.proofs.Common.{◌≡◌, ◌-◌, ◌++◌, ◌∙◌, ap, min, length, take, rules}
use Rattle.std.specs.Result.{IsOk}
use Rattle.tect_edge.proofs.Keeping.{keeps_first}
use Rattle.tect_edge.proofs.memory_sink.SureSinkSink.put.Goals as goal

-- there is memory for the room, so the extension took the front of the piece
pub returns-clause-after : goal.returns-clause-after
returns-clause-after c =
    let kept = c.self.inside.bytes.items in
    let room = c.self.inside.room in
    let piece = c.args.piece.now in
    let whole : IsOk c.extend_from_slice.result = search rules in
    let count : c.min-count.result ≡ min (length piece) (room - length kept) = search rules in
    rw (← c.self.view_is) (ap (λ l. record { room = room; kept = l })
    (rw whole at c.extend_from_slice.ensures.items ∙ ap (λ n. kept ++ take n piece) count ∙ keeps_first room kept piece c.self.invariant.0))
