-- Threads may share the places. A search for it alone stops at its limits.
use denote.Param.Send.{IsSync, sendable}
use Rattle.std.proofs.Crossing.{crosses}
use Rattle.place_kit.proofs.Crossing.{AnyKept-send}
use Rattle.tect_ids.proofs.ids.Counts.TheSendSync as counts
use Rattle.place_locks.specs.contracts.places.Places.{the_row}

pub Places-sync : IsSync the_row
Places-sync = search (sendable, crosses, counts.the_sync, AnyKept-send) depth 20
