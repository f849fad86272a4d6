use denote.Param.Send.{sendable}
use Rattle.std.proofs.Crossing.{crosses}
use Rattle.tect_edge.proofs.meet_gate.MeetGate.TheSendSync as gate
use Rattle.place_locks.proofs.Crossing.{Places-sync}
use Rattle.place_locks.proofs.tests.workers_are_inside_two_places_at_once.Goals as goal

pub join-first-requires-send-F : goal.join-first-requires-send-F
join-first-requires-send-F g c κs within = search (sendable, crosses, gate.the_sync, Places-sync) depth 40 fits 4000
