use Rattle.tect_replay.proofs.SeatLaws.{seat_laws}
use Rattle.tect_replay.proofs.seat.SeatPlayerWorld.note_laws.Goals as goal

pub returns : goal.returns
returns g c = seat_laws g.P.Programs.rules
