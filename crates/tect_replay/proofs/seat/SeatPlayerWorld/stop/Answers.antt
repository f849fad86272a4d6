use Rattle.tect_replay.proofs.Steps.{seat_stops}
use Rattle.tect_replay.proofs.seat.SeatPlayerWorld.stop.Goals as goal

pub returns-clause-stops : goal.returns-clause-stops
returns-clause-stops g c =
    seat_stops g.P.Programs.rules c.args.self.now c.args.at.now c.stop.new.self (c.stop.ensures.stops c.requires.running)
