use Rattle.tect_replay.proofs.Results.{on_ok}
use Rattle.tect_replay.proofs.Steps.{seat_begins}
use Rattle.tect_replay.proofs.seat.SeatPlayerWorld.begin.Goals as goal

pub returns-clause-begins : goal.returns-clause-begins
returns-clause-begins g c =
    on_ok c.begin.result (seat_begins g.P.Programs.rules c.args.self.now c.args.at.now c.begin.new.self c.args.command) c.begin.ensures.ok
