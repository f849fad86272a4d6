use Rattle.std.proofs.Common.{subst}
use Rattle.world_lives.specs.Life.{present, last_op}
use Rattle.world_lives.specs.Steps.{Stepped}
use Rattle.tect_replay.proofs.Steps.{seat_steps, seat_nearer}
use Rattle.tect_replay.proofs.seat.SeatPlayerWorld.step.Goals as goal

pub returns-in-Ok-clause-step : goal.returns-in-Ok-clause-step
returns-in-Ok-clause-step g c =
    seat_steps g.P.Programs.rules c.args.self.now c.args.at.now c.step.new.self c.in-Ok.turned c.in-Ok.ensures.ok

pub returns-in-Ok-clause-nearer : goal.returns-in-Ok-clause-nearer
returns-in-Ok-clause-nearer g c = λ going.
    seat_nearer g.P.Programs.rules c.args.self.now c.args.at.now c.step.new.self
    (record { run = c.in-Ok.ensures.run; limits = c.in-Ok.ensures.limits })
    (subst (Stepped g.P.Programs.rules c.args.at.now c.step.new.self
    (last_op (present g.P.Programs.rules c.args.at.now) c.args.self.now.actor)) going c.in-Ok.ensures.ok)
