use Rattle.std.proofs.Common.{Some, None}
use Rattle.tect_replay.proofs.Showing.{seat_played}
use Rattle.tect_replay.proofs.lines.play_act.Goals as goal

pub returns-in-Ok-None : goal.returns-in-Ok-None
returns-in-Ok-None g c name =
    seat_played g.P.Programs.rules c.args.clients.now name c.args.act.now (record { actor = c.args.actor }) c.play.new.player c.args.world.now c.play.new.at
    None
    (rw c.in-Ok-None.field-0-is at c.in-Ok-None.ensures.plays) c.in-Ok-None.ensures.fits.2

pub returns-in-Ok-Some : goal.returns-in-Ok-Some
returns-in-Ok-Some g c name =
    seat_played g.P.Programs.rules c.args.clients.now name c.args.act.now (record { actor = c.args.actor }) c.play.new.player c.args.world.now c.play.new.at
    (Some c.in-Ok-Some.line) (rw c.in-Ok-Some.field-0-is at c.in-Ok-Some.ensures.plays) c.in-Ok-Some.ensures.fits.2
