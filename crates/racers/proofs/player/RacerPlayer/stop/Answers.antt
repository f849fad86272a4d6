use Rattle.std.proofs.Common.{refl}
use Rattle.racers.proofs.RacerLaws.{racer_stops}
use Rattle.racers.proofs.player.RacerPlayer.stop.Goals as goal

pub returns-clause-stops : goal.returns-clause-stops
returns-clause-stops g c =
    racer_stops g.P.Programs.rules g.C.Commits.counts c.args.self.now (record c.args.self.now { client = c.stop.new.self }) c.args._at.now
    c.args._at.now c.requires.fits.1 refl c.stop.ensures.life refl c.stop.ensures.stopped
