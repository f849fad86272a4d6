use Rattle.std.proofs.Common.{refl}
use Rattle.players.proofs.Results.{on_ok_both}
use Rattle.racers.proofs.RacerLaws.{racer_begins}
use Rattle.racers.proofs.player.RacerPlayer.begin.Goals as goal

pub returns-clause-begins : goal.returns-clause-begins
returns-clause-begins g c =
    on_ok_both c.begin.result
    (λ begins more. racer_begins g.P.Programs.rules g.C.Commits.counts c.args.self.now
    (record c.args.self.now { client = c.begin.new.self })
    c.args._at.now c.args._at.now c.requires.fits.1 refl c.begin.ensures.life refl c.args.command begins)
    c.begin.ensures.ok c.begin.ensures.ok
