use Rattle.racers.proofs.RacerLaws.{racer_laws}
use Rattle.racers.proofs.player.RacerPlayer.note_laws.Goals as goal

pub returns : goal.returns
returns g c = racer_laws g.P.Programs.rules g.C.Commits.counts
