use Rattle.std.proofs.Common.{refl, subst}
use Rattle.clients.proofs.Following.{step_nearer}
use Rattle.clients.specs.Steps.{OwnStep}
use Rattle.racers.proofs.RacerLaws.{racer_steps}
use Rattle.racers.proofs.player.RacerPlayer.step.Goals as goal

pub returns-in-Ok-clause-step : goal.returns-in-Ok-clause-step
returns-in-Ok-clause-step g c =
    racer_steps g.P.Programs.rules g.C.Commits.counts c.args.self.now (record c.args.self.now { client = c.step.new.self }) c.args.at.now
    c.step.new.at c.requires.fits.1 c.in-Ok.ensures.counts c.in-Ok.ensures.life refl g.C.Commits.done c.requires.fits.0 c.in-Ok.turned
    c.in-Ok.ensures.step

pub returns-in-Ok-clause-nearer : goal.returns-in-Ok-clause-nearer
returns-in-Ok-clause-nearer g c = λ going.
    step_nearer g.P.Programs.rules g.C.Commits.done c.args.at.now c.step.new.at c.args.self.now.client c.step.new.self c.in-Ok.ensures.life
    (subst (OwnStep g.P.Programs.rules g.C.Commits.done c.args.at.now c.step.new.at c.args.self.now.client c.step.new.self) going
    c.in-Ok.ensures.step)
