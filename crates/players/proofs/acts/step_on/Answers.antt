use Rattle.std.proofs.Common.{Option, subst}
use Rattle.tect_ids.specs.declared.answer.Answer.{Answer}
use Rattle.players.specs.Players.{op_at, StepsUpTo}
use Rattle.players.proofs.Results.{not_running, is_running}
use Rattle.players.proofs.Playing.{steps_nothing, steps_on, steps_to_end}
use Rattle.players.proofs.acts.step_on.Goals as goal

pub returns-then-not-is_running-clause-plays : goal.returns-then-not-is_running-clause-plays
returns-then-not-is_running-clause-plays g c =
    steps_nothing g.P.Programs.rules g.L.Player.counts g.L.Player.fits g.L.Player.actor g.L.Player.history g.L.Player.state g.L.Player.grows
    c.note_laws.ensures c.args.names.now c.args.player.now c.args.at.now c.requires.fits
    (not_running (g.L.Player.state c.args.player.now c.args.at.now).running c.is_running.result c.is_running.ensures
    c.if-not-is_running.true) c.args.count c.requires.goes_on

pub returns-in-None-clause-plays : goal.returns-in-None-clause-plays
returns-in-None-clause-plays g c =
    steps_on g.P.Programs.rules g.L.Player.counts g.L.Player.fits g.L.Player.actor g.L.Player.history g.L.Player.state g.L.Player.grows
    c.note_laws.ensures
    c.args.names.now c.args.count c.args.player.now c.step_up_to.new.player c.args.at.now c.step_up_to.new.at c.requires.fits
    c.in_ok-step_up_to.ensures.fits
    (is_running (g.L.Player.state c.args.player.now c.args.at.now).running c.is_running.result c.is_running.ensures
    c.if-not-is_running.false)
    c.requires.goes_on
    (subst (λ (o : Option Answer). StepsUpTo (g.L.Player.grows c.args.player.now c.args.at.now c.step_up_to.new.player c.step_up_to.new.at)
    (op_at (g.L.Player.actor c.args.player.now) (g.L.Player.state c.args.player.now c.args.at.now)) c.args.count o) c.in-None.is
    c.in_ok-step_up_to.ensures.steps)

pub returns-in_ok-answer_line-in-Some-clause-plays : goal.returns-in_ok-answer_line-in-Some-clause-plays
returns-in_ok-answer_line-in-Some-clause-plays g c =
    let end = subst
    (λ (o : Option Answer). StepsUpTo (g.L.Player.grows c.args.player.now c.args.at.now c.step_up_to.new.player c.step_up_to.new.at)
    (op_at (g.L.Player.actor c.args.player.now) (g.L.Player.state c.args.player.now c.args.at.now)) c.args.count o) c.in-Some.is
    c.in_ok-step_up_to.ensures.steps in
    steps_to_end g.P.Programs.rules g.L.Player.counts g.L.Player.fits g.L.Player.actor g.L.Player.history g.L.Player.state
    g.L.Player.grows c.note_laws.ensures
    c.args.names.now c.args.player.now c.step_up_to.new.player c.args.at.now c.step_up_to.new.at
    c.in-Some.answer end.comes c.in_ok-answer_line-in-Some.field-0 c.in_ok-answer_line-in-Some.ensures c.requires.fits
    (is_running (g.L.Player.state c.args.player.now c.args.at.now).running c.is_running.result c.is_running.ensures
    c.if-not-is_running.false) c.requires.goes_on c.args.count end.few
