use Rattle.players.proofs.Results.{not_running, is_running}
use Rattle.players.proofs.Playing.{runs_nothing, runs_on}
use Rattle.players.proofs.acts.run_on.Goals as goal

pub returns-then-not-is_running-clause-plays : goal.returns-then-not-is_running-clause-plays
returns-then-not-is_running-clause-plays g c =
    runs_nothing g.P.Programs.rules g.L.Player.counts g.L.Player.fits g.L.Player.actor g.L.Player.history g.L.Player.state
    g.L.Player.grows c.note_laws.ensures
    c.args.names.now c.args.player.now c.args.at.now c.requires.fits
    (not_running (g.L.Player.state c.args.player.now c.args.at.now).running c.is_running.result c.is_running.ensures
    c.if-not-is_running.true) c.requires.goes_on

pub returns-clause-plays : goal.returns-clause-plays
returns-clause-plays g c =
    runs_on g.P.Programs.rules g.L.Player.counts g.L.Player.fits g.L.Player.actor g.L.Player.history g.L.Player.state g.L.Player.grows
    c.note_laws.ensures
    c.args.names.now c.args.player.now c.run_to_end.new.player c.args.at.now c.run_to_end.new.at
    c.in_ok-answer.answer c.in_ok-answer.ensures.end c.in_ok-answer_line.field-0 c.in_ok-answer_line.ensures c.requires.fits
    (is_running (g.L.Player.state c.args.player.now c.args.at.now).running c.is_running.result c.is_running.ensures
    c.if-not-is_running.false) c.requires.goes_on
