use Rattle.players.proofs.Results.{not_running, is_running}
use Rattle.players.proofs.Playing.{stops_nothing, stops}
use Rattle.players.proofs.acts.stop.Goals as goal

pub returns-then-not-is_running-clause-plays : goal.returns-then-not-is_running-clause-plays
returns-then-not-is_running-clause-plays g c =
    stops_nothing g.P.Programs.rules g.L.Player.counts g.L.Player.fits g.L.Player.actor g.L.Player.history g.L.Player.state g.L.Player.grows
    c.note_laws.ensures c.args.names.now c.args.player.now c.args.at.now c.requires.fits
    (not_running (g.L.Player.state c.args.player.now c.args.at.now).running c.is_running.result c.is_running.ensures
    c.if-not-is_running.true)

pub returns-clause-plays : goal.returns-clause-plays
returns-clause-plays g c =
    stops g.P.Programs.rules g.L.Player.counts g.L.Player.fits g.L.Player.actor g.L.Player.history g.L.Player.state g.L.Player.grows
    c.note_laws.ensures
    c.args.names.now c.args.player.now c.stop.new.self c.args.at.now c.stop.new.at c.requires.fits
    (is_running (g.L.Player.state c.args.player.now c.args.at.now).running c.is_running.result c.is_running.ensures
    c.if-not-is_running.false)
    c.stop.ensures.stops c.in_ok-answer_line.field-0 c.in_ok-answer_line.ensures
