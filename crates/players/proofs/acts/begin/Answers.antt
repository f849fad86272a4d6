use Rattle.players.proofs.Results.{none_of, on_ok_both}
use Rattle.players.proofs.Playing.{begins}
use Rattle.players.proofs.acts.begin.Goals as goal

pub returns-clause-plays : goal.returns-clause-plays
returns-clause-plays g c names =
    on_ok_both c.begin_command.result
    (λ begun fit. begins g.P.Programs.rules g.L.Player.counts g.L.Player.fits g.L.Player.actor g.L.Player.history g.L.Player.state
    g.L.Player.grows
    c.note_laws.ensures names c.args.player.now c.begin_command.new.player c.args.at.now c.begin_command.new.at c.args.command.now begun
    (none_of _ c.requires.idle) c.requires.goes_on fit)
    c.begin_command.ensures.begins c.begin_command.ensures.fits
