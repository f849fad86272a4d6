use Rattle.players.proofs.Results.{none_of}
use Rattle.players.proofs.Playing.{begun_runs, does_all}
use Rattle.players.proofs.acts.do_command.Goals as goal

pub run_to_end-requires-clause-running : goal.run_to_end-requires-clause-running
run_to_end-requires-clause-running g c =
    begun_runs g.P.Programs.rules g.L.Player.counts g.L.Player.fits g.L.Player.actor g.L.Player.history g.L.Player.state g.L.Player.grows
    c.note_laws.ensures
    c.args.names.now c.args.player.now c.begin_command.new.player c.args.at.now c.begin_command.new.at c.args.command.now
    c.in_ok-begin_command.ensures.begins (none_of _ c.requires.idle) c.requires.goes_on

pub returns-clause-plays : goal.returns-clause-plays
returns-clause-plays g c =
    does_all g.P.Programs.rules g.L.Player.counts g.L.Player.fits g.L.Player.actor g.L.Player.history g.L.Player.state g.L.Player.grows
    c.note_laws.ensures
    c.args.names.now c.args.player.now c.begin_command.new.player c.args.at.now c.begin_command.new.at c.args.command.now
    c.in_ok-begin_command.ensures.begins (none_of _ c.requires.idle) c.requires.goes_on
    c.run_to_end.new.player c.run_to_end.new.at c.in_ok-answer.answer c.in_ok-answer.ensures.end c.in_ok-answer_line.field-0
    c.in_ok-answer_line.ensures
