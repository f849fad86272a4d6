use Rattle.tect_replay.proofs.Showing.{dumps}
use Rattle.tect_replay.proofs.lines.play_line.Goals as goal

pub returns-in_ok-dump-in-Dump : goal.returns-in_ok-dump-in-Dump
returns-in_ok-dump-in-Dump g c =
    let lines = c.in_ok-dump-in-Dump.field-0.items in
    rw (c.in-Dump.is)
    (dumps g.P.Programs.rules c.args.clients.now c.args.world.now c.dump.new.self lines c.in_ok-dump-in-Dump.ensures.ok
    (record { run = c.in_ok-dump-in-Dump.ensures.run; limits = c.in_ok-dump-in-Dump.ensures.limits })
    c.in_ok-dump-in-Dump.ensures.lines)
