use Rattle.tect_race.specs.Progress.{HasCome}
use Rattle.tect_race.proofs.rounds.run_script.Given as goal

abbrev pub invariant-lines : goal.invariant-lines
invariant-lines g l = HasCome g.P.Programs.rules l.fn.shared.places.now l.fn.shared.clients.now l.fn.shared.lines.now l.number l.progress
