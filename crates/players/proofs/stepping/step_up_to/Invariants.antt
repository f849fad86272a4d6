use Rattle.players.proofs.Playing.{HasStepped}
use Rattle.players.proofs.stepping.step_up_to.Given as goal

abbrev pub invariant-steps : goal.invariant-steps
invariant-steps g l = HasStepped g.L.Player.counts g.L.Player.fits g.L.Player.actor g.L.Player.state g.L.Player.grows l._step
    l.initial.player l.initial.at l.player l.at
