use Rattle.std.proofs.Common.{ℕ}
use Rattle.players.proofs.Playing.{HasStepped}
use Rattle.players.proofs.stepping.run_to_end.Given as goal

abbrev pub invariant-steps : goal.invariant-steps
invariant-steps g l =
    (n : ℕ) × HasStepped g.L.Player.counts g.L.Player.fits g.L.Player.actor g.L.Player.state g.L.Player.grows n l.initial.player
    l.initial.at l.player l.at

abbrev pub decreases-steps : goal.decreases-steps
decreases-steps g l = g.L.Player.left l.player l.at
