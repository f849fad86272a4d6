use Rattle.std.proofs.Common.{◌+◌, subst}
use Rattle.program_calls.specs.declared.turned.Turned.{Turned}
use Rattle.players.specs.Players.{op_at, StepsOnce}
use Rattle.players.proofs.Playing.{stepped_none, stepped_more, stepped_end}
use Rattle.players.proofs.stepping.run_to_end.Goals as goal

pub steps-init : goal.steps-init
steps-init g c = (
  0,
  stepped_none g.P.Programs.rules g.L.Player.counts g.L.Player.fits g.L.Player.actor g.L.Player.history g.L.Player.state g.L.Player.grows
      c.note_laws.ensures c.args.player.now c.args.at.now c.requires.fits c.requires.running,
)

pub returns-in-Done-clause-end : goal.returns-in-Done-clause-end
returns-in-Done-clause-end g c =
    (stepped_end g.P.Programs.rules g.L.Player.counts g.L.Player.fits g.L.Player.actor g.L.Player.history g.L.Player.state
    g.L.Player.grows c.note_laws.ensures
    c.steps.invariant.0 c.args.player.now c.steps.player c.step.new.self c.args.at.now c.steps.at c.step.new.at c.steps.invariant.1
    c.in-Done.answer
    (subst (λ (t : Turned). StepsOnce (g.L.Player.grows c.steps.player c.steps.at c.step.new.self c.step.new.at)
    (op_at (g.L.Player.actor c.steps.player) (g.L.Player.state c.steps.player c.steps.at)) t) c.in-Done.is c.in_ok-step.ensures.step)).comes

pub steps-preserved : goal.steps-preserved
steps-preserved g c = (
  c.steps.invariant.0 + 1,
  stepped_more g.P.Programs.rules g.L.Player.counts g.L.Player.fits g.L.Player.actor g.L.Player.history g.L.Player.state
      g.L.Player.grows c.note_laws.ensures c.steps.invariant.0 c.args.player.now c.steps.player c.step.new.self c.args.at.now c.steps.at
      c.step.new.at c.steps.invariant.1
      (subst (λ (t : Turned). StepsOnce (g.L.Player.grows c.steps.player c.steps.at c.step.new.self c.step.new.at)
      (op_at (g.L.Player.actor c.steps.player) (g.L.Player.state c.steps.player c.steps.at)) t) c.in-Going.is c.in_ok-step.ensures.step)
      c.in_ok-step.ensures.fits,
)
