use Rattle.std.proofs.Common.{◌+◌, ◌<◌, subst, arith}
use Rattle.program_calls.specs.declared.turned.Turned.{Turned}
use Rattle.players.specs.Players.{op_at, StepsOnce}
use Rattle.players.proofs.Playing.{stepped_none, stepped_more, stepped_end, steps_within}
use Rattle.players.proofs.stepping.step_up_to.Goals as goal

pub steps-init : goal.steps-init
steps-init g c = stepped_none g.P.Programs.rules g.L.Player.counts g.L.Player.fits g.L.Player.actor g.L.Player.history g.L.Player.state
    g.L.Player.grows
    c.note_laws.ensures c.args.player.now c.args.at.now c.requires.fits c.requires.running

pub returns-in-Done-clause-steps : goal.returns-in-Done-clause-steps
returns-in-Done-clause-steps g c =
    let lt : c.steps._step < c.args.count = c.steps-test.true in
    steps_within g.P.Programs.rules g.L.Player.counts g.L.Player.fits g.L.Player.actor g.L.Player.history g.L.Player.state
    g.L.Player.grows c.note_laws.ensures
    c.args.player.now c.step.new.self c.args.at.now c.step.new.at _ (c.steps._step + 1) c.args.count c.in-Done.answer (omega arith)
    (stepped_end g.P.Programs.rules g.L.Player.counts g.L.Player.fits g.L.Player.actor g.L.Player.history g.L.Player.state
    g.L.Player.grows c.note_laws.ensures
    c.steps._step c.args.player.now c.steps.player c.step.new.self c.args.at.now c.steps.at c.step.new.at c.steps.invariant
    c.in-Done.answer
    (subst (λ (t : Turned). StepsOnce (g.L.Player.grows c.steps.player c.steps.at c.step.new.self c.step.new.at)
    (op_at (g.L.Player.actor c.steps.player) (g.L.Player.state c.steps.player c.steps.at)) t) c.in-Done.is c.in_ok-step.ensures.step))

pub steps-preserved : goal.steps-preserved
steps-preserved g c =
    stepped_more g.P.Programs.rules g.L.Player.counts g.L.Player.fits g.L.Player.actor g.L.Player.history g.L.Player.state
    g.L.Player.grows c.note_laws.ensures
    c.steps._step c.args.player.now c.steps.player c.step.new.self c.args.at.now c.steps.at c.step.new.at c.steps.invariant
    (subst (λ (t : Turned). StepsOnce (g.L.Player.grows c.steps.player c.steps.at c.step.new.self c.step.new.at)
    (op_at (g.L.Player.actor c.steps.player) (g.L.Player.state c.steps.player c.steps.at)) t) c.in-Going.is c.in_ok-step.ensures.step)
    c.in_ok-step.ensures.fits
