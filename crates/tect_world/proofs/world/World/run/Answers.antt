use Rattle.std.proofs.Common.{subst}
use Rattle.world_lives.specs.Life.{present, last_op}
use Rattle.world_lives.specs.Steps.{Stepped}
use Rattle.world_lives.proofs.Running.{goes_first, goes_on, goes_nearer, goes_to_end, goes_nowhere, on_err_any}
use Rattle.tect_world.proofs.world.World.run.Goals as goal

pub steps-init : goal.steps-init
steps-init g c = goes_first g.P.Programs.rules c.args.self.now c.args.actor c.requires.running

pub step-requires-clause-running : goal.step-requires-clause-running
step-requires-clause-running g c = c.steps.invariant.running

pub steps-smaller : goal.steps-smaller
steps-smaller g c =
    goes_nearer g.P.Programs.rules c.args.self.now c.steps.self c.step.new.self c.args.actor c.steps.invariant
    (subst (Stepped g.P.Programs.rules c.steps.self c.step.new.self (last_op (present g.P.Programs.rules c.steps.self) c.args.actor)) c.in-Going.is c.in_ok-step.ensures.ok)
    c.in_ok-step.ensures.limits

pub steps-preserved : goal.steps-preserved
steps-preserved g c =
    goes_on g.P.Programs.rules c.args.self.now c.steps.self c.step.new.self c.args.actor c.steps.invariant
    (subst (Stepped g.P.Programs.rules c.steps.self c.step.new.self (last_op (present g.P.Programs.rules c.steps.self) c.args.actor)) c.in-Going.is c.in_ok-step.ensures.ok)

pub returns-in-Done-clause-ok : goal.returns-in-Done-clause-ok
returns-in-Done-clause-ok g c =
    goes_to_end g.P.Programs.rules c.args.self.now c.steps.self c.step.new.self c.args.actor c.steps.invariant c.in-Done.answer
    (subst (Stepped g.P.Programs.rules c.steps.self c.step.new.self (last_op (present g.P.Programs.rules c.steps.self) c.args.actor)) c.in-Done.is c.in_ok-step.ensures.ok)

pub returns-in_err-step-clause-err : goal.returns-in_err-step-clause-err
returns-in_err-step-clause-err g c =
    on_err_any c.from_residual.result
    (goes_nowhere g.P.Programs.rules c.args.self.now c.steps.self c.step.new.self c.args.actor c.steps.invariant c.in_err-step.ensures.err)
