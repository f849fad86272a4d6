use Rattle.std.proofs.Common.{refl}
use Rattle.clients.proofs.StepCases.{unasked_step, wanting_step, looked_few}
use Rattle.clients.proofs.steps.take_step.Goals as goal

pub returns-in-Ok-None-clause-step : goal.returns-in-Ok-None-clause-step
returns-in-Ok-None-clause-step g c =
    unasked_step g.P.Programs.rules g.C.Commits.done c.args.at.now c.args.at.now c.args.actor.now c.settle.new.actor c.args.pass.now
    c.settle.new.pass c.next.new.self c.next.ensures.looked c.settle.result refl c.settle.ensures.ends c.settle.ensures.actor
    c.settle.ensures.pass

pub returns-in-Err-clause-step : goal.returns-in-Err-clause-step
returns-in-Err-clause-step g c =
    wanting_step g.P.Programs.rules g.C.Commits.done c.args.at.now c.args.at.now c.args.actor.now c.fail.new.actor c.args.pass.now
    c.fail.new.pass c.next.new.self c.next.ensures.looked c.fail.result refl c.fail.ensures.actor c.fail.ensures.pass c.fail.ensures.step

pub transact-requires-clause-few : goal.transact-requires-clause-few
transact-requires-clause-few g c =
    looked_few g.P.Programs.rules g.met.P.Programs.keeps_serial c.args.actor.now c.next.new.self c.next.ensures.looked c.requires.few
