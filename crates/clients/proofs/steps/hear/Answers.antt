use Rattle.program_forms.specs.declared.heard.Heard.TheVariants as hearing
use Rattle.clients.proofs.StepCases.{marked, hears_going, hears_done, hears_left}
use Rattle.clients.proofs.steps.hear.Goals as goal

pub returns-in_err-answer-in-Ok : goal.returns-in_err-answer-in-Ok
returns-in_err-answer-in-Ok g c req asks =
    rw c.from_residual.ensures
    (hears_going g.P.Programs.rules c.args.actor.now c.args.actor.now c.advance.new.self c.args.pass.now c.set_heard.new.self
    c.args.pass.now req c.args.reply.now c.in-Ok.went c.heard-heard.result c.heard-heard.ensures
    (marked c.heard-heard.result c.args.pass.now c.set_heard.new.self c.set_heard.ensures.moments c.set_heard.ensures.same)
    c.in_err-answer-in-Ok.was (c.in-Ok.ensures req asks))

pub returns-in_ok-answer-in-Ok : goal.returns-in_ok-answer-in-Ok
returns-in_ok-answer-in-Ok g c req asks =
    hears_done g.P.Programs.rules c.args.actor.now c.advance.new.self c.end_with.new.actor c.args.pass.now c.set_heard.new.self
    c.end_with.new.pass req c.args.reply.now c.in-Ok.went c.heard-heard.result c.heard-heard.ensures
    (marked c.heard-heard.result c.args.pass.now c.set_heard.new.self c.set_heard.ensures.moments c.set_heard.ensures.same)
    c.end_with.result c.in_ok-answer-in-Ok.answer c.in_ok-answer-in-Ok.was (c.in-Ok.ensures req asks) c.end_with.ensures.actor
    c.end_with.ensures.pass c.end_with.ensures.answer

pub returns-in-Err : goal.returns-in-Err
returns-in-Err g c req asks =
    hears_left g.P.Programs.rules c.args.actor.now c.advance.new.self c.end.new.actor c.args.pass.now c.set_heard-in-Err.new.self
    c.end.new.pass req c.args.reply.now c.in-Err.field-0
    (marked hearing.Left c.args.pass.now c.set_heard-in-Err.new.self c.set_heard-in-Err.ensures.moments c.set_heard-in-Err.ensures.same)
    (c.in-Err.ensures req asks) c.end.ensures.actor c.end.ensures.pass
