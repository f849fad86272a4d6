use Rattle.std.proofs.Common.{◌∙◌, ap, subst, refl, Ok, Err}
use Rattle.tect_ids.specs.declared.ids.Counts.{Counts}
use Rattle.tect_ids.specs.declared.answer.Answer.TheVariants as answers
use Rattle.store_rules.specs.Places.{request_place}
use Rattle.entry_words.specs.declared.entry.Refused.TheVariants.{NoMemory, HistoryFull}
use Rattle.passes.specs.Adding.{Committed, entry_at}
use Rattle.clients.proofs.StepCases.{did_step, denied_step}
use Rattle.clients.proofs.steps.transact.Goals as goal

pub returns-in-Ok-clause-step : goal.returns-in-Ok-clause-step
returns-in-Ok-clause-step g c before is =
    did_step g.P.Programs.rules g.C.Commits.done c.args.at.now c.commit.new.self before c.hear.new.actor c.args.pass.now
    c.hear.new.pass c.args.actor.now is c.commit.new.pass c.args.asked c.in-Ok.reply c.hear.result c.requires.asked
    (subst (λ (n : Counts). g.C.Commits.done c.args.at.now c.commit.new.self c.args.pass.now.clock c.args.asked
    (Ok (entry_at n c.commit.new.pass.clock c.args.pass.now c.args.asked c.in-Ok.reply)))
    c.requires.same c.in-Ok.ensures.done) (λ full. let bad = c.in-Ok.ensures.full full in cc)
    (subst (λ (n : Counts). Committed n c.args.pass.now c.commit.new.pass c.args.asked c.in-Ok.reply) c.requires.same c.in-Ok.ensures.ok)
    (c.hear.ensures c.args.asked c.requires.asked)

pub returns-in-Err-NoMemory-clause-step : goal.returns-in-Err-NoMemory-clause-step
returns-in-Err-NoMemory-clause-step g c before is =
    denied_step g.P.Programs.rules g.C.Commits.done c.args.at.now c.commit.new.self before c.fail.new.actor c.args.pass.now
    c.fail.new.pass c.args.actor.now is c.commit.new.pass c.args.asked NoMemory answers.NoMemory c.fail.result c.requires.asked
    (rw c.in-Err-NoMemory.field-0-is at c.in-Err-NoMemory.ensures.done)
    c.in-Err-NoMemory.ensures.err refl c.fail.ensures.actor c.fail.ensures.pass c.fail.ensures.step

pub returns-in-Err-HistoryFull-clause-step : goal.returns-in-Err-HistoryFull-clause-step
returns-in-Err-HistoryFull-clause-step g c before is =
    let place = c.in-Err-HistoryFull.place in
    let only = c.in-Err-HistoryFull.ensures.only place (ap Err c.in-Err-HistoryFull.field-0-is) in
    denied_step g.P.Programs.rules g.C.Commits.done c.args.at.now c.commit.new.self before c.fail-in-Err-HistoryFull.new.actor
    c.args.pass.now c.fail-in-Err-HistoryFull.new.pass c.args.actor.now is c.commit.new.pass
    c.args.asked (HistoryFull place) (answers.HistoryFull place) c.fail-in-Err-HistoryFull.result c.requires.asked
    (rw c.in-Err-HistoryFull.field-0-is at c.in-Err-HistoryFull.ensures.done)
    (c.in-Err-HistoryFull.ensures.err, only.0, only.1 ∙ ap (λ (n : Counts). request_place n c.args.asked) c.requires.same) refl
    c.fail-in-Err-HistoryFull.ensures.actor
    c.fail-in-Err-HistoryFull.ensures.pass
    c.fail-in-Err-HistoryFull.ensures.step
