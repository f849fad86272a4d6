use Rattle.std.proofs.Common.{inl, sym, subst}
use Rattle.entry_words.proofs.WordClones.{same_answer}
use Rattle.tect_ids.specs.declared.answer.Answer.{Answer}
use Rattle.entry_words.specs.declared.entry.Note.TheVariants as notes
use Rattle.passes.specs.Adding.{NotedEnd}
use Rattle.clients.specs.ActorState.{op_of}
use Rattle.clients.proofs.steps.end_with.Goals as goal

pub returns-in-Ok-clause-pass : goal.returns-in-Ok-clause-pass
returns-in-Ok-clause-pass g c = subst (λ (x : Answer). NotedEnd c.args.pass.now c.end.new.pass (notes.Ended (op_of c.args.actor.now) x))
    (sym (same_answer c.args.answer c.in-Ok.told c.in-Ok.ensures.cases)) c.end.ensures.pass

pub returns-in-Ok-clause-answer : goal.returns-in-Ok-clause-answer
returns-in-Ok-clause-answer g c = inl (same_answer c.args.answer c.in-Ok.told c.in-Ok.ensures.cases)
