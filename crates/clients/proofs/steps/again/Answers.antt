use Rattle.std.proofs.Common.{inl}
use Rattle.entry_words.proofs.WordClones.{same_answer}
use Rattle.clients.proofs.steps.again.Goals as goal

pub returns-in-Ok : goal.returns-in-Ok
returns-in-Ok c = inl (same_answer c.args.answer.now c.in-Ok.same c.in-Ok.ensures.cases)
