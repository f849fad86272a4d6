use Rattle.script_words.proofs.WordBytes.{length-words}
use Rattle.script_words.proofs.words.Words.left.Goals as goal

pub returns-in-Some : goal.returns-in-Some
returns-in-Some c = rw c.in-Some.is (length-words c.in-Some.rest.now)
