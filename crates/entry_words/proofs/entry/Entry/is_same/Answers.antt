use Rattle.std.proofs.lemmas.Bool.Decides.{Decides-at}
use Rattle.entry_words.proofs.Equals.{entry_decides}
use Rattle.entry_words.proofs.entry.Entry.is_same.Goals as goal

pub returns : goal.returns
returns c = Decides-at c.eq.result _ c.eq.ensures (entry_decides c.args.self.now c.args.other.now)
