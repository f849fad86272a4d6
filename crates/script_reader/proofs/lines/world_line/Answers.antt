use Rattle.std.proofs.Common.{◌∷◌, refl}
use Rattle.script_words.specs.WordList.{words_left}
use Rattle.script_reader.proofs.lines.world_line.Goals as goal

pub returns-in-None : goal.returns-in-None
returns-in-None c = (c.args.word.now ∷ words_left c.args.words, rw (← c.in-None.ensures) refl, c.requires)
