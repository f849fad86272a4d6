use Rattle.std.proofs.Common.{◌≡◌, ◌++◌, take}
use Rattle.script_words.specs.WordText.{names_text}
use Rattle.script_words.proofs.spelling.add_path.Given as goal

abbrev pub invariant-loop-name : goal.invariant-loop-name
invariant-loop-name l = l.text.items ≡ l.initial.text.items ++ names_text (take l.name-index l.names)
