use Rattle.std.proofs.Common.{◌≡◌, ◌++◌, take}
use Rattle.script_words.specs.WordText.{hex_text}
use Rattle.script_words.proofs.spelling.add_hex.Given as goal

abbrev pub invariant-loop-byte : goal.invariant-loop-byte
invariant-loop-byte l = l.text.items ≡ l.initial.text.items ++ hex_text (take l.byte-index l.bytes)
