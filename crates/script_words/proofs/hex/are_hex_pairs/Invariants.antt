use Rattle.std.proofs.Common.{◌≡◌, length}
use Rattle.script_words.specs.WordForm.{are_hex_pairs}
use Rattle.script_words.proofs.hex.are_hex_pairs.Given as goal

abbrev pub invariant-pairs : goal.invariant-pairs
invariant-pairs l = are_hex_pairs l.word ≡ are_hex_pairs l.rest

abbrev pub decreases-pairs : goal.decreases-pairs
decreases-pairs l = length l.rest
