use Rattle.std.proofs.Common.{◌≡◌, ◌++◌, length, true}
use Rattle.script_words.specs.WordForm.{are_hex_pairs, hex_bytes}
use Rattle.script_words.proofs.hex.read_hex.Given as goal

abbrev pub invariant-pairs : goal.invariant-pairs
invariant-pairs l = record {
  so_far : hex_bytes l.word ≡ l.bytes.items ++ hex_bytes l.rest;
  digits : are_hex_pairs l.rest ≡ true;
}

abbrev pub decreases-pairs : goal.decreases-pairs
decreases-pairs l = length l.rest
