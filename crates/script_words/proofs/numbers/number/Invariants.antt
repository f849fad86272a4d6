use Rattle.std.proofs.Common.{◌≡◌, ◌≤◌, ◌^◌, drop, take, min}
use Rattle.script_words.specs.WordForm.{number_after}
use Rattle.script_words.proofs.numbers.number.Given as goal

abbrev pub invariant-loop-digit : goal.invariant-loop-digit
invariant-loop-digit l = record {
  so_far : l.number ≡ min (number_after 0 (take l.digit-index l.word)) (2 ^ 32);
  small : l.number ≤ 2 ^ 32;
}
