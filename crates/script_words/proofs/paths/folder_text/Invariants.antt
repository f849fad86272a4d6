use Rattle.std.proofs.Common.{◌≡◌, ◌≤◌, length, drop}
use Rattle.script_words.specs.WordForm.{folder_end}
use Rattle.script_words.proofs.paths.folder_text.Given as goal

abbrev pub invariant-loop-at : goal.invariant-loop-at
invariant-loop-at l = record {
  end_is : folder_end 0 0 l.word ≡ folder_end l.end l.at (drop l.at l.word);
  within : l.end ≤ l.at;
}
