use Rattle.std.proofs.Common.{◌≡◌, ◌≤◌, length}
use Rattle.script_words.specs.Splitting.{parts}
use Rattle.script_words.specs.WordForm.{names_fit}
use Rattle.script_words.proofs.paths.names_fit.Given as goal

abbrev pub invariant-names : goal.invariant-names
invariant-names l = record {
  fit : names_fit 0 (parts 47 l.names) ≡ names_fit l.before (parts 47 l.rest);
  few : l.before ≤ 256;
}

abbrev pub decreases-names : goal.decreases-names
decreases-names l = length l.rest
