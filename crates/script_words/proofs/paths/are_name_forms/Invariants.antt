use Rattle.std.proofs.Common.{◌≡◌, length}
use Rattle.script_words.specs.Splitting.{parts}
use Rattle.script_words.specs.WordForm.{are_name_forms}
use Rattle.script_words.proofs.paths.are_name_forms.Given as goal

abbrev pub invariant-names : goal.invariant-names
invariant-names l = are_name_forms (parts 47 l.names) ≡ are_name_forms (parts 47 l.rest)

abbrev pub decreases-names : goal.decreases-names
decreases-names l = length l.rest
