use Rattle.std.proofs.Common.{◌≡◌, ◌++◌, length}
use Rattle.script_words.specs.Splitting.{parts}
use Rattle.script_words.proofs.paths.read_names.Given as goal

abbrev pub invariant-names : goal.invariant-names
invariant-names l = parts 47 l.names ≡ l.path.items ++ parts 47 l.rest

abbrev pub decreases-names : goal.decreases-names
decreases-names l = length l.rest
