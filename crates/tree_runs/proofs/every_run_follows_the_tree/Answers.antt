use Rattle.tree_runs.proofs.Headlines.{shown_so, followed_so}
use Rattle.tree_runs.proofs.every_run_follows_the_tree.Goals as goal

pub returns-clause-shown : goal.returns-clause-shown
returns-clause-shown c = shown_so

pub returns-clause-allowed : goal.returns-clause-allowed
returns-clause-allowed c = followed_so
