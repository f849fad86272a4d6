use Rattle.tree_runs.proofs.Headlines.{run_headline}
use Rattle.tree_runs.proofs.each_answer_is_the_trees.Goals as goal

pub returns : goal.returns
returns c = run_headline
