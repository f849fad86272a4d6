use Rattle.tree_runs.proofs.Headlines.{safely}
use Rattle.tree_runs.proofs.running_commands_ask_safely.Goals as goal

pub returns : goal.returns
returns c = safely
