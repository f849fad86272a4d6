use Rattle.telling_laws.proofs.RequestsShow.{request_shows}
use Rattle.tree_runs.proofs.store_shows_a_tree.Goals as goal

pub returns : goal.returns
returns c = request_shows
