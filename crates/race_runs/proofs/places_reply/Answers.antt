use Rattle.race_runs.proofs.Replies.{places_reply}
use Rattle.race_runs.proofs.places_reply.Goals as goal

pub returns : goal.returns
returns c = places_reply
