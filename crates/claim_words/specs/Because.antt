-- What explains an answer: a cause of its command's family. Each family has its causes in a file of its own.
use Rattle.std.specs.Prelude.{List, ◌⊎◌}
use Rattle.tect_ids.specs.declared.ids.Counts.{Counts}
use Rattle.tect_ids.specs.declared.ids.OpId.{OpId}
use Rattle.tect_ids.specs.declared.command.Command.{Command}
use Rattle.tect_ids.specs.declared.answer.Answer.{Answer}
use Rattle.world_runs.specs.declared.event.Event.{Event}
use Rattle.claim_words.specs.NamesBecause.{names_because}
use Rattle.claim_words.specs.FilesBecause.{files_because}

abbrev pub because : Counts → List Event → OpId → Command → Answer → Type 0
because counts history op c a = names_because history op c a ⊎ files_because counts history op c a
