use Rattle.run_claims.proofs.RunsShort.{each_is_short, idle_has_none}
use Rattle.run_claims.proofs.each_command_is_short.Goals as goal

pub returns : goal.returns
returns c = record { short = each_is_short; idle = idle_has_none }
