-- Whether a command came to its end.
use Rattle.std.specs.Prelude.{Option, Some, None}
use Rattle.tect_ids.specs.declared.answer.Answer.{Answer}
use Rattle.program_calls.specs.declared.turned.Turned.{Turned}
use Rattle.program_calls.specs.declared.turned.Turned.TheVariants.{Going, Done}

abbrev pub turned_by : Option Answer → Turned
turned_by None = Going
turned_by (Some a) = Done a
