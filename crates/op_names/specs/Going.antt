-- Where a running command stands, in the words of the code.
use Rattle.std.specs.Prelude.{Option, Some, None, List, []}
use Rattle.tect_ids.specs.declared.ids.Counts.{Counts}
use Rattle.tect_ids.specs.declared.ids.OpId.{OpId}
use Rattle.tect_ids.specs.declared.answer.Answer.{Answer}
use Rattle.store_rules.specs.declared.any.AnyReply.{AnyReply}
use Rattle.program_forms.specs.Memories.{Memory, Learnt}
use Rattle.program_parts.specs.declared.next.Next.TheVariants.{Goes, Comes}
use Rattle.program_parts.specs.Walks.{walk_asks, walk_hears, walk_learns}
use Rattle.program_rules.specs.Operations.{begins_in, operations}
use Rattle.program_rules.specs.Served.{Program}

-- its answer, if it has come to one
abbrev pub answer_of : Program → Option Answer
answer_of (Goes s) = None
answer_of (Comes a) = Some a

-- where it stands after the reply to its request
abbrev pub went_on : Counts → Memory → OpId → Program → AnyReply → Program
went_on c m op (Goes s) x = walk_hears begins_in operations c m op s (walk_asks operations c m op s) x
went_on c m op (Comes a) x = Comes a

-- what its actor learns of that
abbrev pub learns : Counts → Memory → OpId → Program → AnyReply → List Learnt
learns c m op (Goes s) x = walk_learns operations op s (walk_asks operations c m op s) x
learns c m op (Comes a) x = []
