-- The begin and the end of a walk, in the words of the code.
use Rattle.std.specs.Prelude.{ℕ, List, Option, Some, None}
use Rattle.tect_ids.specs.declared.ids.DirId.{DirId}
use Rattle.tect_ids.specs.declared.ids.Node.{Node}
use Rattle.tect_ids.specs.declared.ids.Place.{Place}
use Rattle.tect_ids.specs.declared.key.Key.{Key}
use Rattle.tect_ids.specs.declared.answer.Answer.{Answer}
use Rattle.tect_ids.specs.declared.answer.Answer.TheVariants.{NotDir}
use Rattle.store_rules.specs.declared.any.AnyReply.{AnyReply}
use Rattle.program_parts.specs.declared.walking.Walking.{Walking}
use Rattle.program_parts.specs.declared.walking.Walking.TheVariants.{Way, There}
use Rattle.program_parts.specs.Refused.{refusal}
use Rattle.program_rules.specs.declared.operation.Operation.{Operation}
use Rattle.program_rules.specs.declared.operation.OperationState.{OperationState}
use Rattle.program_rules.specs.Operations.{begins_in}

-- the walk whose first name, if there is one, was taken off
abbrev pub walk_from : DirId → Option (List ℕ) → List (List ℕ) → Operation → Walking Operation OperationState
walk_from d (Some n) ns o = Way d n ns o
walk_from d None ns o = There (begins_in o d)

-- the answer of a command whose look on the way found no directory
abbrev pub walk_end : Place → Key → AnyReply → Option Node → Answer
walk_end place k x None = refusal place k x
walk_end place k x (Some n) = NotDir
