-- The answers of commands that end for want of memory, or of room in their actor's own history.
use Rattle.tect_ids.specs.declared.answer.Answer.{Answer}
use Rattle.tect_ids.specs.declared.answer.Answer.TheVariants as answers

-- the answer of an op whose actor had no room to note its begin: no place is numbered 256
abbrev pub no_room : Answer
no_room = answers.HistoryFull (record { 0 = 256 })

-- the answer of a command that ends for want of memory, or of room in its actor's own history
abbrev pub IsLack : Answer → Type 0
IsLack answers.NoMemory = Unit {0}
IsLack (answers.HistoryFull p) = Unit {0}
IsLack _ = ⊥
