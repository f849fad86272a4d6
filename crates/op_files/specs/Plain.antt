-- The answers that a command on the contents of files carries are no want of memory or of room.
use Rattle.tect_ids.specs.declared.answer.Answer.{Answer}
use Rattle.program_forms.specs.Lacks.{IsLack}
use Rattle.program_parts.specs.declared.next.Next.{Next}
use Rattle.program_parts.specs.declared.next.Next.TheVariants.{Goes, Comes}
use Rattle.file_rules.specs.declared.states.Open.{Open}
use Rattle.file_rules.specs.declared.states.Append.{Append}
use Rattle.file_rules.specs.declared.states.Append.TheVariants.{Release}
use Rattle.file_rules.specs.declared.states.Blocks.{Blocks}
use Rattle.file_rules.specs.declared.states.Read.{Read}

abbrev pub IsPlainNext : {S : Type 0} → (S → Type 0) → Next S Answer → Type 0
IsPlainNext IsPlain (Goes s) = IsPlain s
IsPlainNext IsPlain (Comes a) = ¬ IsLack a

abbrev pub IsPlainOpen : Open → Type 0
IsPlainOpen s = Unit {0}

abbrev pub IsPlainAppend : Append → Type 0
IsPlainAppend (Release b h answer) = ¬ IsLack answer
IsPlainAppend _ = Unit {0}

abbrev pub IsPlainBlocks : Blocks → Type 0
IsPlainBlocks s = Unit {0}

abbrev pub IsPlainRead : Read → Type 0
IsPlainRead s = Unit {0}
