-- An append's hold is at the block that it made.
use Rattle.std.specs.Prelude.{◌≡◌}
use Rattle.tect_ids.specs.declared.answer.Answer.{Answer}
use Rattle.program_parts.specs.declared.next.Next.{Next}
use Rattle.program_parts.specs.declared.next.Next.TheVariants.{Goes, Comes}
use Rattle.file_rules.specs.declared.states.Append.{Append}
use Rattle.file_rules.specs.declared.states.Append.TheVariants.{Make, Put, Seal, Attach, Release}

abbrev pub IsOfOneBlock : Append → Type 0
IsOfOneBlock (Make f token bytes p) = Unit {0}
IsOfOneBlock (Put a p) = (a.hold).blk ≡ (p.made).blk
IsOfOneBlock (Seal a made) = (a.hold).blk ≡ made.blk
IsOfOneBlock (Attach a b) = (a.hold).blk ≡ b
IsOfOneBlock (Release b h answer) = Unit {0}

-- where it goes on
abbrev pub GoesOnSo : Next Append Answer → Type 0
GoesOnSo (Goes s) = IsOfOneBlock s
GoesOnSo (Comes a) = Unit {0}
