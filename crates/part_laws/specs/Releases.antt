-- What is known while holds are released: they can't be bound any more, and the answer is there.
use Rattle.std.specs.Prelude.{◌≡◌, true, false, Option, Some, None}
use Rattle.tect_ids.specs.declared.ids.OpId.{OpId}
use Rattle.tect_ids.specs.declared.answer.Answer.{Answer}
use Rattle.tect_calls.specs.declared.tokens.Freed.{Freed}
use Rattle.program_forms.specs.Memories.{Memory}
use Rattle.program_parts.specs.declared.releasing.Releasing.{Releasing}
use Rattle.store_pasts.specs.Worlds.{World}
use Rattle.store_pasts.specs.Pasts.{is_spent}
use Rattle.program_laws.specs.Known.{Deciding, Known, is_odd}

abbrev pub IsFreed : World → Option Freed → Type 0
IsFreed w None = Unit {0}
IsFreed w (Some f) = is_spent w f.hold ≡ true

pub record ReleaseKnows (w : World) (op : OpId) (m : Memory) (r : Releasing) : Type 0 where
  pub first : is_spent w (r.first).hold ≡ true
  pub second : IsFreed w r.second
  pub plain : is_odd r.answer ≡ false

abbrev pub release_known : Known Releasing Answer
release_known = record { Knows = ReleaseKnows; Ends = λ w a. is_odd a ≡ false }

abbrev pub release_deciding : Deciding Releasing Answer
release_deciding = record { decided = λ r. Some r.answer }
