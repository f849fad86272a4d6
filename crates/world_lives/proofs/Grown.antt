-- more events, and what a transaction leaves of its actor's number
use Rattle.std.proofs.Common.{◌≡◌, Option, Some, None, List, refl}
use Rattle.tect_ids.specs.declared.ids.Counts.{Counts}
use Rattle.store_rules.specs.declared.any.AnyReq.{AnyReq}
use Rattle.store_rules.specs.declared.any.AnyReply.{AnyReply}
use Rattle.program_forms.specs.declared.heard.Heard.{Heard}
use Rattle.program_forms.specs.Kinds.{Programs}
use Rattle.world_runs.specs.declared.event.Event.{Event}
use Rattle.world_runs.specs.Actors.{Actor, Running, went_on}
use Rattle.world_runs.specs.Moments.{opening, after_all}
use Rattle.whole_runs.proofs.Actors.{after_all-append}
use Rattle.world_lives.specs.Life.{Life, present, grown}

-- the moment after more events
pub present-grown : {S : Type 0} (P : Programs S) (w : Life) (es : List Event) → present P (grown w es) ≡ after_all P (present P w) es
present-grown P w es = after_all-append P (opening w.counts) w.history es

pub went_number : {S : Type 0} (P : Programs S) (c : Counts) (a : Actor S) (o : Option (Running S)) (q : AnyReq) (y : AnyReply) (h : Heard)
    → (went_on P c a o q y h).number ≡ a.number
went_number P c a None q y h = refl
went_number P c a (Some r) q y h = refl
