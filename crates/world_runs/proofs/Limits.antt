-- what is used of an actor's history, and its own limits: one list of events after another
use Rattle.std.proofs.Common.{◌≡◌, ℕ, ◌+◌, List, [], ◌∷◌, ◌++◌, subst}
use Rattle.std.proofs.Common.{append_assoc}
use Rattle.std.proofs.lemmas.List.{append-nil}
use Rattle.std.proofs.lemmas.List.Sums.{sum_by-append}
use Rattle.tect_ids.specs.declared.ids.Counts.{Counts}
use Rattle.world_runs.specs.declared.event.Event.{Event}
use Rattle.program_forms.specs.Kinds.{Programs}
use Rattle.world_runs.specs.Actors.{Actor}
use Rattle.world_runs.specs.Limits.{event_cost, used}
use Rattle.world_runs.specs.Limits.{OwnLimits}
use Rattle.world_runs.specs.OwnRuns.{own_next, own_state}

pub used-append : (es fs : List Event) (a : ℕ) → used (es ++ fs) a ≡ used es a + used fs a
used-append es fs a = sum_by-append (event_cost a) es fs

pub own_limits-append : {S : Type 0} (P : Programs S) (counts : Counts) (before : List Event) (s : Actor S) (es fs : List Event)
    → OwnLimits P counts before s es → OwnLimits P counts (before ++ es) (own_state P counts s es) fs
    → OwnLimits P counts before s (es ++ fs)
own_limits-append P counts before s [] fs l k = subst (λ (es : List Event). OwnLimits P counts es s fs) (append-nil before) k
own_limits-append P counts before s (e ∷ es) fs l k =
    (l.0, own_limits-append P counts (before ++ e ∷ []) (own_next P counts s e) es fs l.1 (rw append_assoc k))
