-- events of refused ops: one list after another
use Rattle.std.proofs.Common.{◌≡◌, true, false, ◌||◌, List, [], ◌∷◌, ◌++◌, refl, subst, append_assoc}
use Rattle.std.proofs.lemmas.List.{append-nil}
use Rattle.tect_ids.specs.declared.ids.OpId.{OpId}
use Rattle.world_runs.specs.declared.event.Event.{Event}
use Rattle.world_runs.specs.Refusals.{refuses, was_refused, AreOfRefused}

-- each op that is refused in the first is refused in the second
abbrev pub AreRefusedIn : List Event → List Event → Type 0
AreRefusedIn es fs = (op : OpId) → was_refused es op ≡ true → was_refused fs op ≡ true

pub refused-rest : (es fs : List Event) → AreRefusedIn fs (es ++ fs)
refused-rest [] fs op is = is
refused-rest (e ∷ es) fs op is =
    elim (refuses op e) as (λ b. (b || was_refused (es ++ fs) op) ≡ true) [ true ↦ refl | false ↦ refused-rest es fs op is ]

pub of_refused-append : (before es fs : List Event) → AreOfRefused before es → AreOfRefused (before ++ es) fs
    → AreOfRefused before (es ++ fs)
of_refused-append before [] fs first next = subst (λ (bs : List Event). AreOfRefused bs fs) (append-nil before) next
of_refused-append before (e ∷ es) fs first next =
    (first.0, of_refused-append (before ++ e ∷ []) es fs first.1 (rw append_assoc next))
