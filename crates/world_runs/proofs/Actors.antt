-- of an actor's own events: one list after another
use Rattle.std.proofs.Common.{◌≡◌, ℕ, true, if◌then◌else◌, List, [], ◌∷◌, ◌++◌, refl, ap, arith, eqb}
use Rattle.std.proofs.lemmas.List.Elements.{filter-append}
use Rattle.tect_ids.specs.declared.ids.Counts.{Counts}
use Rattle.tect_ids.proofs.KeyTests.{num_eq_cases}
use Rattle.world_runs.specs.declared.event.Event.{Event}
use Rattle.program_forms.specs.Kinds.{Programs}
use Rattle.world_runs.specs.Actors.{Actor}
use Rattle.world_runs.specs.Races.{is_own}
use Rattle.world_runs.specs.Events.{own}
use Rattle.world_runs.specs.OwnRuns.{OwnRun, own_next, own_state}

pub same_number : (a : ℕ) → eqb a a ≡ true
same_number a = grind (arith, num_eq_cases)

pub one_number : (a b : ℕ) → eqb a b ≡ true → a ≡ b
one_number a b e = grind (arith, num_eq_cases)

pub own-here : (a : ℕ) (e : Event) (es : List Event) → is_own a e ≡ true → own a (e ∷ es) ≡ e ∷ own a es
own-here a e es h = ap (λ t. if t then e ∷ own a es else own a es) h

pub own-append : (a : ℕ) (es fs : List Event) → own a (es ++ fs) ≡ own a es ++ own a fs
own-append a es fs = filter-append (is_own a) es fs

pub own_state-append : {S : Type 0} (P : Programs S) (counts : Counts) (s : Actor S) (es fs : List Event)
    → own_state P counts s (es ++ fs) ≡ own_state P counts (own_state P counts s es) fs
own_state-append P counts s [] fs = refl
own_state-append P counts s (e ∷ es) fs = own_state-append P counts (own_next P counts s e) es fs

pub own_run-append : {S : Type 0} (P : Programs S) (counts : Counts) (s : Actor S) (es fs : List Event) → OwnRun P counts s es
    → OwnRun P counts (own_state P counts s es) fs
    → OwnRun P counts s (es ++ fs)
own_run-append P counts s [] fs r q = q
own_run-append P counts s (e ∷ es) fs r q = (r.0, own_run-append P counts (own_next P counts s e) es fs r.1 q)
