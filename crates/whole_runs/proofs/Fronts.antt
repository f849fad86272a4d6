-- the front of a run is a run, and each of its events may happen at the moment after those before it
use Rattle.std.proofs.Common.{Some, None, subst, ◌≡◌, ℕ, zero, suc, take, List, [], ◌∷◌}
use Rattle.std.specs.List.{slice_get}
use Rattle.world_runs.specs.declared.event.Event.{Event}
use Rattle.program_forms.specs.Kinds.{Programs}
use Rattle.world_runs.specs.Moments.{May, WorldState, after, after_all, RunFrom}

-- a front of a run is a run
pub front_runs : {S : Type 0} (P : Programs S) (n : ℕ) (events : List Event) (m : WorldState S) → RunFrom P m events
    → RunFrom P m (take n events)
front_runs P zero events m run = tt
front_runs P (suc n) [] m run = tt
front_runs P (suc n) (e ∷ es) m run = (run.0, front_runs P n es (after P m e) run.1)

-- each event of a run may happen at the moment after those before it
pub may_at : {S : Type 0} (P : Programs S) (m : WorldState S) (es : List Event) (n : ℕ) (e : Event) → RunFrom P m es
    → slice_get es n ≡ Some e
    → May P (after_all P m (take n es)) e
may_at P m [] n e run at = absurd (let k : None ≡ Some e = at in cc)
may_at P m (f ∷ es) zero e run at = let same : f ≡ e = cc in subst (λ (x : Event). May P m x) same run.0
may_at P m (f ∷ es) (suc n) e run at = may_at P (after P m f) es n e run.1 at
