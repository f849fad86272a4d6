use Rattle.std.proofs.Common.{◌≡◌, ℕ, ◌++◌, map, take}
use Rattle.place_kit.specs.Kept.{history_of}
use Rattle.merge_runs.specs.Keyed.{moment_in}
use Rattle.merge_runs.specs.Walks.{acted_at, list_at}
use Rattle.merge_runs.proofs.agree.first_apart.Given as goal

-- what was taken at each place, and what is left, is the place's history
abbrev pub invariant-loop-keyed : goal.invariant-loop-keyed
invariant-loop-keyed l = (n : ℕ) → acted_at n (map moment_in (take l.keyed-index l.order)) ++ list_at (map (λ h. h.now) l.lists.items) n
    ≡ list_at (map history_of l.kepts) n
