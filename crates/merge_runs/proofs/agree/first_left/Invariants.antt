use Rattle.std.proofs.Common.{◌≡◌, []}
use Rattle.std.specs.List.{AllWithin}
use Rattle.merge_runs.proofs.agree.first_left.Given as goal

abbrev pub invariant-loop-list : goal.invariant-loop-list
invariant-loop-list l = AllWithin (λ h. h.now ≡ []) l.lists 0 l.list-index
