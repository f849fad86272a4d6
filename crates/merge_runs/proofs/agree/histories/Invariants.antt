use Rattle.std.proofs.Common.{◌≡◌, map, take}
use Rattle.place_kit.specs.Kept.{history_of}
use Rattle.merge_runs.proofs.agree.histories.Given as goal

abbrev pub invariant-loop-kept : goal.invariant-loop-kept
invariant-loop-kept l = map (λ h. h.now) l.lists.items ≡ map history_of (take l.kept-index l.kepts)
