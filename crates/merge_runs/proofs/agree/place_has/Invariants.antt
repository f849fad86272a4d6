use Rattle.std.proofs.Common.{◌≢◌}
use Rattle.std.specs.List.{AllWithin}
use Rattle.place_kit.specs.Kept.{history_of}
use Rattle.merge_runs.proofs.agree.place_has.Given as goal

abbrev pub invariant-loop-other : goal.invariant-loop-other
invariant-loop-other l = AllWithin (λ e. e ≢ l.entry) (history_of l.kept) 0 l.other-index
