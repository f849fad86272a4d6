use Rattle.std.specs.List.{All, AllWithin}
use Rattle.place_kit.specs.Kept.{history_of}
use Rattle.merge_runs.specs.Splits.{IsOther}
use Rattle.merge_runs.proofs.split.first_other.Given as goal

abbrev pub invariant-loop-kept : goal.invariant-loop-kept
invariant-loop-kept l = AllWithin (λ k. All (λ e. ¬ IsOther l.actor l.step l.in_pass e) (history_of k)) l.kepts 0 l.kept-index
