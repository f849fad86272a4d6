use Rattle.std.specs.List.{AllWithin}
use Rattle.merge_runs.specs.Splits.{IsOther}
use Rattle.merge_runs.proofs.split.first_other_of.Given as goal

abbrev pub invariant-loop-entry : goal.invariant-loop-entry
invariant-loop-entry l = AllWithin (λ e. ¬ IsOther l.actor l.step l.in_pass e) l.history 0 l.entry-index
