use Rattle.std.proofs.Common.{◌≢◌}
use Rattle.std.specs.List.{AllWithin}
use Rattle.merge_runs.proofs.agree.pass_of.Given as goal

abbrev pub invariant-loop-pass : goal.invariant-loop-pass
invariant-loop-pass l = AllWithin (λ p. p.actor ≢ l.actor) l.passes 0 l.pass-index
