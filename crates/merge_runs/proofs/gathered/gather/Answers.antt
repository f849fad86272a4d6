use Rattle.std.proofs.Common.{sym, subst, List}
use Rattle.passes.specs.declared.pass.Pass.{Pass}
use Rattle.merge_runs.specs.Merged.{HaveDifferentActors}
use Rattle.merge_runs.proofs.gathered.gather.Goals as goal

pub gathered_order-requires-clause-actors : goal.gathered_order-requires-clause-actors
gathered_order-requires-clause-actors c = subst (λ (ps : List Pass). HaveDifferentActors ps) (sym c.as_slice-2.ensures.value) c.requires.actors
