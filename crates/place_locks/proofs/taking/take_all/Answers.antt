use Rattle.std.proofs.Common.{◌≡◌, length, rules, arith}
use Rattle.std.proofs.lemmas.Grind.{common_steps}
use Rattle.place_locks.proofs.Adding.{one_more}
use Rattle.place_locks.proofs.taking.take_all.Goals as goal

pub loop-at-preserved : goal.loop-at-preserved
loop-at-preserved c = record {
  can = search rules;
  finite = search rules;
  left = grind (arith, common_steps);
  first =
      let kepts = c.loop-at.kepts.items in
      let n = c.len.result in
      let next : n ≡ length kepts = search rules in
      rw c.in_ok-add.ensures.grown
      (one_more c.args.counts.now kepts c.in_ok-kept.kept n c.loop-at.invariant.first next c.in_ok-kept.ensures.label);
}
