use Rattle.std.proofs.Common.{rules}
use Rattle.std.proofs.lemmas.List.Sorted.{answers_always, All-permutation}
use Rattle.merge_runs.specs.Keyed.{key_in, IsAt}
use Rattle.merge_runs.proofs.Keys.{all_sorted, order_keyed}
use Rattle.merge_runs.proofs.sorted.sorted_keyed.Goals as goal

pub returns-clause-all : goal.returns-clause-all
returns-clause-all c =
    all_sorted c.args.passes.now c.in_ok-keyed.keyed.items c.sort_by_key.new.self.items c.in_ok-keyed.ensures.moments
    c.sort_by_key.ensures.permutation

pub returns-clause-order : goal.returns-clause-order
returns-clause-order c =
    order_keyed c.args.passes.now c.in_ok-keyed.keyed.items c.sort_by_key.new.self.items c.requires
    c.in_ok-keyed.ensures.moments c.sort_by_key.ensures.permutation
    (c.in_ok-sort_by_key.ensures.sorted key_in (answers_always _ _ _ (λ f a r g h. search rules)))

pub returns-clause-spots : goal.returns-clause-spots
returns-clause-spots c =
    All-permutation (IsAt c.args.passes.now) c.in_ok-keyed.keyed.items c.sort_by_key.new.self.items
    c.sort_by_key.ensures.permutation c.in_ok-keyed.ensures.spots
