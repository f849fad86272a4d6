use Rattle.std.proofs.Common.{Some, sym, ap, ◌∙◌}
use Rattle.std.specs.FinMap.Entries.{is_sorted-where_key}
use Rattle.map_words.specs.Pairs.{without}
use Rattle.map_words.proofs.Finds.{find_at, find_gap, without_at, without_gap}
use Rattle.sorted_vec.proofs.sorted.SortedVec.take.Goals as goal

pub returns-in-Ok-clause-value : goal.returns-in-Ok-clause-value
returns-in-Ok-clause-value g c =
    let pairs = c.self.inside.items.items in
    let found = find_at g.K.Ord.cmp c.args.key.now pairs c.in-Ok.i c.remove-value.result (rw c.self.view_is c.in-Ok.ensures.found) in
    sym (rw c.self.view_is at (found ∙ ap (λ pair. Some pair.1) (sym c.remove-value.ensures.value)))

pub returns-in-Ok-clause-others : goal.returns-in-Ok-clause-others
returns-in-Ok-clause-others g c =
    let taken = without_at g.K.Ord.cmp c.args.key.now g.met.K.Ord.total c.self.inside.items.items c.in-Ok.i c.self.invariant
    (rw c.self.view_is c.in-Ok.ensures.found) in
    c.remove-value.ensures.items ∙ sym taken ∙ ap (without g.K.Ord.cmp c.args.key.now) c.self.view_is

pub invariant_of-self : goal.invariant_of-self
invariant_of-self g c = rw (returns-in-Ok-clause-others g c) (is_sorted-where_key g.K.Ord.cmp _ c.args.self.now c.in-Ok.ensures.rising)

pub returns-in-Err-clause-value : goal.returns-in-Err-clause-value
returns-in-Err-clause-value g c =
    sym (find_gap g.K.Ord.cmp c.args.key.now g.met.K.Ord.total c.args.self.now _ c.in-Err.ensures.rising c.in-Err.ensures.absent)

pub returns-in-Err-clause-others : goal.returns-in-Err-clause-others
returns-in-Err-clause-others g c =
    sym (without_gap g.K.Ord.cmp c.args.key.now g.met.K.Ord.total c.args.self.now _ c.in-Err.ensures.rising c.in-Err.ensures.absent)
