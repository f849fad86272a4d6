use Rattle.std.proofs.Common.{Some, sym, ap, ◌∙◌}
use Rattle.map_words.proofs.Finds.{find_at, find_gap}
use Rattle.sorted_vec.proofs.sorted.SortedVec.get.Goals as goal

pub returns-in-Ok-clause-value : goal.returns-in-Ok-clause-value
returns-in-Ok-clause-value g c =
    let R = g.K.Ord.cmp in
    let pairs = c.self.inside.items.items in
    let found = find_at R c.args.key.now pairs c.in-Ok.i c.index.result.now (rw c.self.view_is c.in-Ok.ensures.found) in
    sym (rw c.self.view_is at (found ∙ ap (λ pair. Some pair.1) (sym c.index.ensures)))

pub returns-in-Err-clause-value : goal.returns-in-Err-clause-value
returns-in-Err-clause-value g c =
    sym (find_gap g.K.Ord.cmp c.args.key.now g.met.K.Ord.total c.args.self.now _ c.in-Err.ensures.rising c.in-Err.ensures.absent)
