use Rattle.std.proofs.Common.{rules, sym, ◌∙◌}
use Rattle.std.specs.Ordering.{is_le}
use Rattle.ordered_rows.specs.Pairs.{pairs}
use Rattle.map_words.proofs.Ranges.{up_to_closed, past_up_to, after_none}
use Rattle.ordered_rows.proofs.paged.Rows.seek.Goals as goal

pub returns-in-None-clause-rest : goal.returns-in-None-clause-rest
returns-in-None-clause-rest g c =
    rw c.in-None.is (c.iter.ensures.all ∙ sym (after_none g.K.Ord.cmp g.met.K.Ord.total (pairs c.args.self.now)))

pub returns-in-Some-clause-rest : goal.returns-in-Some-clause-rest
returns-in-Some-clause-rest g c =
    let k = c.in-Some.key.now in
    let rest = c.seek_past.ensures.rest (λ x. is_le (g.K.Ord.cmp x k)) (λ x r met. search rules)
    (up_to_closed g.K.Ord.cmp g.met.K.Ord.total k) in
    rw c.in-Some.is (rest ∙ past_up_to g.K.Ord.cmp g.met.K.Ord.total k (pairs c.args.self.now))
