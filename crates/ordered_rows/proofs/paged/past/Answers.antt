use Rattle.std.proofs.Common.{rules, refl}
use Rattle.std.proofs.lemmas.Fn.{always_returns_same}
use Rattle.map_words.proofs.Ranges.{slice_past, passes_front}
use Rattle.ordered_rows.proofs.paged.past.Goals as goal

pub returns : goal.returns
returns g c p tests closed =
    let page = c.args.page.now in
    let found = c.partition_point-start.ensures in
    let by_key = found.partitioned (λ e. p e.0)
    (always_returns_same _ _ _ (λ a r f' called. (tests a.0.now.0 r called.met.1, search rules)))
    (passes_front g.K.Ord.cmp p page c.requires.rising closed) in
    slice_past p page _ c.partition_point-start.result refl found.bound by_key
