use Rattle.std.proofs.Common.{length, sym, ap, ◌∙◌, arith}
use Rattle.std.specs.List.{insert}
use Rattle.std.proofs.lemmas.List.Edits.{length-insert}
use Rattle.ordered_rows.proofs.PageEdits.{shown_at, shown_set, size_at, pages_set}
use Rattle.ordered_rows.proofs.pages.insert_within.Goals as goal

pub returns-in-Ok-clause-stored : goal.returns-in-Ok-clause-stored
returns-in-Ok-clause-stored g c =
    let pages = c.args.pages.now.items in
    let here = shown_at pages c.args.i c.requires.page c.index_mut.result.now c.index_mut.ensures.value in
    shown_set pages c.args.i c.insert.new.self _ (c.in-Ok.ensures.items ∙ ap (λ p. insert p c.args.j c.args.value) (sym here))

pub returns-in-Ok-clause-pages : goal.returns-in-Ok-clause-pages
returns-in-Ok-clause-pages g c =
    let pages = c.args.pages.now.items in
    let page = c.index_mut.result.now in
    let here = shown_at pages c.args.i c.requires.page page c.index_mut.ensures.value in
    let size = size_at pages c.args.i c.requires.page page c.index_mut.ensures.value c.requires.pages in
    let more = ap length c.in-Ok.ensures.items ∙ length-insert page.items c.args.j c.args.value (rw here at c.requires.place) in
    pages_set pages c.args.i c.requires.page page c.index_mut.ensures.value c.insert.new.self c.requires.pages record {
      some = omega (arith, more);
      most = omega (arith, more, rw here at c.requires.more);
      least = λ two. omega (arith, more, size.least two);
    } c.in-Ok.ensures.capacity
