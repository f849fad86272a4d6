use Rattle.std.proofs.Common.{◌+◌, ◌≤◌, length, vec_len, sym, ap, ◌∙◌, arith}
use Rattle.std.specs.List.{remove}
use Rattle.std.proofs.lemmas.List.{get_or-set_same}
use Rattle.std.proofs.lemmas.List.Edits.{length-remove}
use Rattle.ordered_rows.specs.Pairs.{pairs}
use Rattle.ordered_rows.proofs.PageEdits.{shown_at, shown_set, size_at, pages_set, have_lost}
use Rattle.ordered_rows.proofs.pages.take_at.Goals as goal

pub mend-requires : goal.mend-requires
mend-requires g c =
    let pages = c.args.pages.now.items in
    let page = c.index_mut.result.now in
    let here = shown_at pages c.args.i c.requires.page page c.index_mut.ensures.value in
    let less = ap (λ xs. length xs + 1) c.remove-value.ensures.items ∙ length-remove page.items c.args.j (rw here at c.requires.place) in
    let count = c.len.ensures ∙ ap vec_len (c.index.ensures ∙ get_or-set_same pages c.args.i c.remove-value.new.self c.index.result.now
    c.requires.page) ∙ c.remove-value.new.self.ok.0 in
    have_lost pages c.args.i c.requires.page page c.index_mut.ensures.value c.remove-value.new.self c.requires.pages less
    (omega (arith, count, c.if-len-lt-LEAST.true)) c.remove-value.ensures.capacity

pub returns-then-len-lt-LEAST-clause-others : goal.returns-then-len-lt-LEAST-clause-others
returns-then-len-lt-LEAST-clause-others g c =
    let pages = c.args.pages.now.items in
    let page = c.index_mut.result.now in
    let here = shown_at pages c.args.i c.requires.page page c.index_mut.ensures.value in
    c.mend.ensures.same ∙ ap pairs (shown_set pages c.args.i c.remove-value.new.self _ (c.remove-value.ensures.items
    ∙ ap (λ p. remove p c.args.j) (sym here)))

pub returns-else-len-lt-LEAST-clause-others : goal.returns-else-len-lt-LEAST-clause-others
returns-else-len-lt-LEAST-clause-others g c =
    let pages = c.args.pages.now.items in
    let page = c.index_mut.result.now in
    let here = shown_at pages c.args.i c.requires.page page c.index_mut.ensures.value in
    ap pairs (shown_set pages c.args.i c.remove-value.new.self _ (c.remove-value.ensures.items ∙ ap (λ p. remove p c.args.j) (sym here)))

pub returns-else-len-lt-LEAST-clause-pages : goal.returns-else-len-lt-LEAST-clause-pages
returns-else-len-lt-LEAST-clause-pages g c =
    let pages = c.args.pages.now.items in
    let page = c.index_mut.result.now in
    let here = shown_at pages c.args.i c.requires.page page c.index_mut.ensures.value in
    let size = size_at pages c.args.i c.requires.page page c.index_mut.ensures.value c.requires.pages in
    let less = ap (λ xs. length xs + 1) c.remove-value.ensures.items ∙ length-remove page.items c.args.j (rw here at c.requires.place) in
    let count = c.len.ensures ∙ ap vec_len (c.index.ensures ∙ get_or-set_same pages c.args.i c.remove-value.new.self c.index.result.now
    c.requires.page) ∙ c.remove-value.new.self.ok.0 in
    let enough : 16 ≤ length c.remove-value.new.self.items = omega (arith, count, c.if-len-lt-LEAST.false) in
    pages_set pages c.args.i c.requires.page page c.index_mut.ensures.value c.remove-value.new.self c.requires.pages record {
      some = omega (arith, enough);
      most = omega (arith, less, size.most);
      least = λ two. enough;
    } (omega (arith, c.remove-value.ensures.capacity))
