use Rattle.std.proofs.Common.{◌≡◌, ◌++◌, ◌+◌, length, take, set, sym, ap, ◌∙◌, arith}
use Rattle.std.specs.List.{insert}
use Rattle.std.proofs.lemmas.List.{take-append-drop, length-take, length-drop}
use Rattle.std.proofs.lemmas.List.Edits.{length-insert}
use Rattle.ordered_rows.specs.Pages.{page_at, shown}
use Rattle.ordered_rows.specs.Pairs.{pairs}
use Rattle.ordered_rows.proofs.PageEdits.{shown_at, split_joined, split_pages, split_others}
use Rattle.ordered_rows.proofs.pages.split_with.Goals as goal

pub returns-clause-stored : goal.returns-clause-stored
returns-clause-stored g c =
    let pages = c.args.pages.now.items in
    let page = c.index_mut-page.result.now in
    let is = c.index_mut-page.ensures.value in
    let lower = c.move_end.new.lower in
    let upper = c.move_end.new.upper in
    let full : c.insert.new.self.items ≡ insert page.items c.args.j c.args.value = rw c.unwrap.ensures at c.insert.ensures.items in
    let parts : lower.items ++ upper.items ≡ insert (page_at (shown pages) c.args.i) c.args.j c.args.value =
    ap (λ a. a ++ upper.items) c.move_end.ensures.lower ∙ ap (λ b. take 32 c.insert.new.self.items ++ b) c.move_end.ensures.upper
    ∙ take-append-drop 32 c.insert.new.self.items ∙ full
    ∙ ap (λ p. insert p c.args.j c.args.value) (sym (shown_at pages c.args.i c.requires.page page is)) in
    let last : c.insert-2.new.self.items ≡ insert (set pages c.args.i lower) (c.args.i + 1) upper =
    rw c.unwrap-2.ensures at c.insert-2.ensures.items in
    ap (λ p. pairs (shown p)) last
    ∙ split_joined pages c.args.i c.requires.page page is lower upper _ (c.args.i + 1) parts (omega arith)

pub returns-clause-pages : goal.returns-clause-pages
returns-clause-pages g c =
    let pages = c.args.pages.now.items in
    let page = c.index_mut-page.result.now in
    let is = c.index_mut-page.ensures.value in
    let lower = c.move_end.new.lower in
    let upper = c.move_end.new.upper in
    let here = shown_at pages c.args.i c.requires.page page is in
    let full : c.insert.new.self.items ≡ insert page.items c.args.j c.args.value = rw c.unwrap.ensures at c.insert.ensures.items in
    let count : length c.insert.new.self.items ≡ 65 =
    ap length full ∙ length-insert page.items c.args.j c.args.value (rw here at c.requires.place)
    ∙ ap (λ n. n + 1) (rw here at c.requires.full) in
    let lower_count = ap length c.move_end.ensures.lower ∙ length-take 32 c.insert.new.self.items in
    let upper_count = ap length c.move_end.ensures.upper ∙ length-drop 32 c.insert.new.self.items in
    let room = c.requires.room c.args.i page c.requires.page in
    let last : c.insert-2.new.self.items ≡ insert (set pages c.args.i lower) (c.args.i + 1) upper =
    rw c.unwrap-2.ensures at c.insert-2.ensures.items in
    rw last (split_pages pages c.args.i c.requires.page page is lower upper (c.args.i + 1) (omega arith)
    (split_others pages c.args.i c.requires.page page is c.requires.pages) c.requires.room
    (omega (arith, c.insert.ensures.capacity, c.move_end.ensures.lower_room, rw (← is) at room))
    (omega (arith, c.requires.upper_room, c.move_end.ensures.upper_room))
    (omega (arith, lower_count, count)) (omega (arith, lower_count, count)) (omega (arith, upper_count, count))
    (omega (arith, upper_count, count)))
