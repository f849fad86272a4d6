use Rattle.std.proofs.Common.{◌≡◌, ◌<◌, length, ap, ◌∙◌, arith}
use Rattle.ordered_rows.specs.Pages.{shown, ArePages}
use Rattle.ordered_rows.proofs.PageEdits.{shown_at, shown_same, size_at, pages_set, room_set, always}
use Rattle.ordered_rows.proofs.pages.room_for_split.Goals as goal

pub returns-clause-same : goal.returns-clause-same
returns-clause-same g c =
    let pages = c.reserve.new.self.items in
    let lt : c.args.i < length pages = rw c.reserve.ensures.items c.requires.page in
    shown_same pages c.args.i lt c.index_mut.result.now c.index_mut.ensures.value c.reserve_exact.new.self c.reserve_exact.ensures.items
    ∙ ap shown c.reserve.ensures.items

pub returns-clause-pages : goal.returns-clause-pages
returns-clause-pages g c =
    let pages = c.reserve.new.self.items in
    let page = c.index_mut.result.now in
    let lt : c.args.i < length pages = rw c.reserve.ensures.items c.requires.page in
    let are : ArePages pages = rw c.reserve.ensures.items c.requires.pages in
    let size = size_at pages c.args.i lt page c.index_mut.ensures.value are in
    pages_set pages c.args.i lt page c.index_mut.ensures.value c.reserve_exact.new.self are (rw c.reserve_exact.ensures.items size)
    c.reserve_exact.ensures.capacity

pub returns-clause-room : goal.returns-clause-room
returns-clause-room g c =
    let pages = c.reserve.new.self.items in
    let page = c.index_mut.result.now in
    let lt : c.args.i < length pages = rw c.reserve.ensures.items c.requires.page in
    let are : ArePages pages = rw c.reserve.ensures.items c.requires.pages in
    let here = shown_at pages c.args.i lt page c.index_mut.ensures.value in
    let full : length page.items ≡ 64 = rw (← here, c.reserve.ensures.items) c.requires.full in
    always c.with_capacity.result (room_set pages c.args.i lt page c.index_mut.ensures.value c.reserve_exact.new.self are.room
    (omega (arith, c.in_ok-reserve_exact.ensures.ok, full, c.reserve_exact.new.self.ok.0, ap length c.reserve_exact.ensures.items)))
