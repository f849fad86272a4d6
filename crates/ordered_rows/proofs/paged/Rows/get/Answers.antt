use Rattle.std.proofs.Common.{◌≡◌, sym}
use Rattle.ordered_rows.proofs.PageEdits.{count_shown}
use Rattle.ordered_rows.specs.Pages.{shown, IsPageOf}
use Rattle.map_words.specs.Places.{IsAt}
use Rattle.ordered_rows.proofs.InPages.{same_at, page_rises, v_found, v_absent}
use Rattle.ordered_rows.proofs.paged.Rows.get.Goals as goal

pub place_in-requires : goal.place_in-requires
place_in-requires g c =
    let R = g.K.Ord.cmp in
    let k = c.args.key.now in
    let pages = c.self.inside.pages.items in
    let i = c.in_ok-i.i in
    let of : IsPageOf R k (shown pages) i = rw c.self.view_is c.in_ok-i.ensures.page in
    let total = g.met.K.Ord.total in
    let rising = c.self.invariant.rising in
    rw c.deref.ensures.value (page_rises R total k pages i of c.index.result.now c.index.ensures rising)

pub returns-in-Ok-clause-value : goal.returns-in-Ok-clause-value
returns-in-Ok-clause-value g c =
    let R = g.K.Ord.cmp in
    let k = c.args.key.now in
    let pages = c.self.inside.pages.items in
    let i = c.in_ok-i.i in
    let of : IsPageOf R k (shown pages) i = rw c.self.view_is c.in_ok-i.ensures.page in
    let total = g.met.K.Ord.total in
    let rising = c.self.invariant.rising in
    let one : c.index.result.now ≡ c.index-in-Ok.result.now =
    same_at pages i c.index.result.now c.index-in-Ok.result.now (rw (count_shown pages) at of.in_range)
    c.index.ensures c.index-in-Ok.ensures in
    let at : IsAt R k c.index.result.now.items c.in-Ok.j = rw c.deref.ensures.value at c.in-Ok.ensures.found in
    let found = v_found R total k pages i of c.index.result.now c.index.ensures rising c.in-Ok.j c.index-in-Ok-2.result.now at
    (rw one c.index-in-Ok-2.ensures) in
    sym (rw c.self.view_is at found)

pub returns-in-Err-clause-value : goal.returns-in-Err-clause-value
returns-in-Err-clause-value g c =
    let R = g.K.Ord.cmp in
    let k = c.args.key.now in
    let pages = c.self.inside.pages.items in
    let i = c.in_ok-i.i in
    let of : IsPageOf R k (shown pages) i = rw c.self.view_is c.in_ok-i.ensures.page in
    let total = g.met.K.Ord.total in
    let rising = c.self.invariant.rising in
    let gap = rw c.deref.ensures.value at c.in-Err.ensures.absent in
    let absent = v_absent R total k pages i of c.index.result.now c.index.ensures rising _ gap in
    sym (rw c.self.view_is at absent)
