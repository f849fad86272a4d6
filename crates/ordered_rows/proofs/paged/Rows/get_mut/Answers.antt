use Rattle.std.proofs.Common.{◌≡◌, inr, refl, sym, ap, slice_set}
use Rattle.std.specs.Vec.{with_item}
use Rattle.ordered_rows.specs.Pairs.{set_value}
use Rattle.ordered_rows.specs.Pages.{shown, IsPageOf}
use Rattle.map_words.specs.Places.{IsAt}
use Rattle.ordered_rows.proofs.PageEdits.{count_shown}
use Rattle.ordered_rows.proofs.InPages.{lent_alike, same_at, page_rises, v_found, v_absent, v_set, v_rows}
use Rattle.ordered_rows.proofs.paged.Rows.get_mut.Goals as goal

pub place_in-requires : goal.place_in-requires
place_in-requires g c =
    let R = g.K.Ord.cmp in
    let k = c.args.key.now in
    let pages = c.self.inside.pages.items in
    let i = c.in_ok-i.i in
    let of : IsPageOf R k (shown pages) i = c.in_ok-i.ensures.page in
    let total = g.met.K.Ord.total in
    let rising = c.self.invariant.rising in
    rw c.deref.ensures.value (page_rises R total k pages i of c.index.result.now c.index.ensures rising)

pub returns-in-Ok : goal.returns-in-Ok
returns-in-Ok g c =
    let R = g.K.Ord.cmp in
    let k = c.args.key.now in
    let pages = c.self.inside.pages.items in
    let i = c.in_ok-i.i in
    let of : IsPageOf R k (shown pages) i = c.in_ok-i.ensures.page in
    let total = g.met.K.Ord.total in
    let rising = c.self.invariant.rising in
    let one : c.index.result.now ≡ c.index_mut.result.now =
    same_at pages i c.index.result.now c.index_mut.result.now (rw (count_shown pages) at of.in_range)
    c.index.ensures c.index_mut.ensures.value in
    let at : IsAt R k c.index_mut.result.now.items c.in-Ok.j = rw (← one, ← c.deref.ensures.value) c.in-Ok.ensures.found in
    let e = c.index_mut-in-Ok.result.now in
    let found = v_found R total k pages i of c.index_mut.result.now c.index_mut.ensures.value rising c.in-Ok.j e at
    c.index_mut-in-Ok.ensures.value in
    let written : (w : g.row.V.Denot) → shown (slice_set pages i (with_item c.index_mut.result.now c.in-Ok.j (e.0, w)))
    ≡ set_value R k w c.args.self.now =
    λ w. rw c.self.view_is at (v_set R total k pages i of c.index_mut.result.now c.index_mut.ensures.value rising c.in-Ok.j e at
    c.index_mut-in-Ok.ensures.value w (with_item c.index_mut.result.now c.in-Ok.j (e.0, w)) refl) in (
      lent_alike _ _ _ written,
      record {
        writes_back = tt;
        value = sym (rw c.self.view_is at found);
        rising =
            rw c.self.view_is at rising;
      },
    )

pub returns-in-Err : goal.returns-in-Err
returns-in-Err g c =
    let R = g.K.Ord.cmp in
    let k = c.args.key.now in
    let pages = c.self.inside.pages.items in
    let i = c.in_ok-i.i in
    let of : IsPageOf R k (shown pages) i = c.in_ok-i.ensures.page in
    let total = g.met.K.Ord.total in
    let rising = c.self.invariant.rising in
    let gap = rw c.deref.ensures.value at c.in-Err.ensures.absent in
    let absent = v_absent R total k pages i of c.index.result.now c.index.ensures rising _ gap in (
      ap inr c.self.view_is,
      record {
        writes_back = tt;
        value = sym (rw c.self.view_is at absent);
        rising = rw c.self.view_is at rising;
      },
    )

pub invariant_of-self-lent : goal.invariant_of-self-lent
invariant_of-self-lent g c w =
    let R = g.K.Ord.cmp in
    let k = c.args.key.now in
    let pages = c.self.inside.pages.items in
    let i = c.in_ok-i.i in
    let of : IsPageOf R k (shown pages) i = c.in_ok-i.ensures.page in
    let total = g.met.K.Ord.total in
    let rising = c.self.invariant.rising in
    let one : c.index.result.now ≡ c.index_mut.result.now =
    same_at pages i c.index.result.now c.index_mut.result.now (rw (count_shown pages) at of.in_range)
    c.index.ensures c.index_mut.ensures.value in
    let at : IsAt R k c.index_mut.result.now.items c.in-Ok.j = rw (← one, ← c.deref.ensures.value) c.in-Ok.ensures.found in
    let e = c.index_mut-in-Ok.result.now in
    v_rows R total k pages i of c.index_mut.result.now c.index_mut.ensures.value rising c.in-Ok.j e at
    c.index_mut-in-Ok.ensures.value w (with_item c.index_mut.result.now c.in-Ok.j (e.0, w)) refl c.self.inside.count c.self.invariant refl
