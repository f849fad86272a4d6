use Rattle.std.proofs.Common.{length, sym, ap, ◌∙◌, arith}
use Rattle.std.specs.FinMap.Entries.{is_sorted-where_key}
use Rattle.std.specs.List.{remove}
use Rattle.std.proofs.lemmas.List.Edits.{length-remove}
use Rattle.ordered_rows.specs.Pairs.{pairs}
use Rattle.map_words.specs.Pairs.{without}
use Rattle.ordered_rows.proofs.PageEdits.{shown_at, count_shown}
use Rattle.ordered_rows.specs.Pages.{page_at, shown, IsPageOf}
use Rattle.map_words.specs.Places.{IsAt}
use Rattle.ordered_rows.proofs.InPages.{page_rises, v_absent, v_stays, find_at_there, without_at_there, length_set}
use Rattle.ordered_rows.proofs.paged.Rows.take.Goals as goal

pub place_in-requires : goal.place_in-requires
place_in-requires g c =
    let R = g.K.Ord.cmp in
    let k = c.args.key.now in
    let pages = c.self.inside.pages.items in
    let i = c.in_ok-i.i in
    let of : IsPageOf R k (shown pages) i = rw c.self.view_is c.in_ok-i.ensures.page in
    let total = g.met.K.Ord.total in
    let rising = c.self.invariant.rising in
    rw c.deref.ensures.value (page_rises R total k pages i of c.index.result.now c.index.ensures rising)

pub overflow_sub-self : goal.overflow_sub-self
overflow_sub-self g c =
    let R = g.K.Ord.cmp in
    let k = c.args.key.now in
    let pages = c.self.inside.pages.items in
    let i = c.in_ok-i.i in
    let of : IsPageOf R k (shown pages) i = rw c.self.view_is c.in_ok-i.ensures.page in
    let total = g.met.K.Ord.total in
    let rising = c.self.invariant.rising in
    let value_here = shown_at pages i (rw (count_shown pages) at of.in_range) c.index.result.now c.index.ensures in
    let at : IsAt R k (page_at (shown pages) i) c.in-Ok.j = rw (value_here, ← c.deref.ensures.value) c.in-Ok.ensures.found in
    let many = length_set (shown pages) i (remove (page_at (shown pages) i) c.in-Ok.j) of.in_range in
    let less = length-remove (page_at (shown pages) i) c.in-Ok.j at.in_range in
    omega (arith, many, less, c.self.invariant.counted)

pub invariant_of-self : goal.invariant_of-self
invariant_of-self g c =
    let R = g.K.Ord.cmp in
    let k = c.args.key.now in
    let pages = c.self.inside.pages.items in
    let i = c.in_ok-i.i in
    let of : IsPageOf R k (shown pages) i = rw c.self.view_is c.in_ok-i.ensures.page in
    let total = g.met.K.Ord.total in
    let rising = c.self.invariant.rising in
    let value_here = shown_at pages i (rw (count_shown pages) at of.in_range) c.index.result.now c.index.ensures in
    let at : IsAt R k (page_at (shown pages) i) c.in-Ok.j = rw (value_here, ← c.deref.ensures.value) c.in-Ok.ensures.found in
    let many = length_set (shown pages) i (remove (page_at (shown pages) i) c.in-Ok.j) of.in_range in
    let less = length-remove (page_at (shown pages) i) c.in-Ok.j at.in_range in
    let taken = c.take_at-value.ensures.others ∙ without_at_there R total k (shown pages) i of c.in-Ok.j rising at in
    record {
      paged = c.take_at-value.ensures.pages;
      rising = rw taken (is_sorted-where_key R _ (pairs (shown pages)) rising);
      counted =
          sym (ap length c.take_at-value.ensures.others ∙ omega (arith, many, less, c.self.invariant.counted));
    }

pub returns-in-Ok-clause-value : goal.returns-in-Ok-clause-value
returns-in-Ok-clause-value g c =
    let R = g.K.Ord.cmp in
    let k = c.args.key.now in
    let pages = c.self.inside.pages.items in
    let i = c.in_ok-i.i in
    let of : IsPageOf R k (shown pages) i = rw c.self.view_is c.in_ok-i.ensures.page in
    let total = g.met.K.Ord.total in
    let rising = c.self.invariant.rising in
    let value_here = shown_at pages i (rw (count_shown pages) at of.in_range) c.index.result.now c.index.ensures in
    let at : IsAt R k (page_at (shown pages) i) c.in-Ok.j = rw (value_here, ← c.deref.ensures.value) c.in-Ok.ensures.found in
    let found = find_at_there R total k (shown pages) i of c.in-Ok.j c.take_at-value.result at c.take_at-value.ensures.value in
    sym (rw c.self.view_is at found)

pub returns-in-Ok-clause-others : goal.returns-in-Ok-clause-others
returns-in-Ok-clause-others g c =
    let R = g.K.Ord.cmp in
    let k = c.args.key.now in
    let pages = c.self.inside.pages.items in
    let i = c.in_ok-i.i in
    let of : IsPageOf R k (shown pages) i = rw c.self.view_is c.in_ok-i.ensures.page in
    let total = g.met.K.Ord.total in
    let rising = c.self.invariant.rising in
    let value_here = shown_at pages i (rw (count_shown pages) at of.in_range) c.index.result.now c.index.ensures in
    let at : IsAt R k (page_at (shown pages) i) c.in-Ok.j = rw (value_here, ← c.deref.ensures.value) c.in-Ok.ensures.found in
    c.take_at-value.ensures.others ∙ without_at_there R total k (shown pages) i of c.in-Ok.j rising at
    ∙ ap (λ p. without R k (pairs p)) c.self.view_is

pub returns-in-Err-clause-value : goal.returns-in-Err-clause-value
returns-in-Err-clause-value g c =
    let R = g.K.Ord.cmp in
    let k = c.args.key.now in
    let pages = c.self.inside.pages.items in
    let i = c.in_ok-i.i in
    let of : IsPageOf R k (shown pages) i = rw c.self.view_is c.in_ok-i.ensures.page in
    let total = g.met.K.Ord.total in
    let rising = c.self.invariant.rising in
    let gap = rw c.deref.ensures.value at c.in-Err.ensures.absent in
    let absent = v_absent R total k pages i of c.index.result.now c.index.ensures rising _ gap in
    sym (rw c.self.view_is at absent)

pub returns-in-Err-clause-others : goal.returns-in-Err-clause-others
returns-in-Err-clause-others g c =
    let R = g.K.Ord.cmp in
    let k = c.args.key.now in
    let pages = c.self.inside.pages.items in
    let i = c.in_ok-i.i in
    let of : IsPageOf R k (shown pages) i = rw c.self.view_is c.in_ok-i.ensures.page in
    let total = g.met.K.Ord.total in
    let rising = c.self.invariant.rising in
    let gap = rw c.deref.ensures.value at c.in-Err.ensures.absent in
    let stays = v_stays R total k pages i of c.index.result.now c.index.ensures rising _ gap in
    sym (rw c.self.view_is at stays)
