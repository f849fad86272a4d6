use Rattle.std.proofs.Common.{◌≡◌, None, refl, sym, ap, ◌∙◌, arith}
use Rattle.std.specs.FinMap.{find, put}
use Rattle.ordered_rows.specs.Pairs.{pairs}
use Rattle.ordered_rows.proofs.PageEdits.{count_shown}
use Rattle.ordered_rows.specs.Pages.{shown, IsPageOf}
use Rattle.map_words.specs.Places.{IsAt}
use Rattle.ordered_rows.proofs.InPages.{same_at, if_ok_weaker, page_rises, v_found, v_absent, v_put, v_rows}
use Rattle.ordered_rows.proofs.paged.Rows.put.Goals as goal

pub place_in-requires : goal.place_in-requires
place_in-requires g c =
    let R = g.K.Ord.cmp in
    let k = c.args.key in
    let pages = c.self.inside.pages.items in
    let i = c.in-Some.i in
    let of : IsPageOf R k (shown pages) i = rw c.self.view_is c.in-Some.ensures.page in
    let total = g.met.K.Ord.total in
    let rising = c.self.invariant.rising in
    rw c.deref.ensures.value (page_rises R total k pages i of c.index.result.now c.index.ensures rising)

pub invariant_of-self : goal.invariant_of-self
invariant_of-self g c =
    let R = g.K.Ord.cmp in
    let k = c.args.key in
    let pages = c.self.inside.pages.items in
    let i = c.in-Some.i in
    let of : IsPageOf R k (shown pages) i = rw c.self.view_is c.in-Some.ensures.page in
    let total = g.met.K.Ord.total in
    let rising = c.self.invariant.rising in
    let one : c.index.result.now ≡ c.index_mut.result.now =
    same_at pages i c.index.result.now c.index_mut.result.now (rw (count_shown pages) at of.in_range)
    c.index.ensures c.index_mut.ensures.value in
    let at : IsAt R k c.index_mut.result.now.items c.in-Ok.j = rw (← one, ← c.deref.ensures.value) c.in-Ok.ensures.found in
    v_rows R total k pages i of c.index_mut.result.now c.index_mut.ensures.value rising c.in-Ok.j
    c.index_mut-in-Ok.result.now at c.index_mut-in-Ok.ensures.value c.replace.new.dest _ refl c.self.inside.count c.self.invariant refl

pub returns-in-Ok-clause-stored : goal.returns-in-Ok-clause-stored
returns-in-Ok-clause-stored g c =
    let R = g.K.Ord.cmp in
    let k = c.args.key in
    let pages = c.self.inside.pages.items in
    let i = c.in-Some.i in
    let of : IsPageOf R k (shown pages) i = rw c.self.view_is c.in-Some.ensures.page in
    let total = g.met.K.Ord.total in
    let rising = c.self.invariant.rising in
    let one : c.index.result.now ≡ c.index_mut.result.now =
    same_at pages i c.index.result.now c.index_mut.result.now (rw (count_shown pages) at of.in_range)
    c.index.ensures c.index_mut.ensures.value in
    let at : IsAt R k c.index_mut.result.now.items c.in-Ok.j = rw (← one, ← c.deref.ensures.value) c.in-Ok.ensures.found in
    let placed = v_put R total k pages i of c.index_mut.result.now c.index_mut.ensures.value rising c.in-Ok.j
    c.index_mut-in-Ok.result.now at c.index_mut-in-Ok.ensures.value c.replace.new.dest _ refl in
    placed ∙ ap (λ x. put R k x (pairs (shown pages))) c.replace.ensures.after ∙ ap (λ p. put R k c.args.value (pairs p)) c.self.view_is

pub returns-in-Ok-clause-replaced : goal.returns-in-Ok-clause-replaced
returns-in-Ok-clause-replaced g c =
    let R = g.K.Ord.cmp in
    let k = c.args.key in
    let pages = c.self.inside.pages.items in
    let i = c.in-Some.i in
    let of : IsPageOf R k (shown pages) i = rw c.self.view_is c.in-Some.ensures.page in
    let total = g.met.K.Ord.total in
    let rising = c.self.invariant.rising in
    let one : c.index.result.now ≡ c.index_mut.result.now =
    same_at pages i c.index.result.now c.index_mut.result.now (rw (count_shown pages) at of.in_range)
    c.index.ensures c.index_mut.ensures.value in
    let at : IsAt R k c.index_mut.result.now.items c.in-Ok.j = rw (← one, ← c.deref.ensures.value) c.in-Ok.ensures.found in
    let found = v_found R total k pages i of c.index_mut.result.now c.index_mut.ensures.value rising c.in-Ok.j
    c.index_mut-in-Ok.result.now at c.index_mut-in-Ok.ensures.value in
    rw c.replace.ensures.value (sym (rw c.self.view_is at found))

pub returns-in-Err-clause-replaced : goal.returns-in-Err-clause-replaced
returns-in-Err-clause-replaced g c =
    let R = g.K.Ord.cmp in
    let k = c.args.key in
    let pages = c.self.inside.pages.items in
    let i = c.in-Some.i in
    let of : IsPageOf R k (shown pages) i = rw c.self.view_is c.in-Some.ensures.page in
    let gap = rw c.deref.ensures.value at c.in-Err.ensures.absent in
    let absent = v_absent R g.met.K.Ord.total k pages i of c.index.result.now c.index.ensures c.self.invariant.rising _ gap in
    let none : find R k (pairs c.args.self.now) ≡ None = rw c.self.view_is at absent in
    if_ok_weaker c.put_new.result (λ x e. e ∙ sym none) c.put_new.ensures.replaced

pub returns-in-Err-clause-overwrite_succeeds : goal.returns-in-Err-clause-overwrite_succeeds
returns-in-Err-clause-overwrite_succeeds g c some =
    let R = g.K.Ord.cmp in
    let k = c.args.key in
    let pages = c.self.inside.pages.items in
    let i = c.in-Some.i in
    let of : IsPageOf R k (shown pages) i = rw c.self.view_is c.in-Some.ensures.page in
    let gap = rw c.deref.ensures.value at c.in-Err.ensures.absent in
    let absent = v_absent R g.met.K.Ord.total k pages i of c.index.result.now c.index.ensures c.self.invariant.rising _ gap in
    let none : find R k (pairs c.args.self.now) ≡ None = rw c.self.view_is at absent in
    let is = rw none at some in absurd (grind (arith, is))
