use Rattle.std.proofs.Common.{◌≡◌, ◌<◌, ◌≤◌, ◌-◌, get_or, ◌++◌, suc, rules, length, true, false, Vec}
use Rattle.std.proofs.Common.{Global, take, drop, sym, ap, ◌∙◌, arith}
use Rattle.std.specs.Prelude.{All}
use Rattle.std.proofs.lemmas.Fn.{always_returns_same}
use Rattle.std.proofs.lemmas.List.Elements.{All-take, All-drop}
use Rattle.ordered_rows.specs.Pairs.{pairs}
use Rattle.map_words.specs.Pairs.{pairs_past, IsRising}
use Rattle.ordered_rows.specs.Pages.{starts, shown, page_at, IsPaged}
use Rattle.ordered_rows.proofs.Shown.{partitioned_map, parted_map}
use Rattle.ordered_rows.proofs.PageEdits.{count_shown, shown_at}
use Rattle.ordered_rows.proofs.Searched.{rising_page}
use Rattle.ordered_rows.proofs.InPages.{none_empty, shown_from}
use Rattle.ordered_rows.proofs.Starts.{starts_parted, past_first, past_pages}
use Rattle.ordered_rows.proofs.paged.Rows.seek_past.Goals as goal

pub returns-in_default-clause-rest : goal.returns-in_default-clause-rest
returns-in_default-clause-rest g c p tests closed =
    let R = g.K.Ord.cmp in
    let items : Vec (g.row.K.Denot × g.row.V.Denot) Global → _ = λ v. v.items in
    let pages = c.deref.result.now in
    let facts = c.partition_point-behind.ensures in
    let n = c.partition_point-behind.result in
    let paged : IsPaged (shown pages) = rw c.deref.ensures.value c.self.invariant.paged.paged in
    let rising : IsRising R (pairs (shown pages)) = rw c.deref.ensures.value c.self.invariant.rising in
    let front = partitioned_map items (λ page. starts p page) pages (starts_parted R p closed (shown pages) paged rising) in
    let by_page = facts.partitioned (λ page. starts p page.items)
    (always_returns_same _ _ _ (λ a r f' called. (called.met.1 p tests, search rules))) front in
    let parted = parted_map items (λ page. starts p page ≡ true) (λ page. starts p page ≡ false) pages n facts.bound by_page in
    let none : n ≡ 0 = omega (arith, c.in_default.ensures) in
    let all = past_first R p closed (shown pages) paged rising n (rw (count_shown pages) facts.bound) parted none in
    c.iter.ensures.all ∙ sym (rw (c.deref.ensures.value, c.self.view_is) at all)

pub past-requires-clause-rising : goal.past-requires-clause-rising
past-requires-clause-rising g c =
    let R = g.K.Ord.cmp in
    let pages = c.self.inside.pages.items in
    let page = c.index.result.now in
    let i = c.in-Some.i in
    let bound = rw c.deref.ensures.value at c.partition_point-behind.ensures.bound in
    let lt : i < length pages = omega (arith, c.in-Some.ensures.0, c.in-Some.ensures.1, bound) in
    let here = shown_at pages i lt page c.index.ensures in
    let own = rising_page R (shown pages) i (rw (count_shown pages) lt) c.self.invariant.rising in
    rw (c.deref-2.ensures.value, ← here) own

pub new-requires : goal.new-requires
new-requires g c =
    let P : Vec (g.row.K.Denot × g.row.V.Denot) Global → _ = λ page. 1 ≤ length page.items in
    let pages = c.deref-3.result.now in
    let all : All P pages = rw c.deref-3.ensures.value (none_empty c.self.inside.pages.items c.self.invariant.paged) in
    All-take P (length pages - c.partition_point-behind.result) (drop c.partition_point-behind.result pages)
    (All-drop P c.partition_point-behind.result pages all)

pub returns-clause-rest : goal.returns-clause-rest
returns-clause-rest g c p tests closed =
    let R = g.K.Ord.cmp in
    let items : Vec (g.row.K.Denot × g.row.V.Denot) Global → _ = λ v. v.items in
    let pages = c.deref.result.now in
    let facts = c.partition_point-behind.ensures in
    let n = c.partition_point-behind.result in
    let i = c.in-Some.i in
    let paged : IsPaged (shown pages) = rw c.deref.ensures.value c.self.invariant.paged.paged in
    let rising : IsRising R (pairs (shown pages)) = rw c.deref.ensures.value c.self.invariant.rising in
    let front = partitioned_map items (λ page. starts p page) pages (starts_parted R p closed (shown pages) paged rising) in
    let by_page = facts.partitioned (λ page. starts p page.items)
    (always_returns_same _ _ _ (λ a r f' called. (called.met.1 p tests, search rules))) front in
    let parted = parted_map items (λ page. starts p page ≡ true) (λ page. starts p page ≡ false) pages n facts.bound by_page in
    let last : suc i ≡ n = omega (arith, c.in-Some.ensures.0, c.in-Some.ensures.1) in
    let bound : n ≤ length (shown pages) = rw (count_shown pages) facts.bound in
    let all = past_pages R p closed (shown pages) paged rising n bound parted i last in
    let page = c.index.result.now in
    let lt : i < length pages = omega (arith, last, facts.bound) in
    let is : page ≡ get_or pages i page = rw c.deref.ensures.value c.index.ensures in
    let here = shown_at pages i lt page is in
    let rest = c.past.ensures p tests closed in
    let behind : c.deref-3.result.now ≡ pages = c.deref-3.ensures.value ∙ sym c.deref.ensures.value in
    let made = rw behind at c.new.ensures in
    made ∙ ap (λ x. x ++ pairs (shown (take (length pages - n) (drop n pages))))
    (rest ∙ ap (pairs_past p) (c.deref-2.ensures.value ∙ sym here))
    ∙ ap (λ x. pairs_past p (page_at (shown pages) i) ++ pairs x) (shown_from pages n) ∙ sym all
    ∙ ap (λ x. pairs_past p (pairs (shown x))) c.deref.ensures.value ∙ ap (λ x. pairs_past p (pairs x)) c.self.view_is
