use Rattle.std.proofs.Common.{◌≡◌, true, false, rules, length, ◌≤◌, Vec, Global, arith}
use Rattle.std.specs.Ordering.{is_le}
use Rattle.std.proofs.lemmas.Fn.{always_returns_same}
use Rattle.ordered_rows.specs.Pairs.{pairs}
use Rattle.map_words.specs.Pairs.{IsRising}
use Rattle.ordered_rows.specs.Pages.{starts, shown, IsPaged}
use Rattle.ordered_rows.proofs.Shown.{partitioned_map, parted_map}
use Rattle.ordered_rows.proofs.PageEdits.{count_shown}
use Rattle.map_words.proofs.Ranges.{up_to_closed}
use Rattle.ordered_rows.proofs.Starts.{starts_parted, page_of_point}
use Rattle.ordered_rows.proofs.paged.Rows.page_of.Goals as goal

pub returns-clause-page : goal.returns-clause-page
returns-clause-page g c =
    let R = g.K.Ord.cmp in
    let k = c.args.key.now in
    let items : Vec (g.row.K.Denot × g.row.V.Denot) Global → _ = λ v. v.items in
    let pages = c.deref.result.now in
    let facts = c.partition_point-behind.ensures in
    let n = c.partition_point-behind.result in
    let paged : IsPaged (shown pages) = rw c.deref.ensures.value c.self.invariant.paged.paged in
    let rising : IsRising R (pairs (shown pages)) = rw c.deref.ensures.value c.self.invariant.rising in
    let front = partitioned_map items (λ page. starts (λ x. is_le (R x k)) page) pages
    (starts_parted R (λ x. is_le (R x k)) (up_to_closed R g.met.K.Ord.total k) (shown pages) paged rising) in
    let by_page = facts.partitioned (λ page. starts (λ x. is_le (R x k)) page.items)
    (always_returns_same _ _ _ (λ a r f' called. search rules)) front in
    let parted = parted_map items (λ page. starts (λ x. is_le (R x k)) page ≡ true)
    (λ page. starts (λ x. is_le (R x k)) page ≡ false) pages n facts.bound by_page in
    let some : 1 ≤ length (shown pages) =
    rw (count_shown pages, c.deref.ensures.value) (grind (arith, c.if-is_empty.ensures, c.self.inside.pages.ok.0)) in
    rw (← c.self.view_is, ← c.deref.ensures.value) (page_of_point R g.met.K.Ord.total k (shown pages) paged rising n c.saturating_sub.result
    (rw (count_shown pages) facts.bound) some parted c.saturating_sub.ensures)
