-- pages by their first keys
use Rattle.std.proofs.Common.{◌≡◌, ℕ, zero, suc, ◌<◌, ◌≤◌, ◌-◌, List, [], ◌∷◌, ◌++◌, length, get_or, take, drop, T, subst}
use Rattle.std.proofs.Common.{true, false, inl, inr, ◌⊎◌, refl, sym, ap, ◌∙◌, arith, Bool}
use Rattle.std.specs.Prelude.{All, Some, None, slice_get}
use Rattle.std.specs.List.{AllWithin}
use Rattle.std.specs.List.Sorted.{IsPartitionedBy, IsPartitionPoint}
use Rattle.std.specs.declared.cmp.Ordering.{Ordering}
use Rattle.std.specs.declared.cmp.Ordering.TheVariants.{Less, Greater}
use Rattle.std.specs.Ordering.{is_le}
use Rattle.std.specs.Cmp.{IsTotalOrder, alike_right}
use Rattle.std.specs.FinMap.Entries.{below_all}
use Rattle.std.proofs.lemmas.Bool.{cases_eq}
use Rattle.std.proofs.lemmas.List.Elements.{All-nil, All-cons, All-head, All-tail, All-append, All-weaker}
use Rattle.ordered_rows.specs.Pairs.{pairs}
use Rattle.map_words.specs.Pairs.{IsRising, IsDownwardClosed, pairs_past}
use Rattle.ordered_rows.specs.Pages.{page_at, starts, IsPaged, IsPageOf}
use Rattle.ordered_rows.proofs.PageEdits.{get_or_any}
use Rattle.map_words.proofs.Ranges.{up_to_closed}
use Rattle.ordered_rows.proofs.Searched.{joined_parts, tail_of, rising_back, rising_front}

module _ {X : Type 0} (P : X → Type 0) where
  pub all_front : (xs ys : List X) → All P (xs ++ ys) → All P xs
  all_front [] ys all = All-nil P
  all_front (x ∷ xs) ys all = All-cons P x xs (All-head P x (xs ++ ys) all) (all_front xs ys (All-tail P x (xs ++ ys) all))

  pub all_back : (xs ys : List X) → All P (xs ++ ys) → All P ys
  all_back [] ys all = all
  all_back (x ∷ xs) ys all = all_back xs ys (All-tail P x (xs ++ ys) all)

  -- what holds of all pairs of the pages before a place holds of each of those pages
  of_page : (pages : List (List X)) (i j : ℕ) → i < j → i < length pages → All P (pairs (take j pages)) → All P (page_at pages i)
  of_page [] i j less lt all = absurd (omega (arith, lt))
  of_page (page ∷ pages) i zero less lt all = absurd (omega (arith, less))
  of_page (page ∷ pages) zero (suc j) less lt all = all_front page (pairs (take j pages)) all
  of_page (page ∷ pages) (suc i) (suc j) less lt all =
      of_page pages i j (omega (arith, less)) (omega (arith, lt)) (all_back page (pairs (take j pages)) all)

module _ {K V : Type 0} (R : K → K → Ordering) where
  below_at : (x : K) (front : List (K × V)) (e : K × V) (back : List (K × V)) → T (below_all R x (front ++ e ∷ back)) → R x e.0 ≡ Less
  below_at x [] e back below = grind arith
  below_at x (y ∷ front) e back below = grind (arith, below_at x front e back)

  -- along a rising list what stands before a pair is less
  less_before : (front : List (K × V)) (e : K × V) (back : List (K × V)) → IsRising R (front ++ e ∷ back)
      → All (λ x. R x.0 e.0 ≡ Less) front
  less_before [] e back rising = All-nil (λ (x : K × V). R x.0 e.0 ≡ Less)
  less_before (y ∷ front) e back rising =
      let t = tail_of R y (front ++ e ∷ back) rising in
      All-cons (λ (x : K × V). R x.0 e.0 ≡ Less) y front (below_at y.0 front e back t.0) (less_before front e back t.1)

  -- and so all pages before one are less than its first pair
  pages_before : (pages : List (List (K × V))) (i : ℕ) (e : K × V) (page : List (K × V)) → i < length pages → IsRising R (pairs pages)
      → page_at pages i ≡ e ∷ page → All (λ x. R x.0 e.0 ≡ Less) (pairs (take i pages))
  pages_before pages i e page lt rising is =
      let front = pairs (take i pages) in
      let back = pairs (drop (suc i) pages) in
      let parts : pairs pages ≡ front ++ (e ∷ (page ++ back)) =
      joined_parts pages i lt ∙ ap (λ p. front ++ (p ++ back)) is in
      less_before front e (page ++ back) (rw parts at rising)

  module _ (p : K → Bool) (closed : IsDownwardClosed R p) where
    fail_behind : (x : K) (es : List (K × V)) → T (below_all R x es) → p x ≡ false → All (λ e. p e.0 ≡ false) es
    fail_behind x [] below fails = All-nil (λ (e : K × V). p e.0 ≡ false)
    fail_behind x (e ∷ es) below fails =
        All-cons (λ (e : K × V). p e.0 ≡ false) e es (grind (arith, closed x e.0)) (fail_behind x es (grind arith) fails)

    page_fails : (page : List (K × V)) → IsRising R page → starts p page ≡ false → All (λ e. p e.0 ≡ false) page
    unfolding starts
    page_fails [] rising fails = All-nil (λ (e : K × V). p e.0 ≡ false)
    page_fails (e ∷ page) rising fails =
        let first : p e.0 ≡ false = grind (arith, fails) in
        All-cons (λ (e : K × V). p e.0 ≡ false) e page first (fail_behind e.0 page (tail_of R e page rising).0 first)

    -- where the first key of each page fails, all fail
    pages_fail : (pages : List (List (K × V))) → IsRising R (pairs pages) → All (λ page. starts p page ≡ false) pages
        → All (λ e. p e.0 ≡ false) (pairs pages)
    pages_fail [] rising fail = All-nil (λ (e : K × V). p e.0 ≡ false)
    pages_fail (page ∷ pages) rising fail =
        All-append (λ (e : K × V). p e.0 ≡ false) page (pairs pages)
        (page_fails page (rising_front R page (pairs pages) rising) (All-head (λ (q : List (K × V)). starts p q ≡ false) page pages fail))
        (pages_fail pages (rising_back R page (pairs pages) rising) (All-tail (λ (q : List (K × V)). starts p q ≡ false) page pages fail))

  -- where the pages that start with a passing key come first, as they do along rising pages
  module _ (p : K → Bool) (closed : IsDownwardClosed R p) (pages : List (List (K × V))) (paged : IsPaged pages)
      (rising : IsRising R (pairs pages)) where
    abbrev Passes : List (K × V) → Type 0
    Passes page = starts p page ≡ true

    start_of : (i : ℕ) → i < length pages → (e : K × V) × (page : List (K × V)) × (page_at pages i ≡ e ∷ page)
    start_of i lt = named (page_at pages i) refl (paged i [] lt).some
      where
        named : (q : List (K × V)) → page_at pages i ≡ q → 1 ≤ length q → (e : K × V) × (page : List (K × V)) × (page_at pages i ≡ e ∷ page)
        named [] is some = absurd (omega (arith, some))
        named (e ∷ page) is some = (e, page, is)

    starts_at : (e : K × V) (page : List (K × V)) → starts p (e ∷ page) ≡ p e.0
    unfolding starts
    starts_at e page = refl

    pub starts_parted : IsPartitionedBy (λ page. starts p page) pages
    starts_parted i j d le in_range passes = by_place (cases_eq i j)
      where
        by_place : (i ≡ j) ⊎ (i ≡ j → ⊥) → starts p (get_or pages i d) ≡ true
        by_place (inl e) = rw e passes
        by_place (inr o) =
            let less : i < j = omega (arith, le, o) in
            let lt : i < length pages = omega (arith, less, in_range) in
            let later = start_of j in_range in
            let earlier = start_of i lt in
            let passes_later : p later.0.0 ≡ true =
            sym (starts_at later.0 later.1) ∙ ap (starts p) (sym later.2 ∙ get_or_any pages j [] d in_range) ∙ passes in
            let all = pages_before pages j later.0 later.1 in_range rising later.2 in
            let own = of_page (λ x. R x.0 later.0.0 ≡ Less) pages i j less lt all in
            let first = All-head (λ x. R x.0 later.0.0 ≡ Less) earlier.0 earlier.1 (rw earlier.2 at own) in
            ap (starts p) (get_or_any pages i d [] lt ∙ earlier.2) ∙ starts_at earlier.0 earlier.1
            ∙ closed earlier.0.0 later.0.0 first passes_later

    module _ (n : ℕ) (le : n ≤ length pages)
        (point : IsPartitionPoint (λ page. starts p page ≡ true) (λ page. starts p page ≡ false) pages n) where
      pub behind_fails : All (λ e. p e.0 ≡ false) (pairs (drop n pages))
      behind_fails =
          pages_fail p closed (drop n pages) (drop_rises n pages rising) (fails_from n pages le point.1)
        where
          drop_rises : (n : ℕ) (q : List (List (K × V))) → IsRising R (pairs q) → IsRising R (pairs (drop n q))
          drop_rises zero q r = r
          drop_rises (suc n) [] r = r
          drop_rises (suc n) (page ∷ q) r = drop_rises n q (rising_back R page (pairs q) r)

          fails_from : (n : ℕ) (q : List (List (K × V))) → n ≤ length q → AllWithin (λ page. starts p page ≡ false) q n (length q)
              → All (λ page. starts p page ≡ false) (drop n q)
          fails_from zero q le within = λ k d lt. within k d (omega arith) lt
          fails_from (suc n) [] le within = absurd (omega (arith, le))
          fails_from (suc n) (page ∷ q) le within =
              fails_from n q (omega (arith, le)) (λ k d low high. within (suc k) d (omega (arith, low)) (omega (arith, high)))

      -- the last page that starts with a passing key, and what stands before it
      pub last_start : (i : ℕ) → suc i ≡ n → (e : K × V) × (p e.0 ≡ true) × All (λ x. R x.0 e.0 ≡ Less) (pairs (take i pages))
      last_start i is =
          let lt : i < length pages = omega (arith, is, le) in
          let first = start_of i lt in
          let passes = point.0 i [] (omega arith) (omega (arith, is)) in (
            first.0,
            sym (starts_at first.0 first.1) ∙ ap (starts p) (sym first.2) ∙ passes,
            pages_before pages i first.0 first.1 lt rising first.2,
          )

module _ {K : Type 0} (R : K → K → Ordering) (o : IsTotalOrder R) (k : K) where
  pub above_of : (x : K) → is_le (R x k) ≡ false → R k x ≡ Less
  above_of x fails = grind (arith, fails, o.antisymm k x)

  pub below_of : (e x : K) → is_le (R e k) ≡ true → R x e ≡ Less → R k x ≡ Greater
  below_of e x le less = grind (arith, le, less, o.trans x e k, alike_right o e k x, o.antisymm k x)

  -- the last page that starts up to the key, or the first page, is that of the key
  pub page_of_point : {V : Type 0} (pages : List (List (K × V))) (paged : IsPaged pages) (rising : IsRising R (pairs pages)) (n i : ℕ)
      → n ≤ length pages → 1 ≤ length pages → IsPartitionPoint (λ page. starts (λ x. is_le (R x k)) page ≡ true)
      (λ page. starts (λ x. is_le (R x k)) page ≡ false) pages n → i ≡ n - 1 → IsPageOf R k pages i
  page_of_point {V} pages paged rising n i le some point is = by_point n refl
    where
      fails : All (λ (e : K × V). is_le (R e.0 k) ≡ false) (pairs (drop n pages))
      fails = behind_fails R (λ x. is_le (R x k)) (up_to_closed R o k) pages paged rising n le point

      greater : (es : List (K × V)) → All (λ (e : K × V). is_le (R e.0 k) ≡ false) es → All (λ e. R k e.0 ≡ Less) es
      greater es all = All-weaker (λ (e : K × V). is_le (R e.0 k) ≡ false) (λ e. R k e.0 ≡ Less) (λ e f. above_of e.0 f) es all

      by_point : (m : ℕ) → n ≡ m → IsPageOf R k pages i
      by_point zero e =
          let first : i ≡ 0 = omega (arith, is, e) in
          let lt : 0 < length pages = some in
          let all : All (λ (x : K × V). is_le (R x.0 k) ≡ false) (page_at pages 0 ++ pairs (drop 1 pages)) =
          rw (e, joined_parts pages 0 lt) at fails in
          rw first record {
            in_range = lt;
            front = All-nil (λ (x : K × V). R k x.0 ≡ Greater);
            back =
                greater (pairs (drop 1 pages))
                (all_back (λ (x : K × V). is_le (R x.0 k) ≡ false) (page_at pages 0) (pairs (drop 1 pages)) all);
          }
      by_point (suc m) e =
          let last : suc i ≡ n = omega (arith, is, e) in
          let start = last_start R (λ x. is_le (R x k)) (up_to_closed R o k) pages paged rising n le point i last in
          record {
            in_range = omega (arith, last, le);
            front =
                All-weaker (λ (x : K × V). R x.0 start.0.0 ≡ Less) (λ x. R k x.0 ≡ Greater)
                (λ x less. below_of start.0.0 x.0 start.1 less) (pairs (take i pages)) start.2;
            back = rw last (greater (pairs (drop n pages)) fails);
          }

-- the pairs past those that pass, page by page
module _ {K V : Type 0} (p : K → Bool) where
  pub starts_some : (page : List (K × V)) (e : K × V) → Some e ≡ slice_get page 0 → starts p page ≡ p e.0
  unfolding starts
  starts_some [] e is = absurd (grind (arith, is))
  starts_some (x ∷ page) e is = grind (arith, is)

  pub starts_none : (page : List (K × V)) → None ≡ slice_get page 0 → starts p page ≡ true
  unfolding starts
  starts_none [] is = refl
  starts_none (x ∷ page) is = absurd (grind (arith, is))

  past_append : (xs ys : List (K × V)) → pairs_past p (xs ++ ys) ≡ pairs_past p xs ++ pairs_past p ys
  past_append [] ys = refl
  past_append (e ∷ xs) ys = grind (arith, past_append xs ys)

  pub past_all : (es : List (K × V)) → All (λ e. p e.0 ≡ false) es → pairs_past p es ≡ es
  past_all [] fail = refl
  past_all (e ∷ es) fail =
      grind (arith, All-head (λ (x : K × V). p x.0 ≡ false) e es fail, past_all es (All-tail (λ (x : K × V). p x.0 ≡ false) e es fail))

  past_none : (es : List (K × V)) → All (λ e. p e.0 ≡ true) es → pairs_past p es ≡ []
  past_none [] pass = refl
  past_none (e ∷ es) pass =
      grind (arith, All-head (λ (x : K × V). p x.0 ≡ true) e es pass, past_none es (All-tail (λ (x : K × V). p x.0 ≡ true) e es pass))

module _ {K V : Type 0} (R : K → K → Ordering) (p : K → Bool) (closed : IsDownwardClosed R p) (pages : List (List (K × V)))
    (paged : IsPaged pages) (rising : IsRising R (pairs pages)) (n : ℕ) (le : n ≤ length pages)
    (point : IsPartitionPoint (λ page. starts p page ≡ true) (λ page. starts p page ≡ false) pages n) where
  pub past_first : n ≡ 0 → pairs_past p (pairs pages) ≡ pairs pages
  past_first none =
      let fails = behind_fails R p closed pages paged rising n le point in
      past_all p (pairs pages) (rw none at fails)

  pub past_pages : (i : ℕ) → suc i ≡ n → pairs_past p (pairs pages) ≡ pairs_past p (page_at pages i) ++ pairs (drop n pages)
  past_pages i is =
      let front = pairs (take i pages) in
      let back = pairs (drop n pages) in
      let parts : pairs pages ≡ front ++ (page_at pages i ++ back) =
      subst (λ m. pairs pages ≡ front ++ (page_at pages i ++ pairs (drop m pages))) is (joined_parts pages i (omega (arith, is, le))) in
      let start = last_start R p closed pages paged rising n le point i is in
      let pass = All-weaker (λ (x : K × V). R x.0 start.0.0 ≡ Less) (λ x. p x.0 ≡ true)
      (λ x less. closed x.0 start.0.0 less start.1) front start.2 in
      ap (pairs_past p) parts ∙ past_append p front (page_at pages i ++ back)
      ∙ ap (λ x. x ++ pairs_past p (page_at pages i ++ back)) (past_none p front pass)
      ∙ past_append p (page_at pages i) back
      ∙ ap (λ x. pairs_past p (page_at pages i) ++ x) (past_all p back (behind_fails R p closed pages paged rising n le point))
