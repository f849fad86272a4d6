-- Rows in pages, each a list of pairs.
use Rattle.std.specs.Prelude.{◌≡◌, ◌≢◌, ◌+◌, ℕ, suc, ◌<◌, ◌≤◌, List, [], ◌∷◌, map, length}
use Rattle.std.specs.Prelude.{slice_index_or, take, drop, All, Vec, vec_capacity}
use Rattle.ordered_rows.specs.Pairs.{pairs}
use Rattle.map_words.specs.Pairs.{IsRising}
use Rattle.std.specs.Prelude.{Bool, true}
use Rattle.std.specs.declared.cmp.Ordering.{Ordering}
use Rattle.std.specs.declared.cmp.Ordering.TheVariants.{Less, Greater}

-- the page at a place
abbrev pub page_at : {X : Type 0} → List (List X) → ℕ → List X
page_at pages i = slice_index_or pages i []

-- how many pairs a page has, where there are so many pages: 1 to 64, and at least 16 where it is not the only one
pub record IsPageSize (count size : ℕ) : Type 0 where
  pub some : 1 ≤ size
  pub most : size ≤ 64
  pub least : 2 ≤ count → 16 ≤ size

-- each page has as many
abbrev pub IsPaged : {X : Type 0} → List (List X) → Type 0
IsPaged pages = All (λ page. IsPageSize (length pages) (length page)) pages

-- the pairs of pages, as code keeps them
abbrev pub shown : {X A : Type 0} → List (Vec X A) → List (List X)
shown pages = map (λ page. page.items) pages

-- each has room for 65 pairs
abbrev pub HaveRoom : {X A : Type 0} → List (Vec X A) → Type 0
HaveRoom pages = All (λ page. 65 ≤ vec_capacity page) pages

-- pages as code keeps them: where there are two or more, each has that room
pub record ArePages {X A : Type 0} (pages : List (Vec X A)) : Type 0 where
  pub paged : IsPaged (shown pages)
  pub room : 2 ≤ length pages → HaveRoom pages

-- pages of which one has lost a pair and has fewer than 16, so that it may be too small
pub record HaveLost {X A : Type 0} (pages : List (Vec X A)) (i : ℕ) : Type 0 where
  pub in_range : i < length pages
  pub others : (k : ℕ) → k < length pages → k ≢ i → IsPageSize (length pages) (length (page_at (shown pages) k))
  pub most : length (page_at (shown pages) i) ≤ 15
  pub least : 2 ≤ length pages → 15 ≤ length (page_at (shown pages) i)
  pub room : 2 ≤ length pages → HaveRoom pages

-- pages of which two neighbours are to be joined
pub record AreJoinable {X A : Type 0} (pages : List (Vec X A)) (i : ℕ) : Type 0 where
  pub in_range : suc i < length pages
  pub others : (k : ℕ) → k < length pages → k ≢ i → k ≢ suc i → IsPageSize (length pages) (length (page_at (shown pages) k))
  pub most : length (page_at (shown pages) i) + length (page_at (shown pages) (suc i)) ≤ 79
  pub least : 31 ≤ length (page_at (shown pages) i) + length (page_at (shown pages) (suc i))
  pub room : HaveRoom pages

-- the pages of rows, and how many pairs they have
pub record AreRows {K V A : Type 0} (R : K → K → Ordering) (pages : List (Vec (K × V) A)) (count : ℕ) : Type 0 where
  pub paged : ArePages pages
  pub rising : IsRising R (pairs (shown pages))
  pub counted : count ≡ length (pairs (shown pages))

-- whether the first key of a page passes the test p
unfoldable pub starts : {K V : Type 0} → (K → Bool) → List (K × V) → Bool
starts p [] = true
starts p (e ∷ page) = p e.0

-- The pair with key k is in page i if it is in any, or would go there: all keys of the pages before it are less, and all of
-- those behind it greater.
pub record IsPageOf {K V : Type 0} (R : K → K → Ordering) (k : K) (pages : List (List (K × V))) (i : ℕ) : Type 0 where
  pub in_range : i < length pages
  pub front : All (λ e. R k e.0 ≡ Greater) (pairs (take i pages))
  pub back : All (λ e. R k e.0 ≡ Less) (pairs (drop (suc i) pages))
