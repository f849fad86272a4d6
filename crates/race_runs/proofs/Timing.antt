-- the moments up to a dump's clock, and those behind it
use Rattle.std.proofs.Common.{◌≡◌, ℕ, ◌<◌, ◌≤◌, true, false, not, List, [], ◌∷◌, refl, ap, ◌∙◌, arith}
use Rattle.std.proofs.lemmas.List.Elements.{filter-append, recursion_from_All}
use Rattle.std.proofs.lemmas.List.{append-nil}
use Rattle.std.specs.List.{AllByRecursion, filter}
use Rattle.entry_words.specs.declared.entry.Moment.{Moment}
use Rattle.entry_words.specs.Moments.{stamp_of}
use Rattle.whole_runs.specs.Woven.{is_early, is_late}
use Rattle.race_runs.specs.Stories.{Part, Timely, all_moments}
use Rattle.race_runs.proofs.Lists.{every-append, every_weaker, filter_all, filter_none, passes}

-- each is stamped up to the number, or above it
abbrev pub AllUpTo : ℕ → List Moment → Type 0
AllUpTo k ms = AllByRecursion (λ m. stamp_of m ≤ k) ms

abbrev pub AllAbove : ℕ → List Moment → Type 0
AllAbove k ms = AllByRecursion (λ m. k < stamp_of m) ms

up_to_is_early : (k : ℕ) (m : Moment) → stamp_of m ≤ k → is_early k m ≡ true
up_to_is_early k m h = grind arith

above_is_late : (k : ℕ) (m : Moment) → k < stamp_of m → is_early k m ≡ false
above_is_late k m h = grind arith

pub early_all : (k : ℕ) (ms : List Moment) → AllUpTo k ms → filter (is_early k) ms ≡ ms
early_all k ms h = filter_all (is_early k) ms (every_weaker (λ m. stamp_of m ≤ k) (λ m. is_early k m ≡ true) (up_to_is_early k) ms h)

late_none : (k : ℕ) (ms : List Moment) → AllUpTo k ms → filter (is_late k) ms ≡ []
late_none k ms h = filter_none (is_late k) ms
    (every_weaker (λ m. stamp_of m ≤ k) (λ m. is_late k m ≡ false) (λ m u. ap not (up_to_is_early k m u)) ms h)

early_none : (k : ℕ) (ms : List Moment) → AllAbove k ms → filter (is_early k) ms ≡ []
early_none k ms h = filter_none (is_early k) ms (every_weaker (λ m. k < stamp_of m) (λ m. is_early k m ≡ false) (above_is_late k) ms h)

late_all : (k : ℕ) (ms : List Moment) → AllAbove k ms → filter (is_late k) ms ≡ ms
late_all k ms h = filter_all (is_late k) ms
    (every_weaker (λ m. k < stamp_of m) (λ m. is_late k m ≡ true) (λ m u. ap not (above_is_late k m u)) ms h)

-- ---- what a client noted

later : (low : ℕ) (clocks : List ℕ) (ended : List Part) (last : Part) → Timely low clocks ended last → AllAbove low (all_moments ended last)
later low [] [] last t = recursion_from_All (λ m. low < stamp_of m) last.news t
later low (k ∷ ks) (p ∷ ps) last (rises, news, rest) =
    every-append (λ m. low < stamp_of m) p.news (all_moments ps last)
    (every_weaker (λ m. (low < stamp_of m) × (stamp_of m ≤ k)) (λ m. low < stamp_of m) (λ m h. h.0) p.news
    (recursion_from_All (λ m. (low < stamp_of m) × (stamp_of m ≤ k)) p.news news))
    (every_weaker (λ m. k < stamp_of m) (λ m. low < stamp_of m) (λ m h. omega arith) (all_moments ps last) (later k ks ps last rest))
later low [] (p ∷ ps) last t = absurd t
later low (k ∷ ks) [] last t = absurd t

news_up_to : (low k : ℕ) (ks : List ℕ) (p : Part) (ps : List Part) (last : Part) → Timely low (k ∷ ks) (p ∷ ps) last → AllUpTo k p.news
news_up_to low k ks p ps last (rises, news, rest) =
    every_weaker (λ m. (low < stamp_of m) × (stamp_of m ≤ k)) (λ m. stamp_of m ≤ k) (λ m h. h.1) p.news
    (recursion_from_All (λ m. (low < stamp_of m) × (stamp_of m ≤ k)) p.news news)

-- up to the clock of its first dump is what it noted in its first part
pub early_news : (low k : ℕ) (ks : List ℕ) (p : Part) (ps : List Part) (last : Part) → Timely low (k ∷ ks) (p ∷ ps) last
    → filter (is_early k) (all_moments (p ∷ ps) last) ≡ p.news
early_news low k ks p ps last t =
    filter-append (is_early k) p.news (all_moments ps last)
    ∙ rw (early_all k p.news (news_up_to low k ks p ps last t), early_none k (all_moments ps last) (later k ks ps last t.2))
    (append-nil p.news)

pub late_news : (low k : ℕ) (ks : List ℕ) (p : Part) (ps : List Part) (last : Part) → Timely low (k ∷ ks) (p ∷ ps) last
    → filter (is_late k) (all_moments (p ∷ ps) last) ≡ all_moments ps last
late_news low k ks p ps last t =
    filter-append (is_late k) p.news (all_moments ps last)
    ∙ rw (late_none k p.news (news_up_to low k ks p ps last t), late_all k (all_moments ps last) (later k ks ps last t.2)) refl

early_is_up_to : (k : ℕ) (m : Moment) → is_early k m ≡ true → stamp_of m ≤ k
early_is_up_to k m h = grind arith

pub early_up_to : (k : ℕ) (ms : List Moment) → AllUpTo k (filter (is_early k) ms)
early_up_to k ms = every_weaker (λ m. is_early k m ≡ true) (λ m. stamp_of m ≤ k) (early_is_up_to k) (filter (is_early k) ms)
    (passes (is_early k) ms)
