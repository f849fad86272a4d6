-- pages of pairs, and the list that they are together
use Rattle.std.proofs.Common.{◌≡◌, ℕ, zero, suc, ◌<◌, List, [], ◌∷◌, ◌++◌, length, get_or, set, take, drop, None, T}
use Rattle.std.proofs.Common.{refl, sym, ap, ◌∙◌, arith}
use Rattle.std.specs.Prelude.{All}
use Rattle.std.specs.declared.cmp.Ordering.{Ordering}
use Rattle.std.specs.declared.cmp.Ordering.TheVariants.{Less, Greater}
use Rattle.std.specs.Cmp.{IsTotalOrder}
use Rattle.std.specs.FinMap.{find, put}
use Rattle.std.specs.FinMap.Entries.{below_all}
use Rattle.std.proofs.lemmas.List.{append_assoc}
use Rattle.std.proofs.lemmas.List.Elements.{All-nil, All-cons, All-head, All-tail}
use Rattle.ordered_rows.specs.Pairs.{pairs}
use Rattle.map_words.specs.Pairs.{IsRising, without}
use Rattle.ordered_rows.specs.Pages.{IsPageOf}

module _ {K V : Type 0} (R : K → K → Ordering) (k : K) where
  abbrev Below : List (K × V) → Type 0
  Below es = All (λ e. R k e.0 ≡ Greater) es

  abbrev Above : List (K × V) → Type 0
  Above es = All (λ e. R k e.0 ≡ Less) es

  -- what stands before pairs that are all less stays apart from them
  find_past : (front rest : List (K × V)) → Below front → find R k (front ++ rest) ≡ find R k rest
  find_past [] rest below = refl
  find_past (e ∷ front) rest below =
      grind (
        arith,
        All-head (λ (e : K × V). R k e.0 ≡ Greater) e front below,
        find_past front rest (All-tail (λ (x : K × V). R k x.0 ≡ Greater) e front below),
      )

  put_past : (front rest : List (K × V)) (v : V) → Below front → put R k v (front ++ rest) ≡ front ++ put R k v rest
  put_past [] rest v below = refl
  put_past (e ∷ front) rest v below =
      grind (
        arith,
        All-head (λ (e : K × V). R k e.0 ≡ Greater) e front below,
        put_past front rest v (All-tail (λ (x : K × V). R k x.0 ≡ Greater) e front below),
      )

  without_past : (front rest : List (K × V)) → Below front → without R k (front ++ rest) ≡ front ++ without R k rest
  without_past [] rest below = refl
  without_past (e ∷ front) rest below =
      grind (
        arith,
        All-head (λ (e : K × V). R k e.0 ≡ Greater) e front below,
        without_past front rest (All-tail (λ (x : K × V). R k x.0 ≡ Greater) e front below),
      )

  find_none : (back : List (K × V)) → Above back → find R k back ≡ None
  find_none [] above = refl
  find_none (e ∷ back) above =
      grind (
        arith,
        All-head (λ (e : K × V). R k e.0 ≡ Less) e back above,
        find_none back (All-tail (λ (x : K × V). R k x.0 ≡ Less) e back above),
      )

  find_before : (es back : List (K × V)) → Above back → find R k (es ++ back) ≡ find R k es
  find_before [] back above = find_none back above
  find_before (e ∷ es) back above = grind (arith, find_before es back above)

  put_front : (back : List (K × V)) (v : V) → Above back → put R k v back ≡ (k, v) ∷ back
  put_front [] v above = refl
  put_front (e ∷ back) v above = grind (arith, All-head (λ (e : K × V). R k e.0 ≡ Less) e back above)

  put_before : (es back : List (K × V)) (v : V) → Above back → put R k v (es ++ back) ≡ put R k v es ++ back
  put_before [] back v above = put_front back v above
  put_before (e ∷ es) back v above = grind (arith, put_before es back v above)

  without_none : (back : List (K × V)) → Above back → without R k back ≡ back
  without_none [] above = refl
  without_none (e ∷ back) above =
      grind (
        arith,
        All-head (λ (e : K × V). R k e.0 ≡ Less) e back above,
        without_none back (All-tail (λ (x : K × V). R k x.0 ≡ Less) e back above),
      )

  without_before : (es back : List (K × V)) → Above back → without R k (es ++ back) ≡ without R k es ++ back
  without_before [] back above = without_none back above
  without_before (e ∷ es) back above = grind (arith, without_before es back above)

-- the list in three: the pages before a place, the one there, those behind it
pub joined_parts : {X : Type 0} (pages : List (List X)) (i : ℕ) → i < length pages
    → pairs pages ≡ pairs (take i pages) ++ (get_or pages i [] ++ pairs (drop (suc i) pages))
joined_parts [] i lt = absurd (omega arith)
joined_parts (p ∷ pages) zero lt = refl
joined_parts (p ∷ pages) (suc i) lt =
    ap (λ rest. p ++ rest) (joined_parts pages i (omega arith))
    ∙ sym (append_assoc p (pairs (take i pages)) (get_or pages i [] ++ pairs (drop (suc i) pages)))

pub joined_set : {X : Type 0} (pages : List (List X)) (i : ℕ) (page : List X) → i < length pages
    → pairs (set pages i page) ≡ pairs (take i pages) ++ (page ++ pairs (drop (suc i) pages))
joined_set [] i page lt = absurd (omega arith)
joined_set (p ∷ pages) zero page lt = refl
joined_set (p ∷ pages) (suc i) page lt =
    ap (λ rest. p ++ rest) (joined_set pages i page (omega arith))
    ∙ sym (append_assoc p (pairs (take i pages)) (page ++ pairs (drop (suc i) pages)))

module _ {K V : Type 0} (R : K → K → Ordering) (k : K) (pages : List (List (K × V))) (i : ℕ) (here : IsPageOf R k pages i) where
  abbrev page : List (K × V)
  page = get_or pages i []

  pub find_page : find R k (pairs pages) ≡ find R k (get_or pages i [])
  find_page = ap (find R k) (joined_parts pages i here.in_range)
      ∙ find_past R k (pairs (take i pages)) (page ++ pairs (drop (suc i) pages)) here.front
      ∙ find_before R k page (pairs (drop (suc i) pages)) here.back

  pub put_page : (v : V) → pairs (set pages i (put R k v (get_or pages i []))) ≡ put R k v (pairs pages)
  put_page v = joined_set pages i (put R k v page) here.in_range
      ∙ sym (ap (put R k v) (joined_parts pages i here.in_range)
      ∙ put_past R k (pairs (take i pages)) (page ++ pairs (drop (suc i) pages)) v here.front
      ∙ ap (λ rest. pairs (take i pages) ++ rest) (put_before R k page (pairs (drop (suc i) pages)) v here.back))

  pub without_page : pairs (set pages i (without R k (get_or pages i []))) ≡ without R k (pairs pages)
  without_page = joined_set pages i (without R k page) here.in_range
      ∙ sym (ap (without R k) (joined_parts pages i here.in_range)
      ∙ without_past R k (pairs (take i pages)) (page ++ pairs (drop (suc i) pages)) here.front
      ∙ ap (λ rest. pairs (take i pages) ++ rest) (without_before R k page (pairs (drop (suc i) pages)) here.back))

module _ {K V : Type 0} (R : K → K → Ordering) where
  pub tail_of : (e : K × V) (es : List (K × V)) → IsRising R (e ∷ es) → T (below_all R e.0 es) × IsRising R es
  tail_of e es rising = grind arith

  pub rising_back : (front rest : List (K × V)) → IsRising R (front ++ rest) → IsRising R rest
  rising_back [] rest rising = rising
  rising_back (e ∷ front) rest rising = rising_back front rest (tail_of e (front ++ rest) rising).1

  below_front : (x : K) (es rest : List (K × V)) → T (below_all R x (es ++ rest)) → T (below_all R x es)
  below_front x [] rest below = grind arith
  below_front x (e ∷ es) rest below = grind (arith, below_front x es rest)

  pub rising_front : (es rest : List (K × V)) → IsRising R (es ++ rest) → IsRising R es
  rising_front [] rest rising = grind arith
  rising_front (e ∷ es) rest rising =
      let t = tail_of e (es ++ rest) rising in grind (arith, below_front e.0 es rest t.0, rising_front es rest t.1)

  -- along rising pages the pairs of each rise
  pub rising_page : (pages : List (List (K × V))) (i : ℕ) → i < length pages → IsRising R (pairs pages) → IsRising R (get_or pages i [])
  rising_page pages i lt rising =
      rising_front (get_or pages i []) (pairs (drop (suc i) pages))
      (rising_back (pairs (take i pages)) (get_or pages i [] ++ pairs (drop (suc i) pages)) (rw (joined_parts pages i lt) at rising))

  module _ (o : IsTotalOrder R) (k : K) where
    above_all : (x : K) (es : List (K × V)) → R k x ≡ Less → T (below_all R x es) → All (λ e. R k e.0 ≡ Less) es
    above_all x [] less below = All-nil (λ (e : K × V). R k e.0 ≡ Less)
    above_all x (e ∷ es) less below =
        All-cons (λ (e : K × V). R k e.0 ≡ Less) e es (grind (arith, o.trans k x e.0)) (above_all x es less (grind arith))

    -- where the first key is greater, all are
    rising_above : (e : K × V) (es : List (K × V)) → IsRising R (e ∷ es) → R k e.0 ≡ Less → All (λ e. R k e.0 ≡ Less) (e ∷ es)
    rising_above e es rising less =
        All-cons (λ (e : K × V). R k e.0 ≡ Less) e es less (above_all e.0 es less (tail_of e es rising).0)
