-- what is found in a page, and what a change of the page makes of all pairs
use Rattle.std.proofs.Common.{◌≡◌, ℕ, zero, suc, ◌+◌, ◌-◌, ◌<◌, ◌≤◌, List, [], ◌∷◌, ◌++◌, length, get_or}
use Rattle.std.proofs.Common.{set, take, drop, map, Vec, Some, None}
use Rattle.std.proofs.Common.{◌⊎◌, inl, Option, is_some, Result, Ok, Err, IfOk, T, vec_capacity, if◌then◌else◌}
use Rattle.std.proofs.Common.{true, refl, sym, ap, ◌∙◌, arith}
use Rattle.std.specs.Prelude.{All}
use Rattle.std.specs.List.{insert, remove}
use Rattle.std.specs.declared.cmp.Ordering.{Ordering}
use Rattle.std.specs.declared.cmp.Ordering.TheVariants.{Less, Equal, Greater}
use Rattle.std.specs.Ordering.{eq_by_cmp}
use Rattle.std.specs.Cmp.{IsTotalOrder}
use Rattle.std.specs.FinMap.{find, put}
use Rattle.std.specs.FinMap.Entries.{below_all, is_sorted-put}
use Rattle.std.proofs.lemmas.List.{append-nil, map-append, length-append, length-set, set-get_or, take_all, length-drop, drop-map}
use Rattle.std.proofs.lemmas.List.Elements.{All-nil, All-cons, All-head, All-tail}
use Rattle.ordered_rows.specs.Pairs.{pairs, set_value}
use Rattle.map_words.specs.Pairs.{IsRising, without}
use Rattle.ordered_rows.specs.Pages.{page_at, shown, IsPageOf, ArePages, AreRows}
use Rattle.map_words.specs.Places.{IsAt, IsGap}
use Rattle.map_words.proofs.Finds.{find_below, at_tail, find_at, put_at, put_gap, find_gap, without_at, without_gap}
use Rattle.ordered_rows.proofs.PageEdits.{get_or_any, shown_at, shown_set, count_shown, pages_set, size_at}
use Rattle.ordered_rows.proofs.Searched.{tail_of, find_page, put_page, without_page, rising_page}
use Rattle.ordered_rows.proofs.Starts.{all_front, all_back}

-- how many pairs there are when a page has changed
pub length_set : {X : Type 0} (pages : List (List X)) (i : ℕ) (page : List X) → i < length pages
    → length (pairs (set pages i page)) + length (page_at pages i) ≡ length (pairs pages) + length page
length_set [] i page lt = absurd (omega (arith, lt))
length_set (q ∷ pages) zero page lt = omega (arith, length-append q (pairs pages), length-append page (pairs pages))
length_set (q ∷ pages) (suc i) page lt =
    omega (arith, length-append q (pairs pages), length-append q (pairs (set pages i page)), length_set pages i page (omega (arith, lt)))

module _ {K V : Type 0} (R : K → K → Ordering) (o : IsTotalOrder R) (k : K) (pages : List (List (K × V))) (i : ℕ)
    (of : IsPageOf R k pages i) where
  pub put_gap_there : (j : ℕ) (v : V) → IsGap R k (page_at pages i) j
      → pairs (set pages i (insert (page_at pages i) j (k, v))) ≡ put R k v (pairs pages)
  put_gap_there j v gap = ap (λ p. pairs (set pages i p)) (sym (put_gap R k (page_at pages i) j v gap)) ∙ put_page R k pages i of v

  pub find_gap_there : (j : ℕ) → IsRising R (pairs pages) → IsGap R k (page_at pages i) j → find R k (pairs pages) ≡ None
  find_gap_there j rising gap =
      find_page R k pages i of ∙ find_gap R k o (page_at pages i) j (rising_page R pages i of.in_range rising) gap

  pub find_at_there : (j : ℕ) (e : K × V) → IsAt R k (page_at pages i) j → e ≡ get_or (page_at pages i) j e
      → find R k (pairs pages) ≡ Some e.1
  find_at_there j e at is =
      find_page R k pages i of ∙ find_at R k (page_at pages i) j e at ∙ ap (λ (x : K × V). Some x.1) (sym is)

  pub without_at_there : (j : ℕ) → IsRising R (pairs pages) → IsAt R k (page_at pages i) j
      → pairs (set pages i (remove (page_at pages i) j)) ≡ without R k (pairs pages)
  without_at_there j rising at =
      ap (λ p. pairs (set pages i p)) (sym (without_at R k o (page_at pages i) j (rising_page R pages i of.in_range rising) at))
      ∙ without_page R k pages i of

  pub without_gap_there : (j : ℕ) → IsRising R (pairs pages) → IsGap R k (page_at pages i) j → without R k (pairs pages) ≡ pairs pages
  without_gap_there j rising gap =
      sym (without_page R k pages i of)
      ∙ ap (λ p. pairs (set pages i p)) (without_gap R k o (page_at pages i) j (rising_page R pages i of.in_range rising) gap)
      ∙ ap pairs (set-get_or pages i [])

  pub put_at_there : (j : ℕ) (e : K × V) (v : V) → IsAt R k (page_at pages i) j → e ≡ get_or (page_at pages i) j e
      → pairs (set pages i (set (page_at pages i) j (e.0, v))) ≡ put R k v (pairs pages)
  put_at_there j e v at is =
      ap (λ (x : K × V). pairs (set pages i (set (page_at pages i) j (x.0, v)))) is
      ∙ ap (λ p. pairs (set pages i p)) (sym (put_at R k (page_at pages i) j e v at)) ∙ put_page R k pages i of v

module _ {K V : Type 0} (R : K → K → Ordering) (o : IsTotalOrder R) (k : K) (v : V) where
  abbrev valued : List (K × V) → List (K × V)
  valued es = map (λ e. if eq_by_cmp R k e.0 then (e.0, v) else e) es

  same_below : (es : List (K × V)) → All (λ e. R k e.0 ≡ Greater) es → valued es ≡ es
  same_below [] below = refl
  same_below (e ∷ es) below =
      grind (
        arith,
        All-head (λ (x : K × V). R k x.0 ≡ Greater) e es below,
        same_below es (All-tail (λ (x : K × V). R k x.0 ≡ Greater) e es below),
      )

  same_above : (es : List (K × V)) → All (λ e. R k e.0 ≡ Less) es → valued es ≡ es
  same_above [] above = refl
  same_above (e ∷ es) above =
      grind (
        arith,
        All-head (λ (x : K × V). R k x.0 ≡ Less) e es above,
        same_above es (All-tail (λ (x : K × V). R k x.0 ≡ Less) e es above),
      )

  pages_above : (pages : List (List (K × V))) → All (λ e. R k e.0 ≡ Less) (pairs pages) → map valued pages ≡ pages
  pages_above [] above = refl
  pages_above (page ∷ pages) above =
      ap (λ p. p ∷ map valued pages) (same_above page (all_front (λ (x : K × V). R k x.0 ≡ Less) page (pairs pages) above))
      ∙ ap (λ rest. page ∷ rest) (pages_above pages (all_back (λ (x : K × V). R k x.0 ≡ Less) page (pairs pages) above))

  -- the value at a key that is there lies in one page
  valued_page : (pages : List (List (K × V))) (i : ℕ) → IsPageOf R k pages i → map valued pages ≡ set pages i (valued (page_at pages i))
  valued_page [] i of = absurd (omega (arith, of.in_range))
  valued_page (page ∷ pages) zero of = ap (λ rest. valued page ∷ rest) (pages_above pages of.back)
  valued_page (page ∷ pages) (suc i) of =
      ap (λ p. p ∷ map valued pages) (same_below page (all_front (λ (x : K × V). R k x.0 ≡ Greater) page (pairs (take i pages)) of.front))
      ∙ ap (λ rest. page ∷ rest) (valued_page pages i record {
        in_range = omega (arith, of.in_range);
        front = all_back (λ (x : K × V). R k x.0 ≡ Greater) page (pairs (take i pages)) of.front;
        back =
            of.back;
      })

  tied_above : (x : K) (es : List (K × V)) → R k x ≡ Equal → T (below_all R x es) → All (λ e. R k e.0 ≡ Less) es
  tied_above x [] tied below = All-nil (λ (e : K × V). R k e.0 ≡ Less)
  tied_above x (e ∷ es) tied below =
      All-cons (λ (e : K × V). R k e.0 ≡ Less) e es (grind (arith, o.congr k x e.0)) (tied_above x es tied (grind arith))

  valued_at : (page : List (K × V)) (j : ℕ) (d : K × V) → IsRising R page → IsAt R k page j
      → valued page ≡ set page j ((get_or page j d).0, v)
  valued_at [] j d rising at = absurd (omega (arith, at.in_range))
  valued_at (e ∷ page) zero d rising at =
      let rest = same_above page (tied_above e.0 page (at.here d) (tail_of R e page rising).0) in grind (arith, at.here d, rest)
  valued_at (e ∷ page) (suc j) d rising at =
      grind (arith, at.before 0 d, valued_at page j d (tail_of R e page rising).1 (at_tail R k e page j at))

pub same_at : {X : Type 0} (xs : List X) (i : ℕ) (a b : X) → i < length xs → a ≡ get_or xs i a → b ≡ get_or xs i b → a ≡ b
same_at xs i a b lt is was = is ∙ get_or_any xs i a b lt ∙ sym was

pub if_ok_weaker : {T E : Type 0} {P Q : T → Type 0} (r : Result T E) → ((x : T) → P x → Q x) → IfOk r P → IfOk r Q
if_ok_weaker (Ok x) f holds = f x holds
if_ok_weaker (Err e) f holds = tt

pub none_empty : {X A : Type 0} (pages : List (Vec X A)) → ArePages pages → All (λ page. 1 ≤ length page.items) pages
none_empty pages are k d lt = (size_at pages k lt (get_or pages k d) (get_or_any pages k d (get_or pages k d) lt) are).some

module _ {K V : Type 0} (R : K → K → Ordering) (o : IsTotalOrder R) (k : K) (v : V) where
  valued_pairs : (pages : List (List (K × V))) → pairs (map (valued R o k v) pages) ≡ valued R o k v (pairs pages)
  valued_pairs [] = refl
  valued_pairs (page ∷ pages) =
      ap (λ rest. valued R o k v page ++ rest) (valued_pairs pages)
      ∙ sym (map-append (λ (e : K × V). if eq_by_cmp R k e.0 then (e.0, v) else e) page (pairs pages))

  valued_put : (es : List (K × V)) → IsRising R es → is_some (find R k es) ≡ true → valued R o k v es ≡ put R k v es
  valued_put [] rising some = absurd (grind (arith, some))
  valued_put (e ∷ es) rising some =
      let t = tail_of R e es rising in
      grind (arith, some, find_below R k o e.0 es, valued_put es t.1, tied_same, t.0)
    where
      tied_same : R k e.0 ≡ Equal → T (below_all R e.0 es) → valued R o k v es ≡ es
      tied_same tied below = same_above R o k v es (tied_above R o k v e.0 es tied below)

  pub set_value_found : (pages : List (List (K × V))) (x : V) → find R k (pairs pages) ≡ Some x → set_value R k v pages
      ≡ map (valued R o k v) pages
  unfolding set_value
  set_value_found pages x found = rw found refl

  set_value_new : (pages : List (List (K × V))) → find R k (pairs pages) ≡ None → pairs (set_value R k v pages) ≡ put R k v (pairs pages)
  unfolding set_value
  set_value_new pages absent = rw absent (append-nil (put R k v (pairs pages)))

  pub pairs-set_value : (pages : List (List (K × V))) → IsRising R (pairs pages) → pairs (set_value R k v pages) ≡ put R k v (pairs pages)
  pairs-set_value pages rising = by_find (find R k (pairs pages)) refl
    where
      by_find : (f : Option V) → find R k (pairs pages) ≡ f → pairs (set_value R k v pages) ≡ put R k v (pairs pages)
      by_find (Some x) is =
          ap pairs (set_value_found pages x is) ∙ valued_pairs pages ∙ valued_put (pairs pages) rising (ap is_some is)
      by_find None is = set_value_new pages is

-- the page v, at place i
module _ {K V A : Type 0} (R : K → K → Ordering) (o : IsTotalOrder R) (k : K) (pages : List (Vec (K × V) A)) (i : ℕ)
    (of : IsPageOf R k (shown pages) i) (v : Vec (K × V) A) (is : v ≡ get_or pages i v) (rising : IsRising R (pairs (shown pages))) where
  within : i < length pages
  within = let lt = of.in_range in rw (count_shown pages) at lt

  here : page_at (shown pages) i ≡ v.items
  here = shown_at pages i within v is

  pub page_rises : IsRising R v.items
  page_rises = let r = rising_page R (shown pages) i of.in_range rising in rw here at r

  pub v_found : (j : ℕ) (e : K × V) → IsAt R k v.items j → e ≡ get_or v.items j e → find R k (pairs (shown pages)) ≡ Some e.1
  v_found j e there same = find_at_there R o k (shown pages) i of j e (rw here there) (rw here same)

  pub v_absent : (j : ℕ) → IsGap R k v.items j → find R k (pairs (shown pages)) ≡ None
  v_absent j gap = find_gap_there R o k (shown pages) i of j rising (rw here gap)

  pub v_stays : (j : ℕ) → IsGap R k v.items j → without R k (pairs (shown pages)) ≡ pairs (shown pages)
  v_stays j gap = without_gap_there R o k (shown pages) i of j rising (rw here gap)

  module _ (j : ℕ) (e : K × V) (there : IsAt R k v.items j) (same : e ≡ get_or v.items j e) (x : V) (w : Vec (K × V) A)
      (written : w.items ≡ set v.items j (e.0, x)) where
    seen : shown (set pages i w) ≡ set (shown pages) i (set (page_at (shown pages) i) j (e.0, x))
    seen = shown_set pages i w (set (page_at (shown pages) i) j (e.0, x)) (written ∙ ap (λ p. set p j (e.0, x)) (sym here))

    pub v_put : pairs (shown (set pages i w)) ≡ put R k x (pairs (shown pages))
    v_put = ap pairs seen ∙ put_at_there R o k (shown pages) i of j e x (rw here there) (rw here same)

    pub v_set : shown (set pages i w) ≡ set_value R k x (shown pages)
    v_set =
        shown_set pages i w (valued R o k x v.items) (written ∙ ap (λ (y : K × V). set v.items j (y.0, x)) same
        ∙ sym (valued_at R o k x v.items j e page_rises there))
        ∙ ap (λ p. set (shown pages) i (valued R o k x p)) (sym here) ∙ sym (valued_page R o k x (shown pages) i of)
        ∙ sym (set_value_found R o k x (shown pages) e.1 (v_found j e there same))

    pub v_rows : (count : ℕ) → AreRows R pages count → vec_capacity w ≡ vec_capacity v → AreRows R (set pages i w) count
    v_rows count rows keeps =
        let size : length w.items ≡ length v.items = ap length written ∙ length-set v.items j (e.0, x) in
        let many = length_set (shown pages) i (set (page_at (shown pages) i) j (e.0, x)) of.in_range in
        record {
          paged =
              pages_set pages i within v is w rows.paged (rw size (size_at pages i within v is rows.paged)) (omega (arith, keeps));
          rising = rw v_put (is_sorted-put R o k x (pairs (shown pages)) rising);
          counted =
              rows.counted ∙ sym (ap (λ p. length (pairs p)) seen
              ∙ omega (arith, many, length-set (page_at (shown pages) i) j (e.0, x)));
        }

pub shown_from : {X A : Type 0} (pages : List (Vec X A)) (n : ℕ) → shown (take (length pages - n) (drop n pages)) ≡ drop n (shown pages)
shown_from {X} {A} pages n =
    ap shown (take_all (length pages - n) (drop n pages) (omega (arith, length-drop n pages)))
    ∙ sym (drop-map (λ (v : Vec X A). v.items) n pages)

-- what is lent under one name is lent alike where each write leaves the same
pub lent_alike : {G D E : Type 0} (name : G) (f h : E → D) → ((w : E) → f w ≡ h w)
    → ◌≡◌ {A = (G × (E → D)) ⊎ D} (inl (name, f)) (inl (name, h))
lent_alike name f h same = λ n. inl (name, λ w. same w n)
