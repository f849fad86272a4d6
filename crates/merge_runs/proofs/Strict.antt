-- A sort by key of moments, of which no two have one stamp and one actor, is in order.
use Rattle.std.proofs.Common.{◌≡◌, ℕ, suc, ◌<◌, ◌≤◌, Bool, true, false, cond, ◌&&◌, ◌⊎◌, inl, inr, List, [], ◌∷◌, refl}
use Rattle.std.proofs.Common.{sym, ◌∙◌, ap, arith, length, get_or, eqb, ltb}
use Rattle.std.specs.List.{flat_map, sum_by}
use Rattle.std.specs.List.Sorted.{IsPermutation, IsSortedBy}
use Rattle.std.specs.Ordering.{nat_cmp, ordering_reverse, ordering_then, is_lt}
use Rattle.std.specs.declared.cmp.Ordering.{Ordering}
use Rattle.std.specs.declared.cmp.Ordering.TheVariants.{Less, Equal, Greater}
use Rattle.std.proofs.lemmas.Cmp.{ranked}
use Rattle.std.proofs.lemmas.List.Sorted.{sorted_far, ranks_by, sum_by-IsPermutation}
use Rattle.std.proofs.lemmas.List.Sums.{sum_by-cons, sum_by-append}
use borrow.Author.Tests.{eq-eqb, eqb-true, ltb-true}
use Rattle.entry_words.specs.declared.entry.Moment.{Moment}
use Rattle.passes.specs.declared.pass.Pass.{Pass}
use Rattle.entry_words.specs.Moments.{stamp_of, actor_of, place_of_moment, rises, all_of_actor}
use Rattle.merge_runs.specs.Merged.{moment_cmp, Before, BeforeAll, IsInOrder, moments_of}
use Rattle.merge_runs.proofs.Order.{total, both}
use Rattle.merge_runs.proofs.Members.{count_of}

-- the moment has this stamp and this actor
abbrev pub same_at : ℕ → ℕ → Moment → Bool
same_at s a m = eqb (stamp_of m) s && eqb (actor_of m) a

abbrev pub one_at : ℕ → ℕ → Moment → ℕ
one_at s a m = cond (same_at s a m) 1 0

abbrev pub count_at : ℕ → ℕ → List Moment → ℕ
count_at s a ms = sum_by (one_at s a) ms

not_both : (a b : Bool) → b ≡ false → a && b ≡ false
not_both true b h = h
not_both false b h = refl

and_false : (a b : Bool) → a ≡ false → a && b ≡ false
and_false a b h = rw h refl

zero_at : (s a : ℕ) (m : Moment) → same_at s a m ≡ false → one_at s a m ≡ 0
zero_at s a m h = rw h refl

unit_at : (s a : ℕ) (m : Moment) → one_at s a m ≤ 1
unit_at s a m = elim (same_at s a m) as (λ t. cond t 1 0 ≤ 1) [ true ↦ omega arith | false ↦ omega arith ]

neq_or : (m n : ℕ) (b : Bool) → eqb m n ≡ b → (m ≡ n → ⊥) → eqb m n ≡ false
neq_or m n true h ne = absurd (ne (eqb-true m n h))
neq_or m n false h ne = h

neq_eqb : (m n : ℕ) → n < m → eqb m n ≡ false
neq_eqb m n l = neq_or m n (eqb m n) refl (λ e. omega arith)

none_above : (s a low high : ℕ) (ms : List Moment) → rises low high ms ≡ true → s ≤ low → count_at s a ms ≡ 0
none_above s a low high [] r h = refl
none_above s a low high (m ∷ ms) r h =
    let p = both (ltb low (stamp_of m)) (rises (stamp_of m) high ms) r in
    let l : low < stamp_of m = ltb-true low (stamp_of m) p.0 in
    let n : eqb (stamp_of m) s ≡ false = neq_eqb (stamp_of m) s (omega arith) in
    let z = zero_at s a m (and_false (eqb (stamp_of m) s) (eqb (actor_of m) a) n) in
    let i = none_above s a (stamp_of m) high ms p.1 (omega arith) in
    omega (arith, sum_by-cons (one_at s a) m ms)

stamp_or_not : (s a : ℕ) (m : Moment) (b : Bool) → eqb (stamp_of m) s ≡ b → (stamp_of m ≡ s) ⊎ (same_at s a m ≡ false)
stamp_or_not s a m true h = inl (eqb-true (stamp_of m) s h)
stamp_or_not s a m false h = inr (and_false (eqb (stamp_of m) s) (eqb (actor_of m) a) h)

at_or_not : (s a : ℕ) (m : Moment) → (stamp_of m ≡ s) ⊎ (same_at s a m ≡ false)
at_or_not s a m = stamp_or_not s a m (eqb (stamp_of m) s) refl

pub one_in_rises : (s a low high : ℕ) (ms : List Moment) → rises low high ms ≡ true → count_at s a ms ≤ 1
one_in_rises s a low high [] r = omega arith
one_in_rises s a low high (m ∷ ms) r =
    let p = both (ltb low (stamp_of m)) (rises (stamp_of m) high ms) r in
    elim (at_or_not s a m) [
      | inl e ↦ (let i = none_above s a (stamp_of m) high ms p.1 (omega arith) in let u = unit_at s a m in omega (
        arith,
        sum_by-cons (one_at s a) m ms,
      ))
      | inr n ↦ (let z = zero_at s a m n in let i = one_in_rises s a (stamp_of m) high ms p.1 in omega (
        arith,
        sum_by-cons (one_at s a) m ms,
      ))
    ]

none_of_other : (s a b : ℕ) (ms : List Moment) → all_of_actor b ms ≡ true → eqb b a ≡ false → count_at s a ms ≡ 0
none_of_other s a b [] r h = refl
none_of_other s a b (m ∷ ms) r h =
    let p = both (eqb (actor_of m) b) (all_of_actor b ms) r in
    let e : actor_of m ≡ b = eqb-true (actor_of m) b p.0 in
    let n : eqb (actor_of m) a ≡ false = rw e h in
    let z = zero_at s a m (not_both (eqb (stamp_of m) s) (eqb (actor_of m) a) n) in
    let i = none_of_other s a b ms p.1 h in
    omega (arith, sum_by-cons (one_at s a) m ms)

abbrev pub actor_of_pass : Pass → ℕ
actor_of_pass p = p.actor

one_or_none : (s a : ℕ) (p : Pass) (b : Bool) → eqb p.actor a ≡ b → count_at s a (moments_of p) ≤ cond (eqb p.actor a) 1 0
one_or_none s a p true h = rw h (one_in_rises s a 0 p.clock p.moments.items p.known.rising)
one_or_none s a p false h = rw h (let z = none_of_other s a p.actor p.moments.items p.known.own h in omega arith)

-- no two moments of passes with different actors have one stamp and one actor
pub count_trails : (s a : ℕ) (ps : List Pass) → count_at s a (flat_map moments_of ps) ≤ count_of actor_of_pass a ps
count_trails s a [] = omega arith
count_trails s a (p ∷ ps) =
    let i = count_trails s a ps in
    let f : ℕ = count_at s a (moments_of p) in
    let c : f ≤ cond (eqb p.actor a) 1 0 = one_or_none s a p (eqb p.actor a) refl in
    omega (
      arith,
      sum_by-append (one_at s a) (moments_of p) (flat_map moments_of ps),
      sum_by-cons (λ (q : Pass). cond (eqb (actor_of_pass q) a) 1 0) p ps,
    )

then_equal : (x y z : Ordering) → ordering_then (ordering_then x y) z ≡ Equal → (x ≡ Equal) × (z ≡ Equal)
then_equal Less y z h = cc
then_equal Greater y z h = cc
then_equal Equal Less z h = cc
then_equal Equal Greater z h = cc
then_equal Equal Equal z h = (refl, h)

nat_equal : (x y : ℕ) → nat_cmp x y ≡ Equal → x ≡ y
nat_equal x y h = ranked x y Equal (sym h)

-- it does not come before, and is not at the same stamp of the same actor, so it comes after
decided : (x y : Moment) (o : Ordering) → moment_cmp x y ≡ o → is_lt (moment_cmp y x) ≡ false
    → same_at (stamp_of x) (actor_of x) y ≡ false → Before x y
decided x y Less h w n = h
decided x y Equal h w n =
    let t = then_equal (nat_cmp (stamp_of x) (stamp_of y)) (nat_cmp (place_of_moment x) (place_of_moment y))
    (nat_cmp (actor_of x) (actor_of y)) h in
    let a : eqb (stamp_of y) (stamp_of x) ≡ true = eq-eqb (stamp_of y) (stamp_of x) (sym (nat_equal (stamp_of x) (stamp_of y) t.0)) in
    let b : eqb (actor_of y) (actor_of x) ≡ true = eq-eqb (actor_of y) (actor_of x) (sym (nat_equal (actor_of x) (actor_of y) t.1)) in
    let c : same_at (stamp_of x) (actor_of x) y ≡ true = rw (a, b) refl in
    let d : true ≡ false = sym c ∙ n in cc
decided x y Greater h w n =
    let e : moment_cmp y x ≡ Less = total.antisymm y x ∙ ap ordering_reverse h in
    let d : true ≡ false = sym (ap is_lt e) ∙ w in cc

-- none of them comes before x
abbrev pub NoneBefore : Moment → List Moment → Type 0
NoneBefore x [] = Unit {0}
NoneBefore x (y ∷ ys) = (is_lt (moment_cmp y x) ≡ false) × NoneBefore x ys

abbrev pub IsWeak : List Moment → Type 0
IsWeak [] = Unit {0}
IsWeak (x ∷ xs) = NoneBefore x xs × IsWeak xs

apart_or : (s a : ℕ) (m : Moment) (b : Bool) → same_at s a m ≡ b → one_at s a m ≡ 0 → same_at s a m ≡ false
apart_or s a m true h z = let one : ℕ = 1 in let e : one ≡ 0 = sym (ap (λ t. cond t 1 0) h) ∙ z in absurd (omega arith)
apart_or s a m false h z = h

strict_head : (x : Moment) (ys : List Moment) → NoneBefore x ys → count_at (stamp_of x) (actor_of x) ys ≡ 0 → BeforeAll x ys
strict_head x [] w c = tt
strict_head x (y ∷ ys) w c =
    let s = sum_by-cons (one_at (stamp_of x) (actor_of x)) y ys in
    let z : one_at (stamp_of x) (actor_of x) y ≡ 0 = omega arith in
    let n = apart_or (stamp_of x) (actor_of x) y (same_at (stamp_of x) (actor_of x) y) refl z in
    (decided x y (moment_cmp x y) refl w.0 n, strict_head x ys w.1 (omega arith))

itself_at : (x : Moment) → one_at (stamp_of x) (actor_of x) x ≡ 1
itself_at x =
    let a : eqb (stamp_of x) (stamp_of x) ≡ true = eq-eqb (stamp_of x) (stamp_of x) refl in
    let b : eqb (actor_of x) (actor_of x) ≡ true = eq-eqb (actor_of x) (actor_of x) refl in
    rw (a, b) refl

pub strict : (xs : List Moment) → IsWeak xs → ((s a : ℕ) → count_at s a xs ≤ 1) → IsInOrder xs
strict [] w c = tt
strict (x ∷ xs) w c =
    let one = itself_at x in
    let h = c (stamp_of x) (actor_of x) in
    let z : count_at (stamp_of x) (actor_of x) xs ≡ 0 = omega (arith, sum_by-cons (one_at (stamp_of x) (actor_of x)) x xs) in
    (strict_head x xs w.0 z, strict xs w.1 (λ s a. let k = c s a in omega (arith, sum_by-cons (one_at s a) x xs)))

weak_head : (x : Moment) (ys : List Moment) → ((j : ℕ) (d : Moment) → j < length ys → is_lt (moment_cmp (get_or ys j d) x)
    ≡ false) → NoneBefore x ys
weak_head x [] f = tt
weak_head x (y ∷ ys) f = (f 0 y (omega arith), weak_head x ys (λ j d l. f (suc j) d (omega arith)))

weak : (xs : List Moment) → ((i j : ℕ) (d : Moment) → i ≤ j → j < length xs
    → is_lt (moment_cmp (get_or xs j d) (get_or xs i d)) ≡ false) → IsWeak xs
weak [] f = tt
weak (x ∷ xs) f = (
  weak_head x xs (λ j d l. f 0 (suc j) d (omega arith) (omega arith)),
  weak xs (λ i j d a b. f (suc i) (suc j) d (omega arith) (omega arith)),
)

-- what a sort of the trails of passes with different actors gives
pub order_sorted : (ps : List Pass) (ms : List Moment) → ((a : ℕ) → count_of actor_of_pass a ps ≤ 1)
    → IsPermutation (flat_map moments_of ps) ms
    → IsSortedBy (λ x y. is_lt (moment_cmp x y)) ms → IsInOrder ms
order_sorted ps ms c p s =
    strict ms (weak ms (sorted_far (λ x y. is_lt (moment_cmp x y)) (ranks_by total (λ m. m)) ms s))
    (λ s' a. let e = sum_by-IsPermutation (one_at s' a) (flat_map moments_of ps) ms p in let b =
    count_trails s' a ps in let d = c a in omega arith)
