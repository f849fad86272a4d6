-- Two lists in order that have the same moments are equal.
use Rattle.std.proofs.Common.{◌≡◌, ℕ, ◌<◌, ◌≤◌, Bool, true, false, ◌&&◌, ◌⊎◌, inl, inr, List, [], ◌∷◌, refl, sym, ◌∙◌}
use Rattle.std.proofs.Common.{ap, subst, arith, ltb}
use Rattle.std.specs.Ordering.{ordering_reverse}
use Rattle.std.specs.declared.cmp.Ordering.TheVariants.{Less, Greater}
use Rattle.std.specs.Cmp.{IsTotalOrder}
use Rattle.std.proofs.lemmas.Cmp.{nat_cmp_total, on_total, then_total}
use borrow.Author.Tests.{ltb-true, lt-ltb}
use Rattle.entry_words.specs.declared.entry.Moment.{Moment}
use Rattle.entry_words.specs.Moments.{stamp_of, actor_of, place_of_moment, rises}
use Rattle.merge_runs.specs.Merged.{moment_cmp, Before, BeforeAll, IsInOrder}

-- membership by cases on the list
abbrev pub In : {X : Type 0} → X → List X → Type 0
In z [] = ⊥
In z (x ∷ xs) = (x ≡ z) ⊎ In z xs

pub both : (a b : Bool) → a && b ≡ true → (a ≡ true) × (b ≡ true)
both true b h = (refl, h)
both false b h = cc

pub total : IsTotalOrder moment_cmp
total = then_total (then_total (on_total stamp_of nat_cmp_total) (on_total place_of_moment nat_cmp_total)) (on_total actor_of nat_cmp_total)

pub one_way : (x y : Moment) → Before x y → Before y x → ⊥
one_way x y p q = let e : Less ≡ Greater = sym p ∙ total.antisymm x y ∙ ap ordering_reverse q in cc

pub before_in : (x : Moment) (ys : List Moment) (z : Moment) → BeforeAll x ys → In z ys → Before x z
before_in x [] z b i = absurd i
before_in x (y ∷ ys) z b (inl e) = subst (λ w. Before x w) e b.0
before_in x (y ∷ ys) z b (inr i) = before_in x ys z b.1 i

heads : (x y : Moment) (xs ys : List Moment) → BeforeAll x xs → BeforeAll y ys → (y ≡ x) ⊎ In x ys → (x ≡ y) ⊎ In y xs → x ≡ y
heads x y xs ys a b (inl e) j = sym e
heads x y xs ys a b (inr i) (inl e) = e
heads x y xs ys a b (inr i) (inr j) = absurd (one_way x y (before_in x xs y a j) (before_in y ys x b i))

tails : (x y : Moment) (xs ys : List Moment) (z : Moment) → BeforeAll x xs → x ≡ y → In z xs → (y ≡ z) ⊎ In z ys → In z ys
tails x y xs ys z a h i (inl e) =
    let w : Before x z = before_in x xs z a i in
    let s : z ≡ x = sym (h ∙ e) in
    let v : Before x x = subst (λ u. Before x u) s w in
    absurd (one_way x x v v)
tails x y xs ys z a h i (inr j) = j

pub same_order : (xs ys : List Moment) → IsInOrder xs → IsInOrder ys → ((z : Moment) → In z xs → In z ys)
    → ((z : Moment) → In z ys → In z xs) → xs ≡ ys
same_order [] [] a b f g = refl
same_order [] (y ∷ ys) a b f g = absurd (g y (inl refl))
same_order (x ∷ xs) [] a b f g = absurd (f x (inl refl))
same_order (x ∷ xs) (y ∷ ys) a b f g =
    let h : x ≡ y = heads x y xs ys a.0 b.0 (f x (inl refl)) (g y (inl refl)) in
    let t : xs ≡ ys = same_order xs ys a.1 b.1 (λ z i. tails x y xs ys z a.0 h i (f z (inr i)))
    (λ z i. tails y x ys xs z b.0 (sym h) i (g z (inr i))) in
    cc

pub stamp_before : (x y : Moment) → stamp_of x < stamp_of y → Before x y
stamp_before x y h = let t : ltb (stamp_of x) (stamp_of y) ≡ true = lt-ltb (stamp_of x) (stamp_of y) h in rw t refl

rises_before : (x : Moment) (low high : ℕ) (ms : List Moment) → rises low high ms ≡ true → stamp_of x ≤ low → BeforeAll x ms
rises_before x low high [] r h = tt
rises_before x low high (m ∷ ms) r h =
    let s = both (ltb low (stamp_of m)) (rises (stamp_of m) high ms) r in
    let l : low < stamp_of m = ltb-true low (stamp_of m) s.0 in
    (stamp_before x m (omega arith), rises_before x (stamp_of m) high ms s.1 (omega arith))

pub order_rises : (low high : ℕ) (ms : List Moment) → rises low high ms ≡ true → IsInOrder ms
order_rises low high [] r = tt
order_rises low high (m ∷ ms) r =
    let s = both (ltb low (stamp_of m)) (rises (stamp_of m) high ms) r in
    (rises_before m (stamp_of m) high ms s.1 (omega arith), order_rises (stamp_of m) high ms s.1)
