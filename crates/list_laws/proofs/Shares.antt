-- A list that is shared out one after another: of so many shares, share number k has the items whose number, from 0, leaves k when it is
-- divided by that of all shares, in their order.
use Rattle.std.proofs.Common.{◌⊎◌, ◌≡◌, ◌≢◌, ℕ, zero, suc, ◌+◌, ◌-◌, ◌*◌, ◌/◌, ◌%◌, ◌<◌, ◌≤◌, ◌↔◌, Some, None, List, [], ◌∷◌, ◌++◌}
use Rattle.std.proofs.Common.{set, length, length-append, inl, inr, refl, sym, ap, subst, ◌∙◌, arith, slice_get}
use Rattle.std.proofs.Math.Arith.{digits_mod, digits_div}
use Rattle.std.proofs.Math.Nat.{mod-add-div', mod-lt, mul-le-mul_right}
use Rattle.std.proofs.lemmas.Bool.{cases_eq, cases_lt}
use Rattle.std.proofs.lemmas.Option.{same_Some, slice_get_within}

-- ---- items by their places

pub some_at : {A : Type 0} (xs : List A) (n : ℕ) → n < length xs → (x : A) × (slice_get xs n ≡ Some x)
some_at [] n l = absurd (omega arith)
some_at (x ∷ xs) zero l = (x, refl)
some_at (x ∷ xs) (suc n) l = some_at xs n (omega arith)

none_at : {A : Type 0} (xs : List A) (n : ℕ) → length xs ≤ n → slice_get xs n ≡ None
none_at [] n l = refl
none_at (x ∷ xs) zero l = absurd (omega arith)
none_at (x ∷ xs) (suc n) l = none_at xs n (omega arith)

pub at_end : {A : Type 0} (xs : List A) (x : A) → slice_get (xs ++ x ∷ []) (length xs) ≡ Some x
at_end [] x = refl
at_end (y ∷ xs) x = at_end xs x

pub not_end : {A : Type 0} (xs : List A) (x : A) (n : ℕ) → n ≢ length xs → slice_get (xs ++ x ∷ []) n ≡ slice_get xs n
not_end [] x zero ne = absurd (ne refl)
not_end [] x (suc n) ne = refl
not_end (y ∷ xs) x zero ne = refl
not_end (y ∷ xs) x (suc n) ne = not_end xs x n (λ e. ne (ap suc e))

-- where one list has what the other has there, both have something or none
within_too : {A : Type 0} (xs ys : List A) (i j : ℕ) → slice_get xs i ≡ slice_get ys j → i < length xs → j < length ys
within_too xs ys i j e l = let x = some_at xs i l in slice_get_within ys j x.0 (sym e ∙ x.1)

-- as long a list has an item there too
pub also_at : {A B : Type 0} (xs : List A) (ys : List B) (n : ℕ) (x : A) → slice_get xs n ≡ Some x → length ys ≡ length xs
    → (y : B) × (slice_get ys n ≡ Some y)
also_at xs ys n x e l = let h = slice_get_within xs n x e in some_at ys n (omega arith)

pub same_at : {A : Type 0} (xs : List A) (n : ℕ) (x y : A) → slice_get xs n ≡ Some x → slice_get xs n ≡ Some y → x ≡ y
same_at xs n x y e f = same_Some x y (sym e ∙ f)

-- what stands in a list of which one item was set: that item, or another one that stays
pub set_cases : {A : Type 0} (xs : List A) (i : ℕ) (v : A) (k : ℕ) (x : A) → i < length xs → slice_get (set xs i v) k ≡ Some x
    → ((k ≡ i) × (x ≡ v)) ⊎ ((k ≢ i) × (slice_get xs k ≡ Some x))
set_cases [] i v k x l e = absurd (omega arith)
set_cases (y ∷ xs) zero v zero x l e = inl (refl, sym (same_Some v x e))
set_cases (y ∷ xs) zero v (suc k) x l e = inr ((λ h. absurd cc), e)
set_cases (y ∷ xs) (suc i) v zero x l e = inr ((λ h. absurd cc), e)
set_cases (y ∷ xs) (suc i) v (suc k) x l e = elim (set_cases xs i v k x (omega arith) e) [
  | inl h ↦ inl (ap suc h.0, h.1)
  | inr h ↦ inr ((λ e. h.0 (omega arith)), h.1)
]

-- ---- places of items

pub stands : (w n : ℕ) → n / w * w + n % w ≡ n
stands w n = let e = mod-add-div' n w in omega arith

pub place_share : (w k s : ℕ) → k < w → (s * w + k) % w ≡ k
place_share w k s l = digits_mod s l

pub place_slot : (w k s : ℕ) → k < w → (s * w + k) / w ≡ s
place_slot w k s l = digits_div s l

module _ {X : Type 0} (w : ℕ) (pos : 0 < w) where
  abbrev pub IsShare : List X → ℕ → List X → Type 0
  IsShare xs k ys = (slot : ℕ) → slice_get ys slot ≡ slice_get xs (slot * w + k)

  pub share_within : (xs : List X) (k : ℕ) (ys : List X) → IsShare xs k ys → (slot : ℕ) → (slot < length ys) ↔ (slot * w + k < length xs)
  share_within xs k ys is slot = (within_too ys xs slot (slot * w + k) (is slot), within_too xs ys (slot * w + k) slot (sym (is slot)))

  module _ (xs : List X) (x : X) where
    abbrev pub next : ℕ
    next = length xs % w

    abbrev at : ℕ
    at = length xs / w

    here : at * w + next ≡ length xs
    here = stands w (length xs)

    next_low : next < w
    next_low = mod-lt (length xs) pos

    -- no other slot of the share has that place, and no slot of another share
    not_here : (slot : ℕ) → slot ≢ at → slot * w + next ≢ length xs
    not_here slot ne e = ne (sym (place_slot w next slot next_low) ∙ ap (λ n. n / w) e)

    not_there : (k slot : ℕ) → k < w → k ≢ next → slot * w + k ≢ length xs
    not_there k slot low ne e = ne (sym (place_share w k slot low) ∙ ap (λ n. n % w) e)

    share_length : (ys : List X) → IsShare xs next ys → length ys ≡ at
    share_length ys is =
        let h = here in
        elim (cases_lt at (length ys)) [
          | inl more ↦ (let l = within_too ys xs at (at * w + next) (is at) more in absurd (omega arith))
          | inr up ↦ elim (cases_lt (length ys) at) [
            | inl less ↦ (let l = within_too xs ys (length ys * w + next) (length ys) (sym (is (length ys))) (lower (length ys) less)
                in absurd (omega arith))
            | inr low ↦ omega arith
          ]
        ]
      where
        lower : (slot : ℕ) → slot < at → slot * w + next < length xs
        lower slot l = let s : suc slot ≤ at = omega arith in let m = mul-le-mul_right w s in let h = here in omega arith

    -- ---- one item more

    pub share_more : (ys : List X) → IsShare xs next ys → IsShare (xs ++ x ∷ []) next (ys ++ x ∷ [])
    share_more ys is slot =
        let len = share_length ys is in
        elim (cases_eq slot at) [
          | inl e ↦ ap (slice_get (ys ++ x ∷ [])) (e ∙ sym len) ∙ at_end ys x ∙ sym (at_end xs x)
              ∙ ap (slice_get (xs ++ x ∷ [])) (sym here ∙ ap (λ s. s * w + next) (sym e))
          | inr ne ↦ not_end ys x slot (λ e. ne (e ∙ len)) ∙ is slot ∙ sym (not_end xs x (slot * w + next) (not_here slot ne))
        ]

    pub share_stays : (k : ℕ) (ys : List X) → k < w → k ≢ next → IsShare xs k ys → IsShare (xs ++ x ∷ []) k ys
    share_stays k ys low ne is slot = is slot ∙ sym (not_end xs x (slot * w + k) (not_there k slot low ne))

    -- ---- one item less

    pub share_stayed : (k : ℕ) (ys : List X) → k < w → k ≢ next → IsShare (xs ++ x ∷ []) k ys → IsShare xs k ys
    share_stayed k ys low ne is slot = is slot ∙ not_end xs x (slot * w + k) (not_there k slot low ne)

    last_is : (zs : List X) → IsShare (xs ++ x ∷ []) next zs → slice_get zs at ≡ Some x
    last_is zs is = is at ∙ ap (slice_get (xs ++ x ∷ [])) here ∙ at_end xs x

    pub share_some : (zs : List X) → IsShare (xs ++ x ∷ []) next zs → 0 < length zs
    share_some zs is = let l = slice_get_within zs at x (last_is zs is) in omega arith

    module _ (ys zs : List X) (y : X) (split : zs ≡ ys ++ y ∷ []) (is : IsShare (xs ++ x ∷ []) next zs) where
      left_length : length ys ≡ at
      left_length =
          let l = slice_get_within zs at x (last_is zs is) in
          let e = ap (λ (us : List X). length us) split ∙ length-append ys (y ∷ []) in
          let all = length-append xs (x ∷ []) in
          let h = here in
          elim (cases_lt at (length ys)) [
            | inl more ↦ (let m = within_too zs (xs ++ x ∷ []) (at + 1) ((at + 1) * w + next) (is (at + 1)) (omega arith)
                in absurd (omega arith))
            | inr up ↦ omega arith
          ]

      pub share_last : y ≡ x
      share_last = same_Some y x
          (sym (at_end ys y) ∙ ap (slice_get (ys ++ y ∷ [])) left_length ∙ ap (λ (us : List X). slice_get us at) (sym split) ∙ last_is zs
          is)

      pub share_less : IsShare xs next ys
      share_less slot = elim (cases_eq slot at) [
        | inl e ↦ none_at ys slot (let l = left_length in omega arith) ∙ sym
            (none_at xs (slot * w + next) (let h = here in let f = ap (λ s. s * w) e in omega arith))
        | inr ne ↦ sym (not_end ys y slot (λ e. ne (e ∙ left_length))) ∙ ap (λ (us : List X). slice_get us slot) (sym split) ∙ is slot
            ∙ not_end xs x (slot * w + next) (not_here slot ne)
      ]

  -- ---- shares put together again

  tabulate : (n : ℕ) (P : ℕ → X → Type 0) → ((i : ℕ) → i < n → (x : X) × P i x)
      → (xs : List X) × (length xs ≡ n) × ((i : ℕ) (x : X) → slice_get xs i ≡ Some x → P i x)
  tabulate zero P h = ([], refl, λ i x e. absurd cc)
  tabulate (suc n) P h =
      let first = h 0 (omega arith) in
      let rest = tabulate n (λ i. P (suc i)) (λ i l. h (suc i) (omega arith)) in
      (first.0 ∷ rest.0, ap suc rest.1, by first rest.0 rest.2)
    where
      by : (first : (x : X) × P 0 x) (xs : List X) → ((i : ℕ) (x : X) → slice_get xs i ≡ Some x → P (suc i) x) → (i : ℕ) (x : X)
          → slice_get (first.0 ∷ xs) i ≡ Some x → P i x
      by first xs g zero x e = subst (P 0) (same_Some first.0 x e) first.1
      by first xs g (suc i) x e = g i x e

  pub together : (n : ℕ) (share : ℕ → List X) → ((k : ℕ) → k < w → (slot : ℕ) → (slot < length (share k)) ↔ (slot * w + k < n))
      → (xs : List X) × (length xs ≡ n) × ((k : ℕ) → k < w → IsShare xs k (share k))
  together n share shaped =
      let all = tabulate n (λ i x. slice_get (share (i % w)) (i / w) ≡ Some x)
      (λ i l. some_at (share (i % w)) (i / w) ((shaped (i % w) (mod-lt i pos) (i / w)).1 (let s = stands w i in omega arith))) in
      (all.0, all.1, λ k low slot. by all.0 all.1 all.2 k low slot)
    where
      by : (xs : List X) → length xs ≡ n → ((i : ℕ) (x : X) → slice_get xs i ≡ Some x → slice_get (share (i % w)) (i / w) ≡ Some x)
          → (k : ℕ) → k < w → IsShare xs k (share k)
      by xs len has k low slot = elim (cases_lt (slot * w + k) n) [
        | inl l ↦ (
            let x = some_at xs (slot * w + k) (omega arith) in
            ap (λ j. slice_get (share j) slot) (sym (place_share w k slot low)) ∙ ap (slice_get (share ((slot * w + k) % w)))
            (sym (place_slot w k slot low))
            ∙ has (slot * w + k) x.0 x.1 ∙ sym x.1)
        | inr up ↦ none_at (share k) slot
            (elim (cases_lt slot (length (share k))) [ inl l ↦ absurd (let m = (shaped k low slot).0 l in omega arith) | inr m ↦ m ])
            ∙ sym (none_at xs (slot * w + k) (omega arith))
      ]
