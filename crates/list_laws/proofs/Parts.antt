-- Parts of a script.
use Rattle.std.proofs.Common.{◌≡◌, ℕ, zero, suc, ◌+◌, ◌-◌, ◌<◌, ◌≤◌, List, [], ◌∷◌, ◌++◌, length, take, drop, get_or, refl, sym, ap, subst}
use Rattle.std.proofs.Common.{◌∙◌, arith, length-drop}
use Rattle.std.proofs.lemmas.List.{take_more}
use Rattle.std.proofs.lemmas.List.Elements.{All-append}
use Rattle.std.specs.List.{All}

length_take_within : {A : Type 0} → (n : ℕ) (xs : List A) → n ≤ length xs → length (take n xs) ≡ n
length_take_within zero xs l = refl
length_take_within (suc n) [] l = absurd (omega arith)
length_take_within (suc n) (x ∷ xs) l = ap suc (length_take_within n xs (omega arith))

pub length_part : {A : Type 0} → (xs : List A) (s e : ℕ) → s ≤ e → e ≤ length xs → length (take (e - s) (drop s xs)) ≡ e - s
length_part xs s e le in_bounds = length_take_within (e - s) (drop s xs) (let l = length-drop s xs in omega arith)

get_take : {A : Type 0} → (n i : ℕ) (xs : List A) (d : A) → i < n → get_or (take n xs) i d ≡ get_or xs i d
get_take zero i xs d l = absurd (omega arith)
get_take (suc n) i [] d l = refl
get_take (suc n) zero (x ∷ xs) d l = refl
get_take (suc n) (suc i) (x ∷ xs) d l = get_take n i xs d (omega arith)

get_drop : {A : Type 0} → (s i : ℕ) (xs : List A) (d : A) → get_or (drop s xs) i d ≡ get_or xs (s + i) d
get_drop zero i xs d = ap (λ k. get_or xs k d) (let e : i ≡ 0 + i = omega arith in e)
get_drop (suc s) i [] d = refl
get_drop (suc s) i (x ∷ xs) d = get_drop s i xs d ∙ ap (λ k. get_or (x ∷ xs) k d) (let e : suc (s + i) ≡ suc s + i = omega arith in e)

pub drop_more : {A : Type 0} → (n : ℕ) (xs : List A) (d : A) → n < length xs → drop n xs ≡ get_or xs n d ∷ drop (n + 1) xs
drop_more zero [] d l = absurd (omega arith)
drop_more zero (x ∷ xs) d l = refl
drop_more (suc n) [] d l = absurd (omega arith)
drop_more (suc n) (x ∷ xs) d l = drop_more n xs d (omega arith) ∙ ap (λ k. get_or xs n d ∷ drop k (x ∷ xs))
    (let e : suc (n + 1) ≡ suc n + 1 = omega arith in e)

-- the line at i of the part is the next of those that are left
pub next_line : {A : Type 0} → (xs : List A) (s e i : ℕ) (d : A) → s ≤ e → e ≤ length xs → i < length (take (e - s) (drop s xs))
    → drop (s + i) xs ≡ get_or (take (e - s) (drop s xs)) i d ∷ drop (s + (i + 1)) xs
next_line xs s e i d le in_bounds l =
    let len = length_part xs s e le in_bounds in
    let within : s + i < length xs = omega arith in
    let here : get_or (take (e - s) (drop s xs)) i d ≡ get_or xs (s + i) d = get_take (e - s) i (drop s xs) d (omega arith) ∙ get_drop s i
    xs d in
    drop_more (s + i) xs d within ∙ ap (λ x. x ∷ drop (s + i + 1) xs) (sym here) ∙ ap
    (λ k. get_or (take (e - s) (drop s xs)) i d ∷ drop k xs) (let q : s + i + 1 ≡ s + (i + 1) = omega arith in q)

take_nil : {A : Type 0} → (n : ℕ) → take {A = A} n [] ≡ []
take_nil {A} zero = refl
take_nil {A} (suc n) = refl

take_split : {A : Type 0} → (s i : ℕ) (xs : List A) → s ≤ i → take i xs ≡ take s xs ++ take (i - s) (drop s xs)
take_split zero i xs le = ap (λ k. take k xs) (let e : i ≡ i - 0 = omega arith in e)
take_split (suc s) zero xs le = absurd (omega arith)
take_split (suc s) (suc i) [] le = sym (take_nil (suc i - suc s))
take_split (suc s) (suc i) (x ∷ xs) le =
    ap (λ l. x ∷ l) (take_split s i xs (omega arith)) ∙ ap (λ k. x ∷ (take s xs ++ take k (drop s xs)))
    (let e : i - s ≡ suc i - suc s = omega arith in e)

part_grows : {A : Type 0} → (xs : List A) (s i : ℕ) (d : A) → s ≤ i → i < length xs
    → take (i + 1 - s) (drop s xs) ≡ take (i - s) (drop s xs) ++ get_or xs i d ∷ []
part_grows xs s i d le l =
    let e : i + 1 - s ≡ i - s + 1 = omega arith in
    let len = length-drop s xs in
    let here : get_or (drop s xs) (i - s) d ≡ get_or xs i d = get_drop s (i - s) xs d ∙ ap (λ k. get_or xs k d)
    (let q : s + (i - s) ≡ i = omega arith in q) in
    ap (λ k. take k (drop s xs)) e ∙ take_more (drop s xs) (i - s) d (omega arith) ∙ ap (λ x. take (i - s) (drop s xs) ++ x ∷ []) here

-- the lines up to the next one
pub lines_to : {A : Type 0} → (xs : List A) (s i : ℕ) (x : A) → s ≤ i → i < length xs → get_or xs i x ≡ x
    → take (i + 1) xs ≡ (take s xs ++ take (i - s) (drop s xs)) ++ x ∷ []
lines_to xs s i x le l e = take_more xs i x l ∙ ap (λ y. take i xs ++ y ∷ []) e ∙ ap (λ l. l ++ x ∷ []) (take_split s i xs le)

one : {A : Type 0} → (P : A → Type 0) (x : A) (k : ℕ) (d : A) → k < 1 → P x → P (get_or (x ∷ []) k d)
one P x zero d b p = p
one P x (suc k) d b p = absurd (omega arith)

pub all_more : {A : Type 0} → (P : A → Type 0) (xs : List A) (s i : ℕ) (x : A) → s ≤ i → i < length xs → get_or xs i x ≡ x
    → All P (take (i - s) (drop s xs)) → P x → All P (take (i + 1 - s) (drop s xs))
all_more P xs s i x le l e all p =
    subst (All P) (sym (part_grows xs s i x le l ∙ ap (λ y. take (i - s) (drop s xs) ++ y ∷ []) e))
    (All-append P (take (i - s) (drop s xs)) (x ∷ []) all (λ k d b. one P x k d b p))

pub none_yet : {A : Type 0} → (P : A → Type 0) (xs : List A) (i : ℕ) → All P (take (i - i) (drop i xs))
none_yet P xs i = subst (λ k. All P (take k (drop i xs))) (let e : 0 ≡ i - i = omega arith in e) (λ k d l. absurd (omega arith))
