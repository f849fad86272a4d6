-- the moments of all passes in the order of the marks
use Rattle.std.proofs.Common.{◌≡◌, ℕ, ◌+◌, ◌≤◌, Bool, true, false, eqb, if◌then◌else◌, ◌⊎◌, inl, inr, List, [], ◌∷◌, ◌++◌, length, refl}
use Rattle.std.proofs.Common.{sym, ap, ◌∙◌, append_assoc, arith}
use Rattle.tect_ids.proofs.KeyTests.{num_eq_cases}
use Rattle.entry_words.specs.declared.entry.Moment.{Moment}
use Rattle.world_lives.specs.declared.marks.Mark.{Mark}
use Rattle.world_lives.specs.declared.marks.Mark.TheVariants.{Actor, Dump}
use Rattle.world_lives.specs.Order.{first_moment, later_moments, moments_in_order, marks_of}

-- the actor's first moment was told
abbrev pub without : ℕ → (ℕ → List Moment) → ℕ → List Moment
without a own b = if eqb b a then later_moments (own b) else own b

-- each actor has at most as many moments as marks
abbrev pub HaveMarks : List Mark → (ℕ → List Moment) → Type 0
HaveMarks ms own = (b : ℕ) → length (own b) ≤ marks_of b ms

-- more moments come only of an actor whose marks are all of moments
abbrev pub MayGrow : List Mark → (ℕ → List Moment) → (ℕ → List Moment) → Type 0
MayGrow ms own more = (b : ℕ) → (more b ≡ []) ⊎ (marks_of b ms ≡ length (own b))

empty_front : (xs ys : List Moment) → length xs ≤ 0 → xs ++ ys ≡ ys
empty_front [] ys e = refl
empty_front (x ∷ xs) ys e = absurd (omega (arith, e))

pub same : (a : ℕ) → eqb a a ≡ true
same a = grind (arith, num_eq_cases a a)

first_grow : (xs ys : List Moment) (n : ℕ) → (ys ≡ []) ⊎ (1 + n ≡ length xs) → first_moment (xs ++ ys) ≡ first_moment xs
first_grow [] ys n (inl e) = ap first_moment e
first_grow [] ys n (inr e) = absurd (omega (arith, e))
first_grow (x ∷ xs) ys n may = refl

later_grow : (xs ys : List Moment) (n : ℕ) → (ys ≡ []) ⊎ (1 + n ≡ length xs) → later_moments (xs ++ ys) ≡ later_moments xs ++ ys
later_grow [] ys n (inl e) = ap later_moments e ∙ sym e
later_grow [] ys n (inr e) = absurd (omega (arith, e))
later_grow (x ∷ xs) ys n may = refl

later_few : (xs : List Moment) (n : ℕ) → length xs ≤ 1 + n → length (later_moments xs) ≤ n
later_few [] n le = omega arith
later_few (x ∷ xs) n le = omega (arith, le)

later_same : (xs : List Moment) (n : ℕ) → 1 + n ≡ length xs → n ≡ length (later_moments xs)
later_same [] n e = absurd (omega (arith, e))
later_same (x ∷ xs) n e = omega (arith, e)

pub marks_by : (t : Bool) (n : ℕ) (xs : List Moment) → length xs ≤ (if t then 1 else 0) + n
    → length (if t then later_moments xs else xs) ≤ n
marks_by true n xs le = later_few xs n le
marks_by false n xs le = omega (arith, le)

may_by : (t : Bool) (n : ℕ) (xs ys : List Moment) → (ys ≡ []) ⊎ ((if t then 1 else 0) + n ≡ length xs) → (ys ≡ [])
    ⊎ (n ≡ length (if t then later_moments xs else xs))
may_by t n xs ys (inl e) = inl e
may_by true n xs ys (inr e) = inr (later_same xs n e)
may_by false n xs ys (inr e) = inr (omega (arith, e))

grow_by : (t : Bool) (n : ℕ) (xs ys : List Moment) → (ys ≡ []) ⊎ ((if t then 1 else 0) + n ≡ length xs)
    → (if t then later_moments (xs ++ ys) else xs ++ ys) ≡ (if t then later_moments xs else xs) ++ ys
grow_by true n xs ys may = later_grow xs ys n may
grow_by false n xs ys may = refl

first_may : (t : Bool) (n m : ℕ) (ys : List Moment) → t ≡ true → (ys ≡ []) ⊎ ((if t then 1 else 0) + n ≡ m) → (ys ≡ []) ⊎ (1 + n ≡ m)
first_may true n m ys is may = may
first_may false n m ys is may = absurd cc

pub moments-grow : (ms ns : List Mark) (own more : ℕ → List Moment) → HaveMarks ms own → MayGrow ms own more
    → moments_in_order (ms ++ ns) (λ b. own b ++ more b) ≡ moments_in_order ms own ++ moments_in_order ns more
moments-grow [] ns own more few may = ap (moments_in_order ns) (λ i b. empty_front (own b) (more b) (few b) i)
moments-grow (Dump ∷ ms) ns own more few may = moments-grow ms ns own more few may
moments-grow (Actor a ∷ ms) ns own more few may =
    let here = first_may (eqb a a) (marks_of a ms) (length (own a)) (more a) (same a) (may a) in
    let rest : moments_in_order (ms ++ ns) (λ b. without a own b ++ more b) ≡ moments_in_order ms (without a own) ++ moments_in_order ns
    more =
    moments-grow ms ns (without a own) more (λ b. marks_by (eqb b a) (marks_of b ms) (own b) (few b))
    (λ b. may_by (eqb b a) (marks_of b ms) (own b) (more b) (may b)) in
    ap (λ (es : List Moment). es ++ moments_in_order (ms ++ ns) (without a (λ b. own b ++ more b)))
    (first_grow (own a) (more a) (marks_of a ms) here)
    ∙ ap (λ (f : ℕ → List Moment). first_moment (own a) ++ moments_in_order (ms ++ ns) f)
    (λ i b. grow_by (eqb b a) (marks_of b ms) (own b) (more b) (may b) i)
    ∙ ap (λ (es : List Moment). first_moment (own a) ++ es) rest ∙ sym
    (append_assoc (first_moment (own a)) (moments_in_order ms (without a own)) (moments_in_order ns more))

-- a dump has no moment
pub moments-dump : (ms : List Mark) (own : ℕ → List Moment) → moments_in_order (ms ++ Dump ∷ []) own ≡ moments_in_order ms own
moments-dump [] own = refl
moments-dump (Dump ∷ ms) own = moments-dump ms own
moments-dump (Actor a ∷ ms) own = ap (λ (es : List Moment). first_moment (own a) ++ es) (moments-dump ms (without a own))
