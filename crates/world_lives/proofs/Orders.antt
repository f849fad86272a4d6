-- what the order of all events becomes with more of them
use Rattle.std.proofs.Common.{◌≡◌, ℕ, ◌+◌, ◌<◌, Bool, true, false, eqb, if◌then◌else◌, List, [], ◌∷◌, ◌++◌, length, refl, sym, ap, ◌∙◌}
use Rattle.std.proofs.Common.{append_assoc, arith}
use Rattle.tect_ids.proofs.KeyTests.{num_eq_cases}
use Rattle.world_runs.specs.declared.event.Event.{Event}
use Rattle.world_runs.specs.declared.event.Event.TheVariants.{Dumped}
use Rattle.world_lives.specs.declared.marks.Mark.{Mark}
use Rattle.world_lives.specs.declared.marks.Mark.TheVariants.{Actor, Dump}
use Rattle.world_lives.specs.Order.{first_event, later_events, in_order, marks_of}

empty_front : (xs ys : List Event) → 0 ≡ length xs → xs ++ ys ≡ ys
empty_front [] ys e = refl
empty_front (x ∷ xs) ys e = absurd (omega (arith, e))

first_front : (xs ys : List Event) → 0 < length xs → first_event (xs ++ ys) ≡ first_event xs
first_front [] ys some = absurd (omega (arith, some))
first_front (x ∷ xs) ys some = refl

later_front : (xs ys : List Event) → 0 < length xs → later_events (xs ++ ys) ≡ later_events xs ++ ys
later_front [] ys some = absurd (omega (arith, some))
later_front (x ∷ xs) ys some = refl

later_length : (xs : List Event) (n : ℕ) → 1 + n ≡ length xs → n ≡ length (later_events xs)
later_length [] n e = absurd (omega (arith, e))
later_length (x ∷ xs) n e = omega (arith, e)

pub marks-append : (b : ℕ) (ms ns : List Mark) → marks_of b (ms ++ ns) ≡ marks_of b ms + marks_of b ns
marks-append b [] ns = omega arith
marks-append b (Dump ∷ ms) ns = marks-append b ms ns
marks-append b (Actor a ∷ ms) ns = let rest = marks-append b ms ns in omega (arith, rest)

-- each actor has as many events as marks
abbrev pub AreMarked : List Mark → (ℕ → List Event) → Type 0
AreMarked ms own = (b : ℕ) → marks_of b ms ≡ length (own b)

-- the actor's first event was told
abbrev without : ℕ → (ℕ → List Event) → ℕ → List Event
without a own b = if eqb b a then later_events (own b) else own b

marked_by : (t : Bool) (n : ℕ) (xs : List Event) → (if t then 1 else 0) + n ≡ length xs → n ≡ length (if t then later_events xs else xs)
marked_by true n xs e = later_length xs n e
marked_by false n xs e = omega (arith, e)

later_by : (t : Bool) (n : ℕ) (xs ys : List Event) → (if t then 1 else 0) + n ≡ length xs
    → (if t then later_events (xs ++ ys) else xs ++ ys) ≡ (if t then later_events xs else xs) ++ ys
later_by true n xs ys e = later_front xs ys (omega (arith, e))
later_by false n xs ys e = refl

same : (a : ℕ) → eqb a a ≡ true
same a = grind (arith, num_eq_cases a a)

some_by : (t : Bool) (n m : ℕ) → t ≡ true → (if t then 1 else 0) + n ≡ m → 0 < m
some_by true n m is e = omega (arith, e)
some_by false n m is e = absurd cc

-- more events come behind those before
pub in_order-grow : (ms ns : List Mark) (own more : ℕ → List Event) → AreMarked ms own
    → in_order (ms ++ ns) (λ b. own b ++ more b) ≡ in_order ms own ++ in_order ns more
in_order-grow [] ns own more marked = ap (in_order ns) (λ i b. empty_front (own b) (more b) (marked b) i)
in_order-grow (Dump ∷ ms) ns own more marked = ap (λ (es : List Event). Dumped ∷ es) (in_order-grow ms ns own more marked)
in_order-grow (Actor a ∷ ms) ns own more marked =
    let first : first_event (own a ++ more a) ≡ first_event (own a) = first_front (own a) (more a)
    (some_by (eqb a a) (marks_of a ms) (length (own a)) (same a) (marked a)) in
    let rest : in_order (ms ++ ns) (λ b. without a own b ++ more b) ≡ in_order ms (without a own) ++ in_order ns more =
    in_order-grow ms ns (without a own) more (λ b. marked_by (eqb b a) (marks_of b ms) (own b) (marked b)) in
    ap (λ (es : List Event). es ++ in_order (ms ++ ns) (without a (λ b. own b ++ more b))) first
    ∙ ap (λ (f : ℕ → List Event). first_event (own a) ++ in_order (ms ++ ns) f)
    (λ i b. later_by (eqb b a) (marks_of b ms) (own b) (more b) (marked b) i)
    ∙ ap (λ (es : List Event). first_event (own a) ++ es) rest ∙ sym
    (append_assoc (first_event (own a)) (in_order ms (without a own)) (in_order ns more))
