-- what is so of each actor's own moments is so of all of them in the order of the marks
use Rattle.std.proofs.Common.{◌≡◌, ℕ, ◌≤◌, Bool, true, false, eqb, if◌then◌else◌, List, [], ◌∷◌, ◌++◌, length, refl, sym, subst, ap}
use Rattle.std.proofs.Common.{◌∙◌, cond, arith}
use Rattle.std.specs.List.{All, AllByRecursion, filter}
use Rattle.std.proofs.lemmas.Bool.{and_parts}
use Rattle.std.proofs.lemmas.List.Elements.{All-nil, All-cons, All-head, All-tail, All-append, filter-append}
use Rattle.tect_ids.proofs.KeyTests.{num_eq_cases}
use Rattle.entry_words.specs.declared.entry.Moment.{Moment}
use Rattle.entry_words.specs.declared.entry.Moment.TheVariants.{Act, Local}
use Rattle.entry_words.specs.declared.entry.Note.{Note}
use Rattle.entry_words.specs.declared.entry.Note.TheVariants as notes
use Rattle.entry_words.specs.Moments.{actor_of, is_of, op_of, trail_of, all_of_actor, all_notes_of, steps_count}
use Rattle.passes.specs.declared.pass.Pass.{Pass}
use Rattle.passes.proofs.Pushes.{steps_count-len}
use Rattle.world_runs.specs.Events.{IsOwnNote}
use Rattle.world_runs.proofs.Actors.{one_number}
use Rattle.world_lives.specs.declared.marks.Mark.{Mark}
use Rattle.world_lives.specs.declared.marks.Mark.TheVariants.{Actor, Dump}
use Rattle.world_lives.specs.Order.{first_moment, later_moments, moments_in_order}
use Rattle.world_lives.specs.Told.{StepsCountUp}
use Rattle.world_lives.proofs.MomentOrders.{HaveMarks, marks_by, without}

-- ---- each of them

first_all : (Q : Moment → Type 0) (ms : List Moment) → All Q ms → All Q (first_moment ms)
first_all Q [] all = all
first_all Q (m ∷ ms) all = All-cons Q m [] (All-head Q m ms all) (All-nil Q)

later_all : (Q : Moment → Type 0) (t : Bool) (ms : List Moment) → All Q ms → All Q (if t then later_moments ms else ms)
later_all Q true [] all = all
later_all Q true (m ∷ ms) all = All-tail Q m ms all
later_all Q false ms all = all

pub all_in_order : (Q : Moment → Type 0) (marks : List Mark) (own : ℕ → List Moment) → ((a : ℕ) → All Q (own a))
    → All Q (moments_in_order marks own)
all_in_order Q [] own all = All-nil Q
all_in_order Q (Dump ∷ ms) own all = all_in_order Q ms own all
all_in_order Q (Actor a ∷ ms) own all =
    All-append Q (first_moment (own a)) (moments_in_order ms (without a own)) (first_all Q (own a) (all a))
    (all_in_order Q ms (without a own) (λ b. later_all Q (eqb b a) (own b) (all b)))

-- ---- those of one actor

abbrev pub AreOwn : (ℕ → List Moment) → Type 0
AreOwn own = (b : ℕ) → all_of_actor b (own b) ≡ true

later_own : (b : ℕ) (t : Bool) (ms : List Moment) → all_of_actor b ms ≡ true → all_of_actor b (if t then later_moments ms else ms) ≡ true
later_own b true [] of = of
later_own b true (m ∷ ms) of = (and_parts _ _ of).1
later_own b false ms of = of

first_of : (a : ℕ) (ms : List Moment) → all_of_actor a ms ≡ true → filter (is_of a) (first_moment ms) ++ later_moments ms ≡ ms
first_of a [] of = refl
first_of a (m ∷ ms) of = ap (λ (t : Bool). cond t (m ∷ []) [] ++ ms) (and_parts _ _ of).0

first_of_other : (a b : ℕ) (ms : List Moment) → eqb a b ≡ false → all_of_actor b ms ≡ true → filter (is_of a) (first_moment ms) ≡ []
first_of_other a b [] differs of = refl
first_of_other a b (m ∷ ms) differs of =
    let by : actor_of m ≡ b = one_number (actor_of m) b (and_parts _ _ of).0 in
    let other : eqb (actor_of m) a ≡ false = grind (arith, num_eq_cases (actor_of m) a, num_eq_cases a b, by, differs) in
    ap (λ (t : Bool). cond t (m ∷ []) []) other

next_of : (a b : ℕ) (own : ℕ → List Moment) → AreOwn own → (t : Bool) → eqb a b ≡ t
    → filter (is_of a) (first_moment (own b)) ++ (if t then later_moments (own a) else own a) ≡ own a
next_of a b own of true same =
    subst (λ (d : ℕ). filter (is_of a) (first_moment (own d)) ++ later_moments (own a) ≡ own a) (one_number a b same)
    (first_of a (own a) (of a))
next_of a b own of false differs = ap (λ (ms : List Moment). ms ++ own a) (first_of_other a b (own b) differs (of b))

none_left : (ms : List Moment) → length ms ≤ 0 → [] ≡ ms
none_left [] few = refl
none_left (m ∷ ms) few = absurd (omega (arith, few))

pub own_in_order : (a : ℕ) (marks : List Mark) (own : ℕ → List Moment) → AreOwn own → HaveMarks marks own
    → filter (is_of a) (moments_in_order marks own) ≡ own a
own_in_order a [] own of few = none_left (own a) (few a)
own_in_order a (Dump ∷ ms) own of few = own_in_order a ms own of few
own_in_order a (Actor b ∷ ms) own of few =
    let rest : filter (is_of a) (moments_in_order ms (without b own)) ≡ without b own a =
    own_in_order a ms (without b own) (λ d. later_own d (eqb d b) (own d) (of d)) (λ d. marks_by (eqb d b) _ (own d) (few d)) in
    filter-append (is_of a) (first_moment (own b)) (moments_in_order ms (without b own))
    ∙ ap (λ (ms : List Moment). filter (is_of a) (first_moment (own b)) ++ ms) rest ∙ next_of a b own of (eqb a b) refl

-- ---- what a pass says of its moments

-- each note is of an op of the pass's actor
pub own_notes : (actor : ℕ) (ms : List Moment) → all_of_actor actor ms ≡ true → all_notes_of actor ms ≡ true → AllByRecursion IsOwnNote ms
own_notes actor [] of noted = tt
own_notes actor (Act e h ∷ ms) of noted = (tt, own_notes actor ms (and_parts _ _ of).1 noted)
own_notes actor (Local stamp by note ∷ ms) of noted = (
  own_note stamp by note (one_number (op_of note).actor actor (and_parts _ _ noted).0 ∙ sym (one_number by actor (and_parts _ _ of).0)),
  own_notes actor ms (and_parts _ _ of).1 (and_parts _ _ noted).1,
)
  where
    own_note : (stamp by : ℕ) (note : Note) → (op_of note).actor ≡ by → IsOwnNote (Local stamp by note)
    own_note stamp by (notes.Began op c) is = is
    own_note stamp by (notes.Ended op a) is = is
    own_note stamp by (notes.Stopped op) is = is

-- the steps count up
pub steps_of_pass : (p : Pass) (ms : List Moment) → p.moments.items ≡ ms → StepsCountUp ms
steps_of_pass p ms same =
    let long : p.steps ≡ length (trail_of p.moments.items) =
    omega (arith, steps_count-len 0 p.steps (trail_of p.moments.items) p.known.counted) in
    subst StepsCountUp same
    (subst (λ (n : ℕ). steps_count 0 n (trail_of p.moments.items) ≡ true) long p.known.counted)
