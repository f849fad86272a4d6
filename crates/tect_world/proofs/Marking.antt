-- the marks of a step
use Rattle.std.proofs.Common.{◌≡◌, ℕ, ◌+◌, ◌≤◌, Bool, true, false, eqb, if◌then◌else◌, Option, Some, None, List, [], ◌∷◌, ◌++◌, length}
use Rattle.std.proofs.Common.{refl, sym, ap, ◌∙◌, arith}
use Rattle.tect_ids.specs.declared.ids.OpId.{OpId}
use Rattle.tect_ids.specs.declared.answer.Answer.{Answer}
use Rattle.tect_ids.proofs.KeyTests.{num_eq_cases}
use Rattle.world_runs.specs.declared.event.Event.{Event}
use Rattle.clients.specs.Turns.{turned_by}
use Rattle.clients.specs.Steps.{Tried, Unasked, Did, Denied, tried_events, end_events}
use Rattle.world_lives.specs.declared.marks.Mark.{Mark}
use Rattle.world_lives.specs.declared.marks.Mark.TheVariants as marks
use Rattle.tect_world.specs.ClientSteps.{marks_for, act_marks, end_marks}
use Rattle.world_lives.specs.Order.{first_event, later_events, in_order, marks_of}
use Rattle.tect_world.proofs.Lives.{of_one}

-- ---- marks

pub same : (a : ℕ) → eqb a a ≡ true
same a = grind (arith, num_eq_cases a a)

later_one : (a : ℕ) (e : Event) (es : List Event) (b : ℕ)
    → (if eqb b a then later_events (of_one a (e ∷ es) b) else of_one a (e ∷ es) b) ≡ of_one a es b
later_one a e es b = by_test (eqb b a)
  where
    by_test : (t : Bool) → (if t then later_events (if t then e ∷ es else []) else (if t then e ∷ es else [])) ≡ (if t then es else [])
    by_test true = refl
    by_test false = refl

pub told_all : (a : ℕ) (es : List Event) → in_order (marks_for a es) (of_one a es) ≡ es
told_all a [] = refl
told_all a (e ∷ es) =
    ap (λ (t : Bool). first_event (if t then e ∷ es else []) ++ in_order (marks_for a es)
    (λ b. if eqb b a then later_events (of_one a (e ∷ es) b) else of_one a (e ∷ es) b)) (same a)
    ∙ ap (λ (f : ℕ → List Event). e ∷ in_order (marks_for a es) f) (λ i b. later_one a e es b i) ∙ ap (λ (xs : List Event). e ∷ xs)
    (told_all a es)

pub marked_all : (a : ℕ) (es : List Event) (b : ℕ) → marks_of b (marks_for a es) ≡ length (of_one a es b)
marked_all a es b = by_test (eqb b a) refl
  where
    all_mine : (es : List Event) → eqb b a ≡ true → marks_of b (marks_for a es) ≡ length es
    all_mine [] t = refl
    all_mine (e ∷ es) t = let rest = all_mine es t in ap (λ (u : Bool). (if u then 1 else 0) + marks_of b (marks_for a es)) t ∙ omega
        (arith, rest)

    none_mine : (es : List Event) → eqb b a ≡ false → marks_of b (marks_for a es) ≡ 0
    none_mine [] t = refl
    none_mine (e ∷ es) t = let rest = none_mine es t in ap (λ (u : Bool). (if u then 1 else 0) + marks_of b (marks_for a es)) t ∙ omega
        (arith, rest)

    by_test : (t : Bool) → eqb b a ≡ t → marks_of b (marks_for a es) ≡ length (of_one a es b)
    by_test true t = all_mine es t ∙ ap (λ (u : Bool). length (if u then es else [])) (sym t)
    by_test false t = none_mine es t ∙ ap (λ (u : Bool). length (if u then es else [])) (sym t)

pub marks_length : (a : ℕ) (es : List Event) → length (marks_for a es) ≡ length es
marks_length a [] = refl
marks_length a (e ∷ es) = let rest = marks_length a es in omega (arith, rest)

abbrev pub has_act : Tried → Bool
has_act Unasked = false
has_act (Did q x h) = true
has_act (Denied q e) = false

-- the marks of a step, as the code has them
ends_marked : (a : ℕ) (silent : List Event) (op : OpId) (x : Option Answer)
    → end_marks a (turned_by x) ≡ marks_for a (end_events silent op x)
ends_marked a silent op None = refl
ends_marked a [] op (Some y) = refl
ends_marked a (e ∷ es) op (Some y) = refl

pub step_marked : (a : ℕ) (silent : List Event) (op : OpId) (t : Tried) (x : Option Answer)
    → act_marks a (has_act t) ++ end_marks a (turned_by x) ≡ marks_for a (tried_events op t ++ end_events silent op x)
step_marked a silent op Unasked x = ends_marked a silent op x
step_marked a silent op (Did q y h) x = ap (λ (ms : List Mark). marks.Actor a ∷ ms) (ends_marked a silent op x)
step_marked a silent op (Denied q e) x = ends_marked a silent op x

-- at most two events
end_few : (silent : List Event) (op : OpId) (x : Option Answer) → length (end_events silent op x) ≤ 1
end_few silent op None = omega arith
end_few [] op (Some a) = omega arith
end_few (e ∷ es) op (Some a) = omega arith

pub step_few : (silent : List Event) (op : OpId) (t : Tried) (x : Option Answer) → length (tried_events op t ++ end_events silent op x) ≤ 2
step_few silent op Unasked x = let few = end_few silent op x in omega (arith, few)
step_few silent op (Did q y h) x = let few = end_few silent op x in omega (arith, few)
step_few silent op (Denied q e) x = let few = end_few silent op x in omega (arith, few)
