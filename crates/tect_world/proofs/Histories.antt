-- the list of all moments that the marks and the passes give
use Rattle.std.proofs.Common.{◌≡◌, ◌≢◌, ℕ, zero, suc, ◌+◌, ◌-◌, ◌<◌, ◌≤◌, inl, inr, Bool, true, false, eqb, if◌then◌else◌, List, []}
use Rattle.std.proofs.Common.{◌∷◌, ◌++◌, length, get_or, set, drop, replicate, refl, sym, ap, ◌∙◌, subst, append_assoc, arith}
use Rattle.std.specs.Prelude.{OnOk, Result, Ok, Err}
use Rattle.std.specs.List.{All, filter}
use Rattle.std.proofs.lemmas.Bool.{cases_lt}
use Rattle.std.proofs.lemmas.List.{get_or_past, get_or-set_same, get_or-set_other}
use Rattle.std.proofs.lemmas.List.Elements.{All-nil, All-from_recursion}
use Rattle.store_shards.proofs.Rows.{any_default}
use Rattle.tect_ids.specs.declared.ids.Counts.{Counts}
use Rattle.tect_ids.proofs.KeyTests.{num_eq_cases}
use Rattle.entry_words.specs.declared.entry.Moment.{Moment}
use Rattle.entry_words.specs.Moments.{is_of, all_of_actor}
use Rattle.program_forms.specs.Kinds.{Programs}
use Rattle.world_runs.specs.declared.event.Event.{Event}
use Rattle.world_runs.specs.Events.{events_of, IsOwnNote, IsPlaced}
use Rattle.world_runs.specs.Refusals.{AreOfRefused}
use Rattle.clients.specs.Lives.{ClientLife, events_in, idle_life}
use Rattle.world_lives.specs.declared.marks.Mark.{Mark}
use Rattle.world_lives.specs.declared.marks.Mark.TheVariants.{Actor, Dump}
use Rattle.tect_world.specs.declared.world.World.TheInside.{Inside}
use Rattle.tect_world.specs.Clients.{client_at, events_by}
use Rattle.tect_world.specs.Inside.{life_of, noted_in, IsWorld}
use Rattle.tect_world.specs.Noted.{moments_by}
use Rattle.world_lives.specs.Order.{first_moment, later_moments, in_order, marks_of, moments_in_order}
use Rattle.tect_world.specs.Telling.{left_by, IsMarkOf, AreMarksOf}
use Rattle.world_lives.specs.Told.{Notes, StepsCountUp, IsTold}
use Rattle.tect_world.proofs.Lives.{have_marks}
use Rattle.world_lives.proofs.MomentOrders.{same, without}
use Rattle.world_lives.proofs.MomentsTold.{AreOwn, all_in_order, own_in_order, own_notes}
use Rattle.world_lives.proofs.Tellings.{notes_in_order}

-- ---- the marks are of the actors

one_by : (t : Bool) (n : ℕ) → t ≡ true → 0 < (if t then 1 else 0) + n
one_by true n is = omega arith
one_by false n is = absurd cc

marks_by : (actors : ℕ) (marks : List Mark) → ((a : ℕ) → 0 < marks_of a marks → (1 ≤ a) × (a ≤ actors)) → AreMarksOf actors marks
marks_by actors [] f = tt
marks_by actors (Dump ∷ ms) f = (tt, marks_by actors ms f)
marks_by actors (Actor b ∷ ms) f =
    (f b (one_by (eqb b b) (marks_of b ms) (same b)), marks_by actors ms (λ a some. f a (omega (arith, some))))

pub mark_at : (actors : ℕ) (marks : List Mark) (i : ℕ) (d : Mark) → i < length marks → AreMarksOf actors marks
    → IsMarkOf actors (get_or marks i d)
mark_at actors [] i d lt are = absurd (omega (arith, lt))
mark_at actors (m ∷ ms) zero d lt are = are.0
mark_at actors (m ∷ ms) (suc i) d lt are = mark_at actors ms i d (omega (arith, lt)) are.1

module _ {S : Type 0} (P : Programs S) (w : Inside S) (is : IsWorld P w) where
  abbrev c : Counts
  c = w.shards.counts

  abbrev ls : List ClientLife
  ls = w.clients.items

  none_beyond : (a : ℕ) → 65 < a → length (events_by c ls a) ≡ 0
  none_beyond a far =
      let some : eqb a 0 ≡ false = grind (arith, num_eq_cases a 0, far) in
      let past : client_at c ls a ≡ idle_life 0 c = get_or_past ls (a - 1) (idle_life 0 c) (omega (arith, far, is.number)) in
      ap (λ (t : Bool). length (if t then [] else events_in (client_at c ls a))) some ∙ ap (λ (l : ClientLife). length (events_in l)) past

  mark_of : (a : ℕ) → 0 < marks_of a w.order.items → (1 ≤ a) × (a ≤ 65)
  mark_of zero some =
      let none : length (events_by c ls 0) ≡ 0 = refl in
      absurd (omega (arith, some, is.marked 0, none))
  mark_of (suc a) some = elim (cases_lt 65 (suc a)) [
    | inl far ↦ let none = none_beyond (suc a) far in absurd (omega (arith, some, is.marked (suc a), none))
    | inr high ↦ (omega arith, high)
  ]

  pub marks_are : (lives : List ClientLife) (order : List Mark) → lives ≡ ls → order ≡ w.order.items → AreMarksOf (length lives) order
  marks_are lives order same_lives same_order =
      let number : length lives ≡ 65 = ap length same_lives ∙ is.number in
      subst (λ (k : ℕ). AreMarksOf k order) (sym number)
      (subst (AreMarksOf 65) (sym same_order) (marks_by 65 w.order.items mark_of))

  -- ---- the history is told by them

  -- the events that no moment notes
  abbrev silent_by : ℕ → List Event
  silent_by a = if eqb a 0 then [] else (client_at c ls a).silent

  all_events : (a : ℕ) → events_of (moments_by c ls a) ++ silent_by a ≡ events_by c ls a
  all_events a = by_zero (eqb a 0)
    where
      by_zero : (t : Bool) → events_of (if t then [] else (client_at c ls a).moments) ++ (if t then [] else (client_at c ls a).silent) ≡
          (if t then [] else events_in (client_at c ls a))
      by_zero true = refl
      by_zero false = refl

  all_silent : (a : ℕ) → AreOfRefused [] (silent_by a)
  all_silent a = by_zero (eqb a 0) refl
    where
      of_client : 1 ≤ a → AreOfRefused [] (client_at c ls a).silent
      of_client low = elim (cases_lt 65 a) [
        | inl far ↦
            let past : client_at c ls a ≡ idle_life 0 c = get_or_past ls (a - 1) (idle_life 0 c) (omega (arith, far, is.number)) in
            subst (λ (l : ClientLife). AreOfRefused [] l.silent) (sym past) tt
        | inr high ↦ (is.each a low high).life.silent
      ]

      by_zero : (t : Bool) → eqb a 0 ≡ t → AreOfRefused [] (if t then [] else (client_at c ls a).silent)
      by_zero true e = tt
      by_zero false e = of_client (grind (arith, num_eq_cases a 0, e))

  noted_history : Notes (life_of w).history (noted_in w)
  noted_history =
      subst (λ (f : ℕ → List Event). Notes (in_order w.order.items f) (noted_in w)) (λ i a. all_events a i)
      (notes_in_order [] w.order.items (moments_by c ls) (λ a. []) silent_by
      (λ a. record { refused = λ op h. h; are = all_silent a }))

  -- ---- so is what each client's own moments are

  -- what is so of no moments, and of each client's, is so of each actor's
  each_actor : (Q : ℕ → List Moment → Type 0) → ((a : ℕ) → Q a []) → ((a : ℕ) → 1 ≤ a → a ≤ 65 → Q a (client_at c ls a).moments)
      → (a : ℕ) → Q a (moments_by c ls a)
  each_actor Q none each a = by_zero (eqb a 0) refl
    where
      of_client : 1 ≤ a → Q a (client_at c ls a).moments
      of_client low = elim (cases_lt 65 a) [
        | inl far ↦
            let past : client_at c ls a ≡ idle_life 0 c = get_or_past ls (a - 1) (idle_life 0 c) (omega (arith, far, is.number)) in
            subst (λ (l : ClientLife). Q a l.moments) (sym past) (none a)
        | inr high ↦ each a low high
      ]

      by_zero : (t : Bool) → eqb a 0 ≡ t → Q a (if t then [] else (client_at c ls a).moments)
      by_zero true e = none a
      by_zero false e = of_client (grind (arith, num_eq_cases a 0, e))

  all_placed : All (IsPlaced c) (noted_in w)
  all_placed =
      all_in_order (IsPlaced c) w.order.items (moments_by c ls)
      (each_actor (λ a ms. All (IsPlaced c) ms) (λ a. All-nil (IsPlaced c))
      (λ a low high.
      let own = is.each a low high in
      subst (λ (k : Counts). All (IsPlaced k) (client_at c ls a).moments) own.counts own.life.placed))

  all_noted : All IsOwnNote (noted_in w)
  all_noted =
      all_in_order IsOwnNote w.order.items (moments_by c ls)
      (each_actor (λ a ms. All IsOwnNote ms) (λ a. All-nil IsOwnNote)
      (λ a low high.
      let life = (is.each a low high).life in
      All-from_recursion IsOwnNote (client_at c ls a).moments
      (own_notes (client_at c ls a).actor (client_at c ls a).moments life.moments_own life.notes_own)))

  are_own : AreOwn (moments_by c ls)
  are_own =
      each_actor (λ a ms. all_of_actor a ms ≡ true) (λ a. refl)
      (λ a low high.
      let own = is.each a low high in
      subst (λ (k : ℕ). all_of_actor k (client_at c ls a).moments ≡ true) own.actor own.life.moments_own)

  module _ (up : All (λ l. StepsCountUp l.moments) ls) where
    all_steps : (a : ℕ) → StepsCountUp (filter (is_of a) (noted_in w))
    all_steps a =
        subst StepsCountUp (sym (own_in_order a w.order.items (moments_by c ls) are_own (have_marks P w is)))
        (each_actor (λ a ms. StepsCountUp ms) (λ a. refl)
        (λ a low high. up (a - 1) (idle_life 0 c) (omega (arith, low, high, is.number))) a)

    all_told : IsTold (life_of w) (noted_in w)
    all_told =
        record { told = noted_history; placed = all_placed; noted = all_noted; steps = all_steps; last = w.clock; rising = is.rising }

  pub told : (lives : List ClientLife) (order : List Mark) (ms : List Moment) → lives ≡ ls → order ≡ w.order.items
      → All (λ l. StepsCountUp l.moments) lives → ms ≡ moments_in_order order (moments_by c lives) → IsTold (life_of w) ms
  told lives order ms same_lives same_order up is_all =
      let here : ms ≡ noted_in w = is_all ∙ (λ i. moments_in_order (same_order i) (moments_by c (same_lives i))) in
      subst (IsTold (life_of w)) (sym here) (all_told (subst (All (λ l. StepsCountUp l.moments)) same_lives up))

-- ---- one mark more

module _ (k : Counts) (ls : List ClientLife) (old new : List ℕ) (a : ℕ) (low : 1 ≤ a) where
  abbrev count : ℕ
  count = get_or old (a - 1) 0

  left_first : first_moment (left_by k ls old a) ≡ first_moment (drop count (client_at k ls a).moments)
  left_first =
      let some : eqb a 0 ≡ false = grind (arith, num_eq_cases a 0, low) in
      ap (λ (t : Bool). first_moment (if t then [] else drop count (client_at k ls a).moments)) some

  left_later : drop (get_or new (a - 1) 0) (client_at k ls a).moments ≡ later_moments (drop count (client_at k ls a).moments)
      → ((n : ℕ) → n ≢ a - 1 → get_or new n 0 ≡ get_or old n 0) → (b : ℕ)
      → left_by k ls new b ≡ without a (left_by k ls old) b
  left_later here others b = by_test (eqb b a) refl
    where
      by_zero : (t : Bool) → eqb b 0 ≡ t → b ≢ a
          → (if t then [] else drop (get_or new (b - 1) 0) (client_at k ls b).moments)
          ≡ (if t then [] else drop (get_or old (b - 1) 0) (client_at k ls b).moments)
      by_zero true e differs = refl
      by_zero false e differs =
          let some : 1 ≤ b = grind (arith, num_eq_cases b 0, e) in
          ap (λ (n : ℕ). drop n (client_at k ls b).moments) (others (b - 1) (λ same. differs (omega (arith, same, some, low))))

      own : b ≡ a → left_by k ls new b ≡ later_moments (left_by k ls old b)
      own same =
          let some : eqb a 0 ≡ false = grind (arith, num_eq_cases a 0, low) in
          ap (left_by k ls new) same
          ∙ ap (λ (t : Bool). if t then [] else drop (get_or new (a - 1) 0) (client_at k ls a).moments) some ∙ here
          ∙ ap (λ (t : Bool). later_moments (if t then [] else drop count (client_at k ls a).moments)) (sym some)
          ∙ ap (λ (x : ℕ). later_moments (left_by k ls old x)) (sym same)

      by_test : (t : Bool) → eqb b a ≡ t → left_by k ls new b ≡ (if t then later_moments (left_by k ls old b) else left_by k ls old b)
      by_test true e = own (grind (arith, num_eq_cases b a, e))
      by_test false e = by_zero (eqb b 0) refl (λ same. grind (arith, num_eq_cases b a, e, same))

  pub mark_told : (ms : List Mark) (was now : List Moment) → now ≡ was ++ first_moment (drop count (client_at k ls a).moments)
      → drop (get_or new (a - 1) 0) (client_at k ls a).moments ≡ later_moments (drop count (client_at k ls a).moments)
      → ((n : ℕ) → n ≢ a - 1 → get_or new n 0 ≡ get_or old n 0)
      → now ++ moments_in_order ms (left_by k ls new) ≡ was ++ moments_in_order (Actor a ∷ ms) (left_by k ls old)
  mark_told ms was now first later others =
      ap (λ (xs : List Moment). xs ++ moments_in_order ms (left_by k ls new)) first
      ∙ append_assoc was (first_moment (drop count (client_at k ls a).moments)) (moments_in_order ms (left_by k ls new))
      ∙ ap (λ (xs : List Moment). was ++ (xs ++ moments_in_order ms (left_by k ls new))) (sym left_first)
      ∙ ap (λ (f : ℕ → List Moment). was ++ (first_moment (left_by k ls old a) ++ moments_in_order ms f))
      (λ i b. left_later later others b i)

-- the actor's count goes on
pub mark_step : (k : Counts) (ls : List ClientLife) (old : List ℕ) (a : ℕ) → 1 ≤ a → a ≤ length ls → length old ≡ length ls
    → (client : ClientLife) → client ≡ get_or ls (a - 1) client → (n m : ℕ) → n ≡ get_or old (a - 1) n → (ms : List Mark)
    → (was now : List Moment) → now ≡ was ++ first_moment (drop n client.moments)
    → drop m client.moments ≡ later_moments (drop n client.moments)
    → now ++ moments_in_order ms (left_by k ls (set old (a - 1) m)) ≡ was ++ moments_in_order (Actor a ∷ ms) (left_by k ls old)
mark_step k ls old a low high same client at n m own ms was now first later =
    let lt : a - 1 < length old = omega (arith, low, high, same) in
    let count : n ≡ get_or old (a - 1) 0 = own ∙ any_default old (a - 1) n 0 lt in
    let here : client ≡ client_at k ls a = at ∙ any_default ls (a - 1) client (idle_life 0 k) (omega (arith, low, high)) in
    mark_told k ls old (set old (a - 1) m) a low ms was now
    (first ∙ (λ i. was ++ first_moment (drop (count i) (here i).moments)))
    (ap (λ (j : ℕ). drop j (client_at k ls a).moments) (get_or-set_same old (a - 1) m 0 lt)
    ∙ ap (λ (l : ClientLife). drop m l.moments) (sym here) ∙ later ∙ (λ i. later_moments (drop (count i) (here i).moments)))
    (λ j differs. get_or-set_other old (a - 1) j m 0 differs)

pub on_both : {T E A B C : Type 0} (r : Result T E) → OnOk r A → OnOk r B → (A → B → C) → OnOk r C
on_both (Ok x) a b f = f a b
on_both (Err e) a b f = tt
