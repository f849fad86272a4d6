-- the history in the order of the marks notes the moments in that order
use Rattle.std.proofs.Common.{◌≡◌, ℕ, Bool, true, false, eqb, if◌then◌else◌, inl, inr, List, [], ◌∷◌, ◌++◌, refl, sym, subst, arith}
use Rattle.std.proofs.lemmas.List.{append-nil}
use Rattle.tect_ids.proofs.KeyTests.{num_eq_cases}
use Rattle.entry_words.specs.declared.entry.Moment.{Moment}
use Rattle.world_runs.specs.declared.event.Event.{Event}
use Rattle.world_runs.specs.declared.event.Event.TheVariants.{Dumped}
use Rattle.world_runs.specs.Events.{events_of, event_of}
use Rattle.world_runs.specs.Refusals.{AreOfRefused}
use Rattle.world_runs.proofs.Refusals.{AreRefusedIn}
use Rattle.whole_runs.proofs.Refusals.{refused-front, refused_with, is_of_refused-wider}
use Rattle.world_lives.specs.declared.marks.Mark.{Mark}
use Rattle.world_lives.specs.declared.marks.Mark.TheVariants.{Actor, Dump}
use Rattle.world_lives.specs.Order.{first_event, later_events, in_order}
use Rattle.world_lives.specs.Order.{first_moment, later_moments, moments_in_order}
use Rattle.world_lives.specs.Told.{IsUnnoted, NotesAfter}
use Rattle.world_lives.proofs.MomentOrders.{without}

-- of an actor whose first event was told, the events that no moment notes, and those of them that were told
abbrev later_silent : List Moment → List Event → List Event
later_silent [] ss = later_events ss
later_silent (m ∷ ms) ss = ss

abbrev told_silent : List Moment → List Event → List Event
told_silent [] ss = first_event ss
told_silent (m ∷ ms) ss = []

later_both : (t : Bool) (ms : List Moment) (ss : List Event)
    → (if t then later_events (events_of ms ++ ss) else events_of ms ++ ss) ≡ events_of (if t then later_moments ms else ms) ++
    (if t then later_silent ms ss else ss)
later_both true [] ss = refl
later_both true (m ∷ ms) ss = refl
later_both false ms ss = refl

unnoted_first : (before : List Event) (e : Event) (es : List Event) (ms : List Moment) → IsUnnoted before e
    → NotesAfter (before ++ e ∷ []) es ms → NotesAfter before (e ∷ es) ms
unnoted_first before e es [] is notes = (is, notes)
unnoted_first before e es (m ∷ ms) is notes = inl (is, notes)

-- Of an actor's events that no moment notes some were told, before now, and the others are to come: all are of refused ops.
pub record IsSilentFrom (before told silent : List Event) : Type 0 where
  pub refused : AreRefusedIn told before
  pub are : AreOfRefused told silent

still : (before told silent more : List Event) → IsSilentFrom before told silent → IsSilentFrom (before ++ more) told silent
still before told silent more is =
    record { refused = λ op h. refused-front before more op (is.refused op h); are = is.are }

told_next : (before told : List Event) (ms : List Moment) (ss : List Event) → IsSilentFrom before told ss
    → IsSilentFrom (before ++ first_event (events_of ms ++ ss)) (told ++ told_silent ms ss) (later_silent ms ss)
told_next before told [] [] is = record { refused = refused_with told before [] is.refused; are = tt }
told_next before told [] (s ∷ ss) is = record { refused = refused_with told before (s ∷ []) is.refused; are = is.are.1 }
told_next before told (m ∷ ms) ss is =
    subst (λ (ts : List Event). IsSilentFrom (before ++ event_of m ∷ []) ts ss) (sym (append-nil told))
    (still before told ss (event_of m ∷ []) is)

-- one actor's next event
next_notes : (before told : List Event) (ms : List Moment) (ss : List Event) (es : List Event) (rest : List Moment)
    → IsSilentFrom before told ss → NotesAfter (before ++ first_event (events_of ms ++ ss)) es rest
    → NotesAfter before (first_event (events_of ms ++ ss) ++ es) (first_moment ms ++ rest)
next_notes before told [] [] es rest is notes = subst (λ (bs : List Event). NotesAfter bs es rest) (append-nil before) notes
next_notes before told [] (s ∷ ss) es rest is notes =
    unnoted_first before s es rest (inl (is_of_refused-wider told before s is.refused is.are.0)) notes
next_notes before told (m ∷ ms) ss es rest is notes = inr (refl, notes)

abbrev silent_after : ℕ → (ℕ → List Moment) → (ℕ → List Event) → ℕ → List Event
silent_after a noted silent b = if eqb b a then later_silent (noted b) (silent b) else silent b

abbrev told_after : ℕ → (ℕ → List Moment) → (ℕ → List Event) → (ℕ → List Event) → ℕ → List Event
told_after a noted told silent b = if eqb b a then told b ++ told_silent (noted b) (silent b) else told b

next_all : (before : List Event) (a : ℕ) (noted : ℕ → List Moment) (told silent : ℕ → List Event)
    → ((b : ℕ) → IsSilentFrom before (told b) (silent b)) → (b : ℕ)
    → IsSilentFrom (before ++ first_event (events_of (noted a) ++ silent a)) (told_after a noted told silent b)
    (silent_after a noted silent b)
next_all before a noted told silent all b = by_test (eqb b a) refl
  where
    by_test : (t : Bool) → eqb b a ≡ t
        → IsSilentFrom (before ++ first_event (events_of (noted a) ++ silent a))
        (if t then told b ++ told_silent (noted b) (silent b) else told b)
        (if t then later_silent (noted b) (silent b) else silent b)
    by_test true e =
        let same : b ≡ a = grind (arith, num_eq_cases b a, e) in
        subst (λ (c : ℕ). IsSilentFrom (before ++ first_event (events_of (noted c) ++ silent c))
        (told b ++ told_silent (noted b) (silent b)) (later_silent (noted b) (silent b))) same
        (told_next before (told b) (noted b) (silent b) (all b))
    by_test false e = still before (told b) (silent b) (first_event (events_of (noted a) ++ silent a)) (all b)

pub notes_in_order : (before : List Event) (marks : List Mark) (noted : ℕ → List Moment) (told silent : ℕ → List Event)
    → ((a : ℕ) → IsSilentFrom before (told a) (silent a))
    → NotesAfter before (in_order marks (λ a. events_of (noted a) ++ silent a)) (moments_in_order marks noted)
notes_in_order before [] noted told silent all = tt
notes_in_order before (Dump ∷ ms) noted told silent all =
    unnoted_first before Dumped _ _ (inr refl)
    (notes_in_order (before ++ Dumped ∷ []) ms noted told silent
    (λ b. still before (told b) (silent b) (Dumped ∷ []) (all b)))
notes_in_order before (Actor a ∷ ms) noted told silent all =
    let first : List Event = first_event (events_of (noted a) ++ silent a) in
    let rest : NotesAfter (before ++ first) (in_order ms (λ b. events_of (without a noted b) ++ silent_after a noted silent b))
    (moments_in_order ms (without a noted)) =
    notes_in_order (before ++ first) ms (without a noted) (told_after a noted told silent) (silent_after a noted silent)
    (next_all before a noted told silent all) in
    next_notes before (told a) (noted a) (silent a) _ _ (all a)
    (subst (λ (f : ℕ → List Event). NotesAfter (before ++ first) (in_order ms f) (moments_in_order ms (without a noted)))
    (λ i b. sym (later_both (eqb b a) (noted b) (silent b)) i) rest)
