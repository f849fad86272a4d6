-- The order of all that was done: whose event came next.
use Rattle.std.specs.Prelude.{ℕ, ◌+◌, eqb, if◌then◌else◌, List, [], ◌∷◌, ◌++◌}
use Rattle.entry_words.specs.declared.entry.Moment.{Moment}
use Rattle.world_runs.specs.declared.event.Event.{Event}
use Rattle.world_runs.specs.declared.event.Event.TheVariants.{Dumped}
use Rattle.world_lives.specs.declared.marks.Mark.{Mark}
use Rattle.world_lives.specs.declared.marks.Mark.TheVariants.{Actor, Dump}

-- the first event, if there is one, and those behind it
abbrev pub first_event : List Event → List Event
first_event [] = []
first_event (e ∷ es) = e ∷ []

abbrev pub later_events : List Event → List Event
later_events [] = []
later_events (e ∷ es) = es

-- the events of all actors, each actor's own in their order
abbrev pub in_order : List Mark → (ℕ → List Event) → List Event
in_order [] own = []
in_order (Dump ∷ ms) own = Dumped ∷ in_order ms own
in_order (Actor a ∷ ms) own = first_event (own a) ++ in_order ms (λ b. if eqb b a then later_events (own b) else own b)

-- how many marks are the actor's
abbrev pub marks_of : ℕ → List Mark → ℕ
marks_of b [] = 0
marks_of b (Dump ∷ ms) = marks_of b ms
marks_of b (Actor a ∷ ms) = (if eqb b a then 1 else 0) + marks_of b ms

-- the same of moments: the first one, if there is one, and those behind it
abbrev pub first_moment : List Moment → List Moment
first_moment [] = []
first_moment (m ∷ ms) = m ∷ []

abbrev pub later_moments : List Moment → List Moment
later_moments [] = []
later_moments (m ∷ ms) = ms

-- the moments of all actors, each actor's own in their order; of an event that no moment notes there is none
abbrev pub moments_in_order : List Mark → (ℕ → List Moment) → List Moment
moments_in_order [] own = []
moments_in_order (Dump ∷ ms) own = moments_in_order ms own
moments_in_order (Actor a ∷ ms) own = first_moment (own a) ++ moments_in_order ms (λ b. if eqb b a then later_moments (own b) else own b)
