-- what a step of a client notes
use Rattle.std.proofs.Common.{◌≡◌, ℕ, ◌+◌, ◌≤◌, ◌⊎◌, inl, inr, Bool, true, false, eqb, if◌then◌else◌, Option, Some, None, List}
use Rattle.std.proofs.Common.{[], ◌∷◌, ◌++◌, length, refl, sym, ap, ◌∙◌, subst, append_assoc, arith}
use Rattle.std.proofs.lemmas.List.{append-nil}
use Rattle.tect_ids.specs.declared.ids.Counts.{Counts}
use Rattle.tect_ids.specs.declared.ids.OpId.{OpId}
use Rattle.tect_ids.specs.declared.answer.Answer.{Answer}
use Rattle.store_rules.specs.declared.any.AnyReq.{AnyReq}
use Rattle.program_forms.specs.declared.standing.Standing.{Standing}
use Rattle.program_forms.specs.declared.standing.Standing.TheVariants.{Goes, Left, NoRoom}
use Rattle.program_forms.specs.Kinds.{Programs}
use Rattle.program_forms.specs.Memories.{Memory}
use Rattle.entry_words.specs.declared.entry.Moment.{Moment}
use Rattle.entry_words.specs.declared.entry.Moment.TheVariants.{Act, Local}
use Rattle.entry_words.specs.declared.entry.Note.TheVariants as notes
use Rattle.entry_words.specs.Moments.{rises}
use Rattle.world_runs.specs.declared.event.Event.{Event}
use Rattle.world_runs.specs.Actors.{Running, program_ask, asked_in, standing_does}
use Rattle.clients.specs.Lives.{ClientLife, state_in}
use Rattle.clients.specs.Refused.{IsRefused, standing_refused}
use Rattle.clients.specs.Steps.{Tried, Unasked, Did, Denied, Asks, is_later, entry_in, tried_life, ended_with, ended_life}
use Rattle.clients.specs.Steps.{tried_events, end_events}
use Rattle.tect_world.specs.ClientSteps.{marks_for}
use Rattle.world_lives.specs.Order.{first_moment, later_moments, moments_in_order}
use Rattle.tect_world.proofs.Lives.{moments_of_one}
use Rattle.tect_world.proofs.Marking.{same}
use Rattle.tect_world.proofs.Notings.{rises_one, rises_none}

-- ---- the moments of a step

abbrev pub end_moments : ℕ → ℕ → List Event → OpId → Option Answer → List Moment
end_moments clock actor silent op None = []
end_moments clock actor [] op (Some a) = Local (clock + 1) actor (notes.Ended op a) ∷ []
end_moments clock actor (e ∷ es) op (Some a) = []

end_noted : (m : ClientLife) (silent : List Event) (op : OpId) (x : Option Answer) → m.silent ≡ silent
    → (ended_life m op x).moments ≡ m.moments ++ end_moments m.clock m.actor silent op x
end_noted m silent op None is = sym (append-nil m.moments)
end_noted m [] op (Some a) is = ap (λ (s : List Event). (ended_with m s op a).moments) is
end_noted m (e ∷ es) op (Some a) is = ap (λ (s : List Event). (ended_with m s op a).moments) is ∙ sym (append-nil m.moments)

-- no more than there are events
end_fewer : (clock actor : ℕ) (silent : List Event) (op : OpId) (x : Option Answer)
    → length (end_moments clock actor silent op x) ≤ length (end_events silent op x)
end_fewer clock actor silent op None = omega arith
end_fewer clock actor [] op (Some a) = omega arith
end_fewer clock actor (e ∷ es) op (Some a) = omega arith

-- none behind an op that was refused
no_end : (clock actor : ℕ) (e : Event) (es : List Event) (op : OpId) (x : Option Answer) → end_moments clock actor (e ∷ es) op x ≡ []
no_end clock actor e es op None = refl
no_end clock actor e es op (Some a) = refl

end_rises : (m : ClientLife) (silent : List Event) (op : OpId) (x : Option Answer) (ns : List Moment) → m.silent ≡ silent
    → rises 0 m.clock ns ≡ true
    → rises 0 (ended_life m op x).clock (ns ++ end_moments m.clock m.actor silent op x) ≡ true
end_rises m silent op None ns is rise = rises_none m.clock ns rise
end_rises m [] op (Some a) ns is rise =
    subst (λ (k : ℕ). rises 0 k (ns ++ Local (m.clock + 1) m.actor (notes.Ended op a) ∷ []) ≡ true)
    (sym (ap (λ (s : List Event). (ended_with m s op a).clock) is))
    (rises_one m.clock ns (Local (m.clock + 1) m.actor (notes.Ended op a)) rise (omega arith))
end_rises m (e ∷ es) op (Some a) ns is rise =
    subst (λ (k : ℕ). rises 0 k (ns ++ []) ≡ true) (sym (ap (λ (s : List Event). (ended_with m s op a).clock) is))
    (rises_none m.clock ns rise)

-- a refused op asks nothing
refused_standing : {S : Type 0} (P : Programs S) (c : Counts) (m : Memory) (es : List Event) (op : OpId) (at : Standing S)
    → standing_refused es op at → asked_in (standing_does P c m op at) ≡ None
refused_standing P c m es op (Goes s) is = absurd is
refused_standing P c m es op Left is = refl
refused_standing P c m es op NoRoom is = refl

pub refused_asks : {S : Type 0} (P : Programs S) (c : Counts) (m : Memory) (es : List Event) (o : Option (Running S))
    → IsRefused es o → program_ask P c m o ≡ None
refused_asks P c m es None is = refl
refused_asks P c m es (Some r) is = refused_standing P c m es r.op r.at is

module _ {S : Type 0} (P : Programs S) (l : ClientLife) (stamp : ℕ) where
  abbrev pub tried_moments : Tried → List Moment
  tried_moments Unasked = []
  tried_moments (Did q x h) = Act (entry_in P l stamp q x) h ∷ []
  tried_moments (Denied q e) = []

  abbrev pub step_moments : Tried → OpId → Option Answer → List Moment
  step_moments t op x = tried_moments t ++ end_moments (tried_life P l stamp t).clock l.actor l.silent op x

  pub step_noted : (t : Tried) (op : OpId) (x : Option Answer)
      → (ended_life (tried_life P l stamp t) op x).moments ≡ l.moments ++ step_moments t op x
  step_noted Unasked op x = end_noted l l.silent op x refl
  step_noted (Did q y h) op x =
      end_noted (tried_life P l stamp (Did q y h)) l.silent op x refl ∙ append_assoc l.moments (Act (entry_in P l stamp q y) h ∷ [])
      (end_moments stamp l.actor l.silent op x)
  step_noted (Denied q e) op x = end_noted l l.silent op x refl

  pub step_fewer : (t : Tried) (op : OpId) (x : Option Answer)
      → length (step_moments t op x) ≤ length (tried_events op t ++ end_events l.silent op x)
  step_fewer Unasked op x = end_fewer l.clock l.actor l.silent op x
  step_fewer (Did q y h) op x = let few = end_fewer stamp l.actor l.silent op x in omega (arith, few)
  step_fewer (Denied q e) op x = end_fewer l.clock l.actor l.silent op x

  never : (es : List Event) (q : AnyReq) → IsRefused es (state_in P l).running
      → program_ask P l.counts (state_in P l).memory (state_in P l).running ≡ Some q → ⊥
  never es q refused asks =
      let none = refused_asks P l.counts (state_in P l).memory es (state_in P l).running refused in
      cc

  pub step_fresh : (silent : List Event) (t : Tried) (op : OpId) (x : Option Answer) → l.silent ≡ silent
      → ((e : Event) (es : List Event) → silent ≡ e ∷ es → IsRefused silent (state_in P l).running)
      → Asks P l.counts (state_in P l) t
      → (step_moments t op x ≡ []) ⊎ (l.silent ≡ [])
  step_fresh [] t op x is refused asks = inr is
  step_fresh (e ∷ es) Unasked op x is refused asks = inl
      (ap (λ (s : List Event). end_moments l.clock l.actor s op x) is ∙ no_end l.clock l.actor e es op x)
  step_fresh (e ∷ es) (Did q y h) op x is refused asks = absurd (never (e ∷ es) q (refused e es refl) asks)
  step_fresh (e ∷ es) (Denied q f) op x is refused asks = inl
      (ap (λ (s : List Event). end_moments l.clock l.actor s op x) is ∙ no_end l.clock l.actor e es op x)

  -- their stamps rise
  tried_rises : (ns : List Moment) → rises 0 l.clock ns ≡ true → (t : Tried) → is_later l.clock stamp t
      → rises 0 (tried_life P l stamp t).clock (ns ++ tried_moments t) ≡ true
  tried_rises ns rise Unasked later = rises_none l.clock ns rise
  tried_rises ns rise (Did q y h) later = rises_one l.clock ns (Act (entry_in P l stamp q y) h) rise later
  tried_rises ns rise (Denied q e) later = rises_none l.clock ns rise

  joined : (ns : List Moment) (op : OpId) (x : Option Answer) (m : ClientLife) (ts : List Moment) → m.silent ≡ l.silent
      → m.actor ≡ l.actor → rises 0 m.clock (ns ++ ts) ≡ true
      → rises 0 (ended_life m op x).clock (ns ++ (ts ++ end_moments m.clock l.actor l.silent op x)) ≡ true
  joined ns op x m ts silent actor rise =
      subst (λ (ms : List Moment). rises 0 (ended_life m op x).clock ms ≡ true)
      (append_assoc ns ts (end_moments m.clock m.actor l.silent op x) ∙ ap (λ (k : ℕ). ns ++ (ts ++ end_moments m.clock k l.silent op x))
      actor)
      (end_rises m l.silent op x (ns ++ ts) silent rise)

  pub step_rises : (ns : List Moment) → rises 0 l.clock ns ≡ true → (t : Tried) (op : OpId) (x : Option Answer) → is_later l.clock stamp t
      → rises 0 (ended_life (tried_life P l stamp t) op x).clock (ns ++ step_moments t op x) ≡ true
  step_rises ns rise Unasked op x later = joined ns op x l [] refl refl (tried_rises ns rise Unasked later)
  step_rises ns rise (Did q y h) op x later =
      joined ns op x (tried_life P l stamp (Did q y h)) (Act (entry_in P l stamp q y) h ∷ []) refl refl
      (tried_rises ns rise (Did q y h) later)
  step_rises ns rise (Denied q e) op x later = joined ns op x l [] refl refl (tried_rises ns rise (Denied q e) later)

-- ---- in the order of the marks

later_one : (t : Bool) (m : Moment) (ms : List Moment)
    → (if t then later_moments (if t then m ∷ ms else []) else (if t then m ∷ ms else [])) ≡ (if t then ms else [])
later_one true m ms = refl
later_one false m ms = refl

later_none : (t u : Bool) → (if t then later_moments (if u then [] else []) else (if u then [] else [])) ≡ (if u then [] else [])
later_none true true = refl
later_none true false = refl
later_none false u = refl

first_none : (u : Bool) → first_moment (if u then [] else []) ≡ []
first_none true = refl
first_none false = refl

pub noted_all : (a : ℕ) (es : List Event) (ms : List Moment) → length ms ≤ length es
    → moments_in_order (marks_for a es) (moments_of_one a ms) ≡ ms
noted_all a [] [] few = refl
noted_all a [] (m ∷ ms) few = absurd (omega (arith, few))
noted_all a (e ∷ es) [] few =
    ap (λ (xs : List Moment). xs ++ moments_in_order (marks_for a es)
    (λ b. if eqb b a then later_moments (moments_of_one a [] b) else moments_of_one a [] b)) (first_none (eqb a a))
    ∙ ap (λ (f : ℕ → List Moment). moments_in_order (marks_for a es) f) (λ i b. later_none (eqb b a) (eqb b a) i) ∙ noted_all a es []
    (omega arith)
noted_all a (e ∷ es) (m ∷ ms) few =
    ap (λ (t : Bool). first_moment (if t then m ∷ ms else []) ++ moments_in_order (marks_for a es)
    (λ b. if eqb b a then later_moments (moments_of_one a (m ∷ ms) b) else moments_of_one a (m ∷ ms) b)) (same a)
    ∙ ap (λ (f : ℕ → List Moment). m ∷ moments_in_order (marks_for a es) f) (λ i b. later_one (eqb b a) m ms i) ∙ ap
    (λ (xs : List Moment). m ∷ xs) (noted_all a es ms (omega (arith, few)))
