-- an event is its actor's own, and the moment after it differs in that actor's state alone
use Rattle.std.proofs.Common.{◌≡◌, ◌≢◌, ◌⊎◌, inl, inr, ℕ, true, false, if◌then◌else◌, List, [], ◌∷◌, ◌++◌, refl, ap, ◌∙◌, arith, eqb}
use Rattle.tect_ids.specs.declared.ids.Counts.{Counts}
use Rattle.tect_ids.proofs.KeyTests.{num_eq_cases}
use Rattle.world_runs.specs.declared.event.Event.{Event}
use Rattle.world_runs.specs.declared.event.Event.TheVariants.{Own, Dumped}
use Rattle.store_rules.specs.Store.{Store}
use Rattle.program_forms.specs.Kinds.{Programs}
use Rattle.world_runs.specs.Actors.{Actor, own_after}
use Rattle.world_runs.specs.Moments.{WorldState, May, opening, after, after_all, moment}
use Rattle.world_runs.specs.Races.{is_own}
use Rattle.world_runs.specs.Events.{own}
use Rattle.world_runs.specs.Limits.{actor_in}
use Rattle.world_runs.specs.OwnRuns.{OwnMayHappen, own_next, RepliesAre, stored_after, stored_next}
use Rattle.world_runs.proofs.Actors.{same_number, one_number}

pub other_number : (a b : ℕ) → a ≢ b → eqb a b ≡ false
other_number a b d = grind (arith, num_eq_cases)

pub flipped : (a b : ℕ) → eqb a b ≡ eqb b a
flipped a b = grind (arith, num_eq_cases)

-- one value has changed
pub changed : {X : Type 0} (P : X → Type 0) (others : ℕ → X) (a : ℕ) (x : X) (b : ℕ) → (b ≡ a → P x) → (b ≢ a → P (others b))
    → P (if eqb b a then x else others b)
changed P others a x b here there =
    elim (eqb b a) as (λ t. eqb b a ≡ t → P (if t then x else others b)) [
      | true ↦ λ e. here (one_number b a e)
      | false ↦ λ e. there (grind (arith, num_eq_cases))
    ] refl

-- and this is it
pub changed_there : {X : Type 0} (P : X → Type 0) (others : ℕ → X) (a : ℕ) (x : X) → P x → P (if eqb a a then x else others a)
changed_there P others a x h = changed P others a x a (λ e. h) (λ d. absurd (d refl))

pub own-there : (a : ℕ) (e : Event) (es : List Event) → is_own a e ≡ false → own a (e ∷ es) ≡ own a es
own-there a e es h = ap (λ t. if t then e ∷ own a es else own a es) h

-- an event is its own actor's, or a dump
pub own_of_actor : (e : Event) → (is_own (actor_in e) e ≡ true) ⊎ (e ≡ Dumped)
own_of_actor (Own op h) = inl (same_number op.actor)
own_of_actor Dumped = inr refl

pub actor_of_own : (a : ℕ) (e : Event) → is_own a e ≡ true → actor_in e ≡ a
actor_of_own a (Own op h) is = one_number op.actor a is
actor_of_own a Dumped is = absurd cc

-- after an event its actor's state is the one after it, and the others stay
picked : {S : Type 0} (actors : ℕ → Actor S) (next : Actor S → Actor S) (a b : ℕ)
    → (if eqb a b then next (actors b) else actors a) ≡ (if eqb b a then next (actors a) else actors a)
picked actors next a b =
    elim (eqb a b) as (λ t. eqb a b ≡ t → (if t then next (actors b) else actors a) ≡ (if eqb b a then next (actors a) else actors a)) [
      | true ↦ λ h. let e : a ≡ b = one_number a b h in rw (← e, same_number) refl
      | false ↦ λ h. let e : eqb b a ≡ false = flipped b a ∙ h in rw e refl
    ] refl

pub after_actors : {S : Type 0} (P : Programs S) (m : WorldState S) (e : Event) (a : ℕ)
    → (after P m e).actors a ≡ (if is_own a e then own_next P m.counts (m.actors a) e else m.actors a)
after_actors P m (Own op h) a = picked m.actors (λ s. own_after P m.counts s op h) a op.actor
after_actors P m Dumped a = refl

pub after_counts : {S : Type 0} (P : Programs S) (m : WorldState S) (e : Event) → (after P m e).counts ≡ m.counts
after_counts P m (Own op h) = refl
after_counts P m Dumped = refl

pub after_store : {S : Type 0} (P : Programs S) (m : WorldState S) (e : Event) → (after P m e).store ≡ stored_after m.store (e ∷ [])
after_store P m (Own op h) = refl
after_store P m Dumped = refl

-- what may happen is what its actor may do, with the store's reply
pub may_from : {S : Type 0} (P : Programs S) (m : WorldState S) (e : Event) → OwnMayHappen P m.counts (m.actors (actor_in e)) e
    → RepliesAre m.store (e ∷ []) → May P m e
may_from P m (Own op h) may replies = (may, replies.0)
may_from P m Dumped may replies = tt

pub own_from : {S : Type 0} (P : Programs S) (m : WorldState S) (e : Event) → May P m e
    → OwnMayHappen P m.counts (m.actors (actor_in e)) e × RepliesAre m.store (e ∷ [])
own_from P m (Own op h) may = (may.0, (may.1, tt))
own_from P m Dumped may = (tt, (tt, tt))

-- ---- one list of events after another

pub after_all-append : {S : Type 0} (P : Programs S) (m : WorldState S) (es fs : List Event)
    → after_all P m (es ++ fs) ≡ after_all P (after_all P m es) fs
after_all-append P m [] fs = refl
after_all-append P m (e ∷ es) fs = after_all-append P (after P m e) es fs

pub moment-append : {S : Type 0} (P : Programs S) (counts : Counts) (es fs : List Event)
    → moment P counts (es ++ fs) ≡ after_all P (moment P counts es) fs
moment-append P counts es fs = after_all-append P (opening counts) es fs

pub stored_after-append : (s : Store) (es fs : List Event) → stored_after s (es ++ fs) ≡ stored_after (stored_after s es) fs
stored_after-append s [] fs = refl
stored_after-append s (e ∷ es) fs = stored_after-append (stored_next s e) es fs

pub replies-append : (s : Store) (es fs : List Event) → RepliesAre s es → RepliesAre (stored_after s es) fs → RepliesAre s (es ++ fs)
replies-append s [] fs r q = q
replies-append s (e ∷ es) fs r q = (r.0, replies-append (stored_next s e) es fs r.1 q)

pub replies-front : (s : Store) (es fs : List Event) → RepliesAre s (es ++ fs) → RepliesAre s es
replies-front s [] fs r = tt
replies-front s (e ∷ es) fs r = (r.0, replies-front (stored_next s e) es fs r.1)

pub replies-rest : (s : Store) (es fs : List Event) → RepliesAre s (es ++ fs) → RepliesAre (stored_after s es) fs
replies-rest s [] fs r = r
replies-rest s (e ∷ es) fs r = replies-rest (stored_next s e) es fs r.1
