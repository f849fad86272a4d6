-- each actor's own run and the store's replies make the run of all, and are made by it
use Rattle.std.proofs.Common.{◌≡◌, inl, inr, ℕ, Bool, true, false, if◌then◌else◌, List, [], ◌∷◌, refl, sym, ap, ◌∙◌, subst}
use Rattle.tect_ids.specs.declared.ids.Counts.{Counts}
use Rattle.world_runs.specs.declared.event.Event.{Event}
use Rattle.store_rules.specs.Store.{opening_store}
use Rattle.program_forms.specs.Kinds.{Programs}
use Rattle.world_runs.specs.Actors.{Actor, idle_actor}
use Rattle.world_runs.specs.Moments.{WorldState, opening, after, after_all, moment, RunFrom, IsWorldRun}
use Rattle.world_runs.specs.Races.{is_own}
use Rattle.world_runs.specs.Events.{own}
use Rattle.world_runs.specs.Limits.{actor_in}
use Rattle.world_runs.specs.OwnRuns.{OwnMayHappen, OwnRun, own_next, own_state, RepliesAre, stored_after}
use Rattle.whole_runs.proofs.Actors.{own_of_actor, actor_of_own, after_actors, after_counts, after_store, may_from, own_from}
use Rattle.whole_runs.proofs.Actors.{replies-append, replies-front, replies-rest, stored_after-append}

-- each actor's own events are a run of it
abbrev pub AreOwnRuns : {S : Type 0} (P : Programs S) → WorldState S → List Event → Type 0
AreOwnRuns P m es = (a : ℕ) → OwnRun P m.counts (m.actors a) (own a es)

first_own : {S : Type 0} (P : Programs S) (counts : Counts) (s : Actor S) (e : Event) (es : List Event) (b : Bool) → b ≡ true
    → OwnRun P counts s (if b then e ∷ es else es)
    → OwnMayHappen P counts s e
first_own P counts s e es true h r = r.0
first_own P counts s e es false h r = absurd cc

-- the first event may be done
first_may : {S : Type 0} (P : Programs S) (m : WorldState S) (e : Event) (es : List Event) → AreOwnRuns P m (e ∷ es)
    → OwnMayHappen P m.counts (m.actors (actor_in e)) e
first_may P m e es runs =
    let k : ℕ = actor_in e in
    elim (own_of_actor e) [
      | inl h ↦ first_own P m.counts (m.actors k) e (own k es) (is_own k e) h (runs k)
      | inr d ↦ subst (λ (x : Event). OwnMayHappen P m.counts (m.actors k) x) (sym d) tt
    ]

-- the other events go on from the moment after it
rest_run : {S : Type 0} (P : Programs S) (counts : Counts) (s : Actor S) (e : Event) (es : List Event) (b : Bool)
    → OwnRun P counts s (if b then e ∷ es else es)
    → OwnRun P counts (if b then own_next P counts s e else s) es
rest_run P counts s e es true r = r.1
rest_run P counts s e es false r = r

rest_runs : {S : Type 0} (P : Programs S) (m : WorldState S) (e : Event) (es : List Event) → AreOwnRuns P m (e ∷ es)
    → AreOwnRuns P (after P m e) es
rest_runs P m e es runs a = rw (after_counts P m e, after_actors P m e a)
    (rest_run P m.counts (m.actors a) e (own a es) (is_own a e) (runs a))

pub run_from_own : {S : Type 0} (P : Programs S) (m : WorldState S) (es : List Event) → AreOwnRuns P m es → RepliesAre m.store es
    → RunFrom P m es
run_from_own P m [] runs replies = tt
run_from_own P m (e ∷ es) runs replies =
    let rest : RepliesAre (after P m e).store es = rw (after_store P m e) (replies-rest m.store (e ∷ []) es replies) in (
      may_from P m e (first_may P m e es runs) (replies-front m.store (e ∷ []) es replies),
      run_from_own P (after P m e) es (rest_runs P m e es runs)
          rest,
    )

pub own_runs_make_run : {S : Type 0} (P : Programs S) (counts : Counts) (history : List Event)
    → ((actor : ℕ) → OwnRun P counts idle_actor (own actor history))
    → RepliesAre opening_store history
    → IsWorldRun P counts history
own_runs_make_run P counts history runs replies = run_from_own P (opening counts) history runs replies

-- ---- the other way round

all_run : {S : Type 0} (P : Programs S) (counts : Counts) (s : Actor S) (e : Event) (es : List Event) (b : Bool)
    → (b ≡ true → OwnMayHappen P counts s e)
    → OwnRun P counts (if b then own_next P counts s e else s) es → OwnRun P counts s (if b then e ∷ es else es)
all_run P counts s e es true may r = (may refl, r)
all_run P counts s e es false may r = r

pub own_from_run : {S : Type 0} (P : Programs S) (m : WorldState S) (es : List Event) → RunFrom P m es → AreOwnRuns P m es
own_from_run P m [] run a = tt
own_from_run P m (e ∷ es) run a =
    let may : is_own a e ≡ true → OwnMayHappen P m.counts (m.actors a) e = λ h. subst
    (λ (k : ℕ). OwnMayHappen P m.counts (m.actors k) e) (actor_of_own a e h) (own_from P m e run.0).0 in
    let rest : OwnRun P m.counts (if is_own a e then own_next P m.counts (m.actors a) e else m.actors a) (own a es) =
    rw (after_counts P m e, after_actors P m e a) at (own_from_run P (after P m e) es run.1 a) in
    all_run P m.counts (m.actors a) e (own a es) (is_own a e) may rest

pub replies_from_run : {S : Type 0} (P : Programs S) (m : WorldState S) (es : List Event) → RunFrom P m es → RepliesAre m.store es
replies_from_run P m [] run = tt
replies_from_run P m (e ∷ es) run =
    let rest : RepliesAre (stored_after m.store (e ∷ [])) es = rw (after_store P m e) at (replies_from_run P (after P m e) es run.1) in
    replies-append m.store (e ∷ []) es (own_from P m e run.0).1 rest

pub run_is_own_runs : {S : Type 0} (P : Programs S) (counts : Counts) (history : List Event) → IsWorldRun P counts history
    → ((actor : ℕ) → OwnRun P counts idle_actor (own actor history)) × RepliesAre opening_store history
run_is_own_runs P counts history run = (own_from_run P (opening counts) history run, replies_from_run P (opening counts) history run)

-- ---- the states

state_step : {S : Type 0} (P : Programs S) (counts : Counts) (s : Actor S) (e : Event) (es : List Event) (b : Bool)
    → own_state P counts (if b then own_next P counts s e else s) es ≡ own_state P counts s (if b then e ∷ es else es)
state_step P counts s e es true = refl
state_step P counts s e es false = refl

-- any events
pub counts_stay : {S : Type 0} (P : Programs S) (m : WorldState S) (es : List Event) → (after_all P m es).counts ≡ m.counts
counts_stay P m [] = refl
counts_stay P m (e ∷ es) = counts_stay P (after P m e) es ∙ after_counts P m e

pub actors_are_their_own : {S : Type 0} (P : Programs S) (m : WorldState S) (es : List Event) (a : ℕ)
    → (after_all P m es).actors a ≡ own_state P m.counts (m.actors a) (own a es)
actors_are_their_own P m [] a = refl
actors_are_their_own P m (e ∷ es) a =
    let rest : (after_all P (after P m e) es).actors a ≡ own_state P m.counts
    (if is_own a e then own_next P m.counts (m.actors a) e else m.actors a) (own a es) =
    rw (after_counts P m e, after_actors P m e a) at (actors_are_their_own P (after P m e) es a) in
    rest ∙ state_step P m.counts (m.actors a) e (own a es) (is_own a e)

pub store_is_after : {S : Type 0} (P : Programs S) (m : WorldState S) (es : List Event) → (after_all P m es).store ≡ stored_after m.store es
store_is_after P m [] = refl
store_is_after P m (e ∷ es) = store_is_after P (after P m e) es ∙ ap (λ s. stored_after s es) (after_store P m e) ∙ sym
    (stored_after-append m.store (e ∷ []) es)

pub states_are_their_own : {S : Type 0} (P : Programs S) (counts : Counts) (history : List Event)
    → ((actor : ℕ) → (moment P counts history).actors actor ≡ own_state P counts idle_actor (own actor history))
    × ((moment P counts history).store ≡ stored_after opening_store history)
states_are_their_own P counts history = (λ a. actors_are_their_own P (opening counts) history a, store_is_after P (opening counts) history)
