-- each actor's own limits make those of the whole history
use Rattle.std.proofs.Common.{◌≡◌, inl, inr, ℕ, ◌+◌, Bool, true, false, if◌then◌else◌, List, [], ◌∷◌, ◌++◌, refl, sym, ap, ◌∙◌, subst}
use Rattle.std.proofs.Common.{arith}
use Rattle.std.proofs.lemmas.List.{append-nil}
use Rattle.std.proofs.lemmas.List.Sums.{sum_by-cons}
use Rattle.std.specs.List.{sum_by}
use Rattle.tect_ids.specs.declared.ids.Counts.{Counts}
use Rattle.tect_ids.specs.declared.ids.OpId.{OpId}
use Rattle.tect_ids.specs.declared.answer.Answer.{Answer}
use Rattle.tect_ids.specs.declared.answer.Answer.TheVariants as answers
use Rattle.world_runs.specs.declared.event.Event.{Event}
use Rattle.world_runs.specs.declared.event.Event.TheVariants.{Own, Dumped}
use Rattle.world_runs.specs.declared.event.Happening.TheVariants.{Began, NotBegun, Acted, Ended, Stopped, Failed}
use Rattle.program_forms.specs.Kinds.{Programs}
use Rattle.world_runs.specs.Actors.{Actor, idle_actor}
use Rattle.world_runs.specs.Moments.{opening, moment}
use Rattle.world_runs.specs.Races.{is_own}
use Rattle.world_runs.specs.Events.{own}
use Rattle.world_runs.specs.Limits.{cost, kept_bytes_of, event_cost, event_bytes, used, kept_bytes}
use Rattle.world_runs.specs.Limits.{EndsFull, KeepsRoom, KeepsLimits, KeepsLimitsAfter}
use Rattle.world_runs.specs.Limits.{OwnLimits, actor_in}
use Rattle.world_runs.specs.OwnRuns.{own_next}
use Rattle.world_runs.proofs.Actors.{own-append}
use Rattle.whole_runs.proofs.Actors.{own_of_actor, after_actors, moment-append}
use Rattle.whole_runs.proofs.Owns.{counts_stay}

-- ---- what is used, and what is kept, of histories that grow

-- another's event costs nothing
other_cost : (a : ℕ) (e : Event) → is_own a e ≡ false → event_cost a e ≡ 0
other_cost a (Own op h) is = ap (λ b. if b then cost h else 0) is
other_cost a Dumped is = refl

other_bytes : (a : ℕ) (e : Event) → is_own a e ≡ false → event_bytes a e ≡ 0
other_bytes a (Own op h) is = ap (λ b. if b then kept_bytes_of h else 0) is
other_bytes a Dumped is = refl

-- a sum over what is own is that over all, where the others count nothing
pub own_sum : (a : ℕ) (f : Event → ℕ) → ((e : Event) → is_own a e ≡ false → f e ≡ 0) → (es : List Event) → sum_by f (own a es) ≡ sum_by f es
own_sum a f none [] = refl
own_sum a f none (e ∷ es) =
    let rest : sum_by f (own a es) ≡ sum_by f es = own_sum a f none es in
    let all : sum_by f (e ∷ es) ≡ f e + sum_by f es = sum_by-cons f e es in
    elim (is_own a e) as (λ b. is_own a e ≡ b → sum_by f (if b then e ∷ own a es else own a es) ≡ sum_by f (e ∷ es)) [
      | true ↦ λ h. sum_by-cons f e (own a es) ∙ ap (λ n. f e + n) rest ∙ sym all
      | false ↦ λ h. omega (arith, none e h, rest, all)
    ] refl

pub used_own : (es : List Event) (a : ℕ) → used (own a es) a ≡ used es a
used_own es a = own_sum a (event_cost a) (other_cost a) es

pub kept_bytes_own : (es : List Event) (a : ℕ) → kept_bytes (own a es) a ≡ kept_bytes es a
kept_bytes_own es a = own_sum a (event_bytes a) (other_bytes a) es

-- ---- own limits

-- what is said of an event's room is told by its actor's own events
ends_from_own : {S : Type 0} (P : Programs S) (counts : Counts) (before : List Event) (s : Actor S) (op : OpId) (x : Answer)
    → EndsFull P counts (own op.actor before) s op x
    → EndsFull P counts before s op x
ends_from_own P counts before s op (answers.HistoryFull p) h = (rw (used_own before op.actor, kept_bytes_own before op.actor) at h.0, h.1)
ends_from_own P counts before s op _ h = tt

room_from_own : {S : Type 0} (P : Programs S) (counts : Counts) (before : List Event) (s : Actor S) (e : Event)
    → KeepsRoom P counts (own (actor_in e) before) s e
    → KeepsRoom P counts before s e
room_from_own P counts before s (Own op (Began c)) h = rw (used_own before op.actor) at h
room_from_own P counts before s (Own op (NotBegun c)) h = rw (used_own before op.actor) at h
room_from_own P counts before s (Own op (Acted q x heard)) h = rw (used_own before op.actor, kept_bytes_own before op.actor) at h
room_from_own P counts before s (Own op (Ended x)) h = tt
room_from_own P counts before s (Own op Stopped) h = tt
room_from_own P counts before s (Own op (Failed x)) h = ends_from_own P counts before s op x h
room_from_own P counts before s Dumped h = tt

-- ---- the limits of all

-- each actor's own events keep its limits, behind its own events before
abbrev pub AreOwnLimits : {S : Type 0} (P : Programs S) → Counts → List Event → List Event → Type 0
AreOwnLimits P counts before es = (a : ℕ) → OwnLimits P counts (own a before) ((moment P counts before).actors a) (own a es)

first_room : {S : Type 0} (P : Programs S) (counts : Counts) (before : List Event) (s : Actor S) (e : Event) (es : List Event) (b : Bool)
    → b ≡ true
    → OwnLimits P counts before s (if b then e ∷ es else es) → KeepsRoom P counts before s e
first_room P counts before s e es true h l = l.0
first_room P counts before s e es false h l = absurd cc

first_keeps : {S : Type 0} (P : Programs S) (counts : Counts) (before : List Event) (e : Event) (es : List Event)
    → AreOwnLimits P counts before (e ∷ es)
    → KeepsRoom P counts before ((moment P counts before).actors (actor_in e)) e
first_keeps P counts before e es limits =
    let k : ℕ = actor_in e in
    let s = (moment P counts before).actors k in
    elim (own_of_actor e) [
      | inl h ↦ room_from_own P counts before s e (first_room P counts (own k before) s e (own k es) (is_own k e) h (limits k))
      | inr d ↦ subst (λ (x : Event). KeepsRoom P counts before s x) (sym d) tt
    ]

rest_limits : {S : Type 0} (P : Programs S) (counts : Counts) (before : List Event) (s : Actor S) (e : Event) (es : List Event) (b : Bool)
    → OwnLimits P counts before s (if b then e ∷ es else es)
    → OwnLimits P counts (before ++ (if b then e ∷ [] else [])) (if b then own_next P counts s e else s) es
rest_limits P counts before s e es true l = l.1
rest_limits P counts before s e es false l = subst (λ (fs : List Event). OwnLimits P counts fs s es) (sym (append-nil before)) l

-- an actor's state after one event more
pub state_more : {S : Type 0} (P : Programs S) (counts : Counts) (before : List Event) (e : Event) (a : ℕ)
    → (moment P counts (before ++ e ∷ [])).actors a
    ≡ (if is_own a e then own_next P counts ((moment P counts before).actors a) e else (moment P counts before).actors a)
state_more P counts before e a =
    let m = moment P counts before in
    let same : m.counts ≡ counts = counts_stay P (opening counts) before in
    ap (λ n. n.actors a) (moment-append P counts before (e ∷ [])) ∙ after_actors P m e a ∙ ap
    (λ (c : Counts). if is_own a e then own_next P c (m.actors a) e else m.actors a) same

rest_keep : {S : Type 0} (P : Programs S) (counts : Counts) (before : List Event) (e : Event) (es : List Event)
    → AreOwnLimits P counts before (e ∷ es)
    → AreOwnLimits P counts (before ++ e ∷ []) es
rest_keep P counts before e es limits a =
    let s = (moment P counts before).actors a in
    rw (own-append a before (e ∷ []), state_more P counts before e a)
    (rest_limits P counts (own a before) s e (own a es) (is_own a e) (limits a))

pub limits_from_own : {S : Type 0} (P : Programs S) (counts : Counts) (before es : List Event) → AreOwnLimits P counts before es
    → KeepsLimitsAfter P counts before es
limits_from_own P counts before [] limits = tt
limits_from_own P counts before (e ∷ es) limits =
    (first_keeps P counts before e es limits, limits_from_own P counts (before ++ e ∷ []) es (rest_keep P counts before e es limits))

pub own_limits_make_limits : {S : Type 0} (P : Programs S) (counts : Counts) (history : List Event)
    → ((actor : ℕ) → OwnLimits P counts [] idle_actor (own actor history))
    → KeepsLimits P counts history
own_limits_make_limits P counts history limits = limits_from_own P counts [] history limits
