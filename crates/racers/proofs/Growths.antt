-- What a client's events and state become as it grows, once and again.
use Rattle.std.proofs.Common.{◌≡◌, ℕ, ◌≤◌, ◌⊎◌, inl, inr, true, nat_lt, nat_le, List, [], ◌∷◌, ◌++◌, refl, sym, ap, subst, ◌∙◌}
use Rattle.std.proofs.Common.{append_assoc, arith}
use Rattle.std.proofs.lemmas.Grind.{common_steps}
use Rattle.std.proofs.lemmas.List.{append-nil, map-append}
use Rattle.tect_ids.specs.declared.ids.Counts.{Counts}
use Rattle.program_forms.specs.Kinds.{Programs}
use Rattle.entry_words.specs.declared.entry.Moment.{Moment}
use Rattle.entry_words.specs.Moments.{rises, stamp_of}
use Rattle.world_runs.specs.declared.event.Event.{Event}
use Rattle.world_runs.specs.Actors.{idle_actor}
use Rattle.world_runs.specs.Events.{event_of, events_of}
use Rattle.world_runs.specs.OwnRuns.{own_state}
use Rattle.world_runs.proofs.Actors.{own_state-append}
use Rattle.world_runs.specs.Smooth.{OwnEndsAtOnce}
use Rattle.whole_runs.proofs.Prompt.{ends_at_once-rest}
use Rattle.clients.specs.Lives.{ClientLife, events_in, state_in, IsLife}
use Rattle.racers.specs.Lives.{grown, news_events}
use Rattle.racers.specs.Steps.{Grows}

-- ---- stamps

rises_lower : (low mid high : ℕ) (ms : List Moment) → low ≤ mid → rises mid high ms ≡ true → rises low high ms ≡ true
rises_lower low mid high [] le r = grind (arith, common_steps, le, r)
rises_lower low mid high (m ∷ ms) le r =
    let here : nat_lt low (stamp_of m) ≡ true = grind (arith, common_steps, le, r) in
    let more : rises (stamp_of m) high ms ≡ true = grind (arith, common_steps, r) in
    rw here more

rises-append : (low mid high : ℕ) (ms ns : List Moment) → rises low mid ms ≡ true → rises mid high ns ≡ true
    → rises low high (ms ++ ns) ≡ true
rises-append low mid high [] ns r s = rises_lower low mid high ns (grind (arith, common_steps, r)) s
rises-append low mid high (m ∷ ms) ns r s =
    let here : nat_lt low (stamp_of m) ≡ true = grind (arith, common_steps, r) in
    let more : rises (stamp_of m) mid ms ≡ true = grind (arith, common_steps, r) in
    rw here (rises-append (stamp_of m) mid high ms ns more s)

pub rises_here : (n : ℕ) → rises n n [] ≡ true
rises_here n = let h : nat_le n n ≡ true = grind (arith, common_steps) in h

-- ---- lists

-- once an op is refused nothing is noted any more
pub both_news : (xs ys : List Moment) (es fs : List Event) → (ys ≡ []) ⊎ (es ≡ [])
    → news_events (xs ++ ys) (es ++ fs) ≡ news_events xs es ++ news_events ys fs
both_news xs ys es fs (inl none) = rw (none, append-nil xs) (sym (append_assoc (events_of xs) es fs))
both_news xs ys es fs (inr none) =
    rw none (ap (λ l. l ++ fs) (map-append event_of xs ys) ∙ append_assoc (events_of xs) (events_of ys) fs ∙ ap
    (λ l. l ++ (events_of ys ++ fs)) (sym (append-nil (events_of xs))))

none_before : {A : Type 0} → (all xs ys : List A) → all ≡ xs ++ ys → all ≡ [] → (xs ≡ []) × (ys ≡ [])
none_before all [] ys e f = (refl, sym e ∙ f)
none_before all (x ∷ xs) ys e f = let g : x ∷ (xs ++ ys) ≡ [] = sym e ∙ f in cc

-- ---- one growth

module _ (a b : ClientLife) (n : List Moment) (m : List Event) (first : Grows a b n m) where
  pub grows_actor : b.actor ≡ a.actor
  grows_actor = ap (λ (w : ClientLife). w.actor) first.life

  pub grows_counts : b.counts ≡ a.counts
  grows_counts = ap (λ (w : ClientLife). w.counts) first.life

  grows_silent : b.silent ≡ a.silent ++ m
  grows_silent = ap (λ (w : ClientLife). w.silent) first.life

  pub grows_events : events_in b ≡ events_in a ++ news_events n m
  grows_events = ap events_in first.life ∙ both_news a.moments n a.silent m first.late

  pub grows_state : {S : Type 0} (P : Programs S) → state_in P b ≡ own_state P a.counts (state_in P a) (news_events n m)
  grows_state P =
      ap (λ (k : Counts). own_state P k idle_actor (events_in b)) grows_counts ∙ ap (own_state P a.counts idle_actor) grows_events
      ∙ own_state-append P a.counts idle_actor (events_in a) (news_events n m)

  -- each command of it ended at once
  pub grows_at_once : {S : Type 0} (P : Programs S) → IsLife P b → OwnEndsAtOnce P a.counts (state_in P a) (news_events n m)
  grows_at_once P life =
      ends_at_once-rest P a.counts idle_actor (events_in a) (news_events n m)
      (subst (OwnEndsAtOnce P a.counts idle_actor) grows_events
      (subst (λ (k : Counts). OwnEndsAtOnce P k idle_actor (events_in b)) grows_counts life.prompt))

pub grows_none : (a : ClientLife) → Grows a a [] []
grows_none a = record {
  life = λ i. record a { clock = a.clock; moments = sym (append-nil a.moments) i; silent = sym (append-nil a.silent) i };
  late = inl refl;
  stamps = rises_here a.clock;
}

-- ---- two growths

module _ (a b c : ClientLife) (n p : List Moment) (m q : List Event) (first : Grows a b n m) (second : Grows b c p q) where
  late_now : (p ≡ []) ⊎ (b.silent ≡ []) → (p ≡ []) ⊎ (m ≡ [])
  late_now (inl e) = inl e
  late_now (inr e) = inr (none_before b.silent a.silent m (grows_silent a b n m first) e).1

  pub added_events : news_events (n ++ p) (m ++ q) ≡ news_events n m ++ news_events p q
  added_events = both_news n p m q (late_now second.late)

  late_both : (n ≡ []) ⊎ (a.silent ≡ []) → (p ≡ []) ⊎ (b.silent ≡ []) → (n ++ p ≡ []) ⊎ (a.silent ≡ [])
  late_both (inr e) f = inr e
  late_both (inl e) (inl f) = inl (rw (e, f) refl)
  late_both (inl e) (inr f) = inr (none_before b.silent a.silent m (grows_silent a b n m first) f).0

  life_both : c ≡ grown a c.clock (n ++ p) (m ++ q)
  life_both =
      second.life ∙ ap (λ (w : ClientLife). grown w c.clock p q) first.life
      ∙ (λ i. record a { clock = c.clock; moments = append_assoc a.moments n p i; silent = append_assoc a.silent m q i })

  pub grows_both : Grows a c (n ++ p) (m ++ q)
  grows_both = record {
    life = life_both;
    late = late_both first.late second.late;
    stamps = rises-append a.clock b.clock c.clock n p first.stamps second.stamps;
  }
