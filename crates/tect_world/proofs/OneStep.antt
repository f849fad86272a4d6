-- what a step of a client makes of it and of the shards
use Rattle.std.proofs.Common.{zero, suc, get_or, set, ◌≡◌, ℕ, ◌+◌, ◌≤◌, ◌⊎◌, inl, inr, false, Option, Some, None, List, [], ◌∷◌, ◌++◌}
use Rattle.std.proofs.Common.{length, refl, sym, ap, ◌∙◌, arith}
use Rattle.tect_ids.specs.declared.ids.OpId.{OpId}
use Rattle.store_rules.specs.Places.{request_place}
use Rattle.entry_words.specs.declared.entry.Entry.{Entry}
use Rattle.tect_ids.specs.declared.answer.Answer.{Answer}
use Rattle.tect_ids.specs.declared.answer.Answer.TheVariants as answers
use Rattle.store_rules.specs.declared.any.AnyReq.{AnyReq}
use Rattle.store_rules.specs.declared.any.AnyReply.{AnyReply}
use Rattle.store_rules.specs.Store.{Store, store_step}
use Rattle.entry_words.specs.declared.entry.Refused.TheVariants as refusals
use Rattle.program_forms.specs.declared.heard.Heard.{Heard}
use Rattle.program_forms.specs.Kinds.{Programs}
use Rattle.program_forms.specs.Lacks.{IsLack}
use Rattle.world_runs.specs.declared.event.Event.{Event}
use Rattle.world_runs.specs.declared.event.Event.TheVariants.{Own}
use Rattle.world_runs.specs.declared.event.Happening.TheVariants.{Ended, Failed}
use Rattle.world_runs.specs.Events.{end_event}
use Rattle.world_runs.specs.OwnRuns.{RepliesAre, stored_after}
use Rattle.clients.specs.Lives.{ClientLife}
use Rattle.clients.specs.Steps.{Tried, Unasked, Did, Denied, DidThere, entry_in, tried_life, ended_with, ended_life, tried_events}
use Rattle.clients.specs.Steps.{end_events}
use Rattle.kept_shards.specs.KeptStore.{KeptStore, committed, entries_at, clock_after, clock_at}
use Rattle.kept_shards.specs.KeptStore as kept
use Rattle.tect_world.proofs.Marking.{has_act}

-- ---- the client after the step

module _ {S : Type 0} (P : Programs S) (l : ClientLife) (stamp : ℕ) where
  tried_actor : (t : Tried) → (tried_life P l stamp t).actor ≡ l.actor
  tried_actor Unasked = refl
  tried_actor (Did q y h) = refl
  tried_actor (Denied q e) = refl

  tried_counts : (t : Tried) → (tried_life P l stamp t).counts ≡ l.counts
  tried_counts Unasked = refl
  tried_counts (Did q y h) = refl
  tried_counts (Denied q e) = refl

actor_with : (l : ClientLife) (silent : List Event) (op : OpId) (a : Answer) → (ended_with l silent op a).actor ≡ l.actor
actor_with l [] op a = refl
actor_with l (e ∷ es) op a = refl

actor_ended : (l : ClientLife) (op : OpId) (x : Option Answer) → (ended_life l op x).actor ≡ l.actor
actor_ended l op None = refl
actor_ended l op (Some a) = actor_with l l.silent op a

counts_with : (l : ClientLife) (silent : List Event) (op : OpId) (a : Answer) → (ended_with l silent op a).counts ≡ l.counts
counts_with l [] op a = refl
counts_with l (e ∷ es) op a = refl

counts_ended : (l : ClientLife) (op : OpId) (x : Option Answer) → (ended_life l op x).counts ≡ l.counts
counts_ended l op None = refl
counts_ended l op (Some a) = counts_with l l.silent op a

pub same_actor : {S : Type 0} (P : Programs S) (l : ClientLife) (stamp : ℕ) (t : Tried) (op : OpId) (x : Option Answer)
    → (ended_life (tried_life P l stamp t) op x).actor ≡ l.actor
same_actor P l stamp t op x = actor_ended (tried_life P l stamp t) op x ∙ tried_actor P l stamp t

pub same_counts : {S : Type 0} (P : Programs S) (l : ClientLife) (stamp : ℕ) (t : Tried) (op : OpId) (x : Option Answer)
    → (ended_life (tried_life P l stamp t) op x).counts ≡ l.counts
same_counts P l stamp t op x = counts_ended (tried_life P l stamp t) op x ∙ tried_counts P l stamp t

-- its clock goes on by at most as much as it has events
abbrev pub IsNext : ℕ → ℕ → Tried → Type 0
IsNext clock stamp Unasked = Unit {0}
IsNext clock stamp (Did q x h) = stamp ≡ clock + 1
IsNext clock stamp (Denied q e) = Unit {0}

ended_clock : (m : ClientLife) (op : OpId) (silent : List Event) (x : Option Answer) → m.silent ≡ silent
    → (m.clock ≤ (ended_life m op x).clock) × ((ended_life m op x).clock ≤ m.clock + length (end_events silent op x))
ended_clock m op silent None is = (omega arith, omega arith)
ended_clock m op [] (Some a) is =
    let after : (ended_life m op (Some a)).clock ≡ m.clock + 1 = ap (λ (s : List Event). (ended_with m s op a).clock) is in
    (omega (arith, after), omega (arith, after))
ended_clock m op (e ∷ es) (Some a) is =
    let after : (ended_life m op (Some a)).clock ≡ m.clock = ap (λ (s : List Event). (ended_with m s op a).clock) is in
    (omega (arith, after), omega (arith, after))

module _ {S : Type 0} (P : Programs S) (l : ClientLife) (stamp : ℕ) (op : OpId) where
  pub clock_rises : (t : Tried) (x : Option Answer) → IsNext l.clock stamp t → l.clock ≤ (ended_life (tried_life P l stamp t) op x).clock
  clock_rises Unasked x next = (ended_clock l op l.silent x refl).0
  clock_rises (Did q y h) x next = let k = ended_clock (tried_life P l stamp (Did q y h)) op l.silent x refl in omega (arith, k.0, next)
  clock_rises (Denied q e) x next = (ended_clock l op l.silent x refl).0

  pub stamp_early : (q : AnyReq) (y : AnyReply) (h : Heard) (x : Option Answer)
      → stamp ≤ (ended_life (tried_life P l stamp (Did q y h)) op x).clock
  stamp_early q y h x = (ended_clock (tried_life P l stamp (Did q y h)) op l.silent x refl).0

  pub clock_early : (t : Tried) (x : Option Answer) → IsNext l.clock stamp t
      → (ended_life (tried_life P l stamp t) op x).clock ≤ l.clock + length (tried_events op t ++ end_events l.silent op x)
  clock_early Unasked x next = (ended_clock l op l.silent x refl).1
  clock_early (Did q y h) x next = let k = ended_clock (tried_life P l stamp (Did q y h)) op l.silent x refl in omega (arith, k.1, next)
  clock_early (Denied q e) x next = (ended_clock l op l.silent x refl).1

-- ---- ends

pub end_cases : (op : OpId) (a : Answer) → (end_event op a ≡ Own op (Ended a)) ⊎ (IsLack a × (end_event op a ≡ Own op (Failed a)))
end_cases op answers.NoMemory = inr (tt, refl)
end_cases op (answers.HistoryFull p) = inr (tt, refl)
end_cases op _ = inl refl

one_end : (s : Store) (op : OpId) (a : Answer) → RepliesAre s (end_event op a ∷ []) × (stored_after s (end_event op a ∷ []) ≡ s)
one_end s op a = elim (end_cases op a) [ inl e ↦ rw e ((tt, tt), refl) | inr e ↦ rw e.1 ((tt, tt), refl) ]

pub end_replies : (s : Store) (silent : List Event) (op : OpId) (x : Option Answer) → RepliesAre s (end_events silent op x)
    × (stored_after s (end_events silent op x) ≡ s)
end_replies s silent op None = (tt, refl)
end_replies s [] op (Some a) = one_end s op a
end_replies s (e ∷ es) op (Some a) = ((tt, tt), refl)

-- ---- the shards after the step

no_act : (op : OpId) (t : Tried) → has_act t ≡ false → tried_events op t ≡ []
no_act op Unasked is = refl
no_act op (Did q y h) is = absurd cc
no_act op (Denied q e) is = refl

module _ {S : Type 0} (P : Programs S) (w v : KeptStore) (l : ClientLife) (stamp : ℕ) where
  -- nothing was done there, or one transaction
  pub there_is : (t : Tried) → DidThere kept.Did w v l.clock (entry_in P l stamp) t
      → ((has_act t ≡ false) × (v ≡ w))
      ⊎ ((q : AnyReq) × (y : AnyReply) × (h : Heard) × (t ≡ Did q y h) × kept.DidHere w v l.clock q (entry_in P l stamp q y))
  there_is Unasked there = inl (refl, there)
  there_is (Did q y h) there = inr (q, y, h, refl, there)
  there_is (Denied q refusals.NoMemory) there = inl (refl, there)
  there_is (Denied q (refusals.HistoryFull place)) there = inl (refl, there)
  there_is (Denied q (refusals.Astray want found)) there = absurd there

  pub step_replies : (op : OpId) (silent : List Event) (x : Option Answer) (t : Tried)
      → DidThere kept.Did w v l.clock (entry_in P l stamp) t
      → RepliesAre w.store (tried_events op t ++ end_events silent op x)
      × (v.store ≡ stored_after w.store (tried_events op t ++ end_events silent op x))
  step_replies op silent x t there = elim (there_is t there) [
    | inl h ↦
        let ends = end_replies w.store silent op x in
        rw (no_act op t h.0) (ends.0, ap (λ (k : KeptStore). k.store) h.1 ∙ sym ends.1)
    | inr h ↦
        let q : AnyReq = h.0 in
        let here = h.4 in
        let ends = end_replies (store_step w.store q) silent op x in
        rw h.3 ((here.reply, ends.0), ap (λ (k : KeptStore). k.store) here.state ∙ sym ends.1)
  ]

-- ---- the clocks of the places

set_cases : {X : Type 0} (xs : List X) (i n : ℕ) (y d : X) → (get_or (set xs i y) n d ≡ y) ⊎ (get_or (set xs i y) n d ≡ get_or xs n d)
set_cases [] i n y d = inr refl
set_cases (z ∷ zs) zero zero y d = inl refl
set_cases (z ∷ zs) zero (suc n) y d = inr refl
set_cases (z ∷ zs) (suc i) zero y d = inr refl
set_cases (z ∷ zs) (suc i) (suc n) y d = set_cases zs i n y d

clock_last : (low : ℕ) (es : List Entry) (e : Entry) → clock_after low (es ++ e ∷ []) ≡ e.stamp
clock_last low [] e = refl
clock_last low (x ∷ xs) e = clock_last x.stamp xs e

committed_clock : (w : KeptStore) (e : Entry) (p : ℕ) → (clock_at (committed w e) p ≡ e.stamp) ⊎ (clock_at (committed w e) p ≡ clock_at w p)
committed_clock w e p = elim (set_cases w.entries e.place.0 p (entries_at w e.place.0 ++ e ∷ []) []) [
  | inl h ↦ inl (ap (clock_after 0) h ∙ clock_last 0 (entries_at w e.place.0) e)
  | inr h ↦ inr (ap (clock_after 0) h)
]

module _ {S : Type 0} (P : Programs S) (w v : KeptStore) (l : ClientLife) (stamp : ℕ) (places : (p : ℕ) → clock_at w p ≤ l.clock) where
  pub next_is : (t : Tried) → DidThere kept.Did w v l.clock (entry_in P l stamp) t → IsNext l.clock stamp t
  next_is Unasked there = tt
  next_is (Did q y h) there = let low = places (request_place w.counts q).0 in omega (arith, there.stamp, low)
  next_is (Denied q e) there = tt

  pub places_then : (op : OpId) (x : Option Answer) (t : Tried) → DidThere kept.Did w v l.clock (entry_in P l stamp) t
      → (p : ℕ) → clock_at v p ≤ (ended_life (tried_life P l stamp t) op x).clock
  places_then op x t there p =
      let rises = clock_rises P l stamp op t x (next_is t there) in
      elim (there_is P w v l stamp t there) [
        | inl h ↦ let before = places p in let same : clock_at v p ≡ clock_at w p = ap (λ (k : KeptStore). clock_at k p) h.1
            in omega (arith, before, same, rises)
        | inr h ↦
            let e : Entry = entry_in P l stamp h.0 h.1 in
            let after : clock_at v p ≡ clock_at (committed w e) p = ap (λ (k : KeptStore). clock_at k p) h.4.state in
            let early : stamp ≤ (ended_life (tried_life P l stamp t) op x).clock = rw h.3 (stamp_early P l stamp op h.0 h.1 h.2 x) in
            elim (committed_clock w e p) [
              | inl k ↦ omega (arith, after, k, early)
              | inr k ↦ let before = places p in omega (arith, after, k, before, rises)
            ]
      ]
