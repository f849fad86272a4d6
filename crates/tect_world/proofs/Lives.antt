-- the fields of the world tell a run of it, and stay so with more events of one actor
use Rattle.std.proofs.Common.{◌≡◌, ◌≢◌, ℕ, ◌+◌, ◌-◌, ◌<◌, ◌≤◌, ◌^◌, Bool, true, false, eqb, if◌then◌else◌, List, [], ◌∷◌, ◌++◌, length, set}
use Rattle.std.proofs.Common.{refl, sym, ap, subst, ◌∙◌, inl, inr, ◌⊎◌, arith, length-append}
use Rattle.std.specs.Prelude.{vec_len, vec_capacity}
use Rattle.std.proofs.lemmas.List.{get_or-set_same, get_or-set_other, length-map, get_or_past, length-set, append-nil}
use Rattle.std.proofs.lemmas.List.Sums.{count_by-le-length}
use Rattle.std.proofs.lemmas.Bool.{cases_lt}
use Rattle.tect_ids.specs.declared.ids.Counts.{Counts}
use Rattle.tect_ids.proofs.KeyTests.{num_eq_cases}
use Rattle.store_rules.specs.Store.{Store, opening_store}
use Rattle.world_runs.specs.declared.event.Event.{Event}
use Rattle.world_runs.specs.declared.event.Event.TheVariants.{Dumped}
use Rattle.world_runs.specs.Actors.{idle_actor}
use Rattle.world_runs.specs.Moments.{opening, after_all, IsWorldRun}
use Rattle.entry_words.specs.declared.entry.Moment.{Moment as Noted}
use Rattle.entry_words.specs.Moments.{rises}
use Rattle.program_forms.specs.Kinds.{Programs}
use Rattle.world_runs.specs.Events.{own, event_of, events_of}
use Rattle.world_runs.specs.OwnRuns.{OwnRun, own_state, RepliesAre, stored_after}
use Rattle.world_runs.specs.Limits.{KeepsLimits, OwnLimits}
use Rattle.world_runs.proofs.Actors.{own-append}
use Rattle.whole_runs.proofs.Actors.{replies-append, stored_after-append, after_all-append}
use Rattle.whole_runs.proofs.Owns.{own_runs_make_run, states_are_their_own}
use Rattle.whole_runs.proofs.Limits.{own_limits_make_limits}
use Rattle.clients.specs.Lives.{ClientLife, events_in, state_in, idle_life}
use Rattle.kept_shards.specs.KeptStore.{clock_at}
use Rattle.world_lives.specs.declared.marks.Mark.{Mark}
use Rattle.world_lives.specs.declared.marks.Mark.TheVariants as marks
use Rattle.tect_world.specs.declared.world.World.TheInside.{Inside}
use Rattle.tect_world.specs.Clients.{client_at, events_by, going, is_going, IsClientOf}
use Rattle.world_lives.specs.Life.{Life, present, grown}
use Rattle.world_lives.specs.Order.{in_order, marks_of, moments_in_order}
use Rattle.tect_world.specs.Inside.{life_of, noted_in, IsWorld}
use Rattle.tect_world.specs.Noted.{moments_by}
use Rattle.world_lives.proofs.MomentOrders.{HaveMarks, MayGrow, moments-grow, moments-dump}
use Rattle.world_lives.proofs.Orders.{AreMarked, marks-append, in_order-grow}
use Rattle.world_lives.proofs.Owning.{own_behind, own_none}

pub same_or_not : (a b : ℕ) → (b ≡ a) ⊎ (b ≢ a)
same_or_not a b = grind (arith, num_eq_cases b a)

pub up_to : (a : ℕ) → (a ≤ 65) ⊎ (65 < a)
up_to a = elim (cases_lt 65 a) [ inl h ↦ inr h | inr h ↦ inl h ]

-- ---- what the world tells

module _ {S : Type 0} (P : Programs S) (w : Inside S) (is : IsWorld P w) where
  abbrev history : List Event
  history = (life_of w).history

  -- what is so of no event, and of each client's, is so of each actor's own
  own_all : (Q : List Event → Type 0) → Q [] → ((a : ℕ) → 1 ≤ a → a ≤ 65 → Q (events_in (client_at w.shards.counts w.clients.items a)))
      → (a : ℕ) → Q (own a history)
  own_all Q none each a = subst Q (sym (is.owns a)) (by_number a)
    where
      beyond : (a : ℕ) → 65 < a → Q (events_in (client_at w.shards.counts w.clients.items a))
      beyond a far =
          let past : client_at w.shards.counts w.clients.items a ≡ idle_life 0 w.shards.counts = get_or_past w.clients.items (a - 1)
          (idle_life 0 w.shards.counts) (omega (arith, far, is.number)) in
          subst (λ (l : ClientLife). Q (events_in l)) (sym past) none

      in_range : (a : ℕ) → (a ≤ 65) ⊎ (65 < a) → 1 ≤ a → Q (events_in (client_at w.shards.counts w.clients.items a))
      in_range a (inl le) low = each a low le
      in_range a (inr lt) low = beyond a lt

      by_number : (a : ℕ) → Q (events_by w.shards.counts w.clients.items a)
      by_number a = elim (eqb a 0) as (λ t. eqb a 0 ≡ t → Q (if t then [] else events_in (client_at w.shards.counts w.clients.items a))) [
        | true ↦ λ e. none
        | false ↦ λ e. in_range a (up_to a) (let some : a ≢ 0 = λ z. grind (arith, num_eq_cases a 0, z, e) in omega (arith, some))
      ] refl

  pub world_run : IsWorldRun P w.shards.counts history
  world_run = own_runs_make_run P w.shards.counts history
      (own_all (OwnRun P w.shards.counts idle_actor) tt (λ a low high.
      let own = is.each a low high in
      subst (λ (c : Counts). OwnRun P c idle_actor (events_in (client_at w.shards.counts w.clients.items a))) own.counts own.life.run))
      is.replies

  pub world_limits : KeepsLimits P w.shards.counts history
  world_limits = own_limits_make_limits P w.shards.counts history
      (own_all (OwnLimits P w.shards.counts [] idle_actor) tt (λ a low high.
      let own = is.each a low high in
      subst (λ (c : Counts). OwnLimits P c [] idle_actor (events_in (client_at w.shards.counts w.clients.items a))) own.counts
      (own.life.limits (omega (arith, own.early, is.early, is.few)))))

  pub world_store : w.shards.store ≡ (present P (life_of w)).store
  world_store = is.store ∙ sym ((states_are_their_own P w.shards.counts history).1)

  module _ (a : ℕ) (low : 1 ≤ a) (high : a ≤ 65) where
    abbrev client : ClientLife
    client = client_at w.shards.counts w.clients.items a

    own_events : events_by w.shards.counts w.clients.items a ≡ events_in client
    own_events =
        let some : eqb a 0 ≡ false = grind (arith, num_eq_cases a 0, low) in
        ap (λ (t : Bool). if t then [] else events_in client) some

    pub world_owns : own a history ≡ events_in client
    world_owns = is.owns a ∙ own_events

    pub world_state : (present P (life_of w)).actors a ≡ state_in P client
    world_state =
        (states_are_their_own P w.shards.counts history).0 a ∙ ap (own_state P w.shards.counts idle_actor) world_owns
        ∙ ap (λ (c : Counts). own_state P c idle_actor (events_in client)) (sym (is.each a low high).counts)

-- ---- how many commands go on

pub few_going : {S : Type 0} (P : Programs S) (w : Inside S) → IsWorld P w → going P w.clients.items ≤ 65
few_going P w is = let few = count_by-le-length (is_going P) w.clients.items in omega (arith, few, is.number)

-- ---- the moments of all passes

more_events : (l : ClientLife) → length l.moments ≤ length (events_in l)
more_events l = omega (arith, length-append (events_of l.moments) l.silent, length-map l.moments event_of)

-- each actor has at least as many events as moments
fewer_moments : (c : Counts) (ls : List ClientLife) (b : ℕ) → length (moments_by c ls b) ≤ length (events_by c ls b)
fewer_moments c ls b = by_zero (eqb b 0)
  where
    by_zero : (t : Bool) → length (if t then [] else (client_at c ls b).moments) ≤ length (if t then [] else events_in (client_at c ls b))
    by_zero true = omega arith
    by_zero false = more_events (client_at c ls b)

pub have_marks : {S : Type 0} (P : Programs S) (w : Inside S) → IsWorld P w → HaveMarks w.order.items (moments_by w.shards.counts w.clients.items)
have_marks P w is b = let fewer = fewer_moments w.shards.counts w.clients.items b in omega (arith, fewer, is.marked b)

-- these moments of one actor, and none of the others
abbrev pub moments_of_one : ℕ → List Noted → ℕ → List Noted
moments_of_one a ms b = if eqb b a then ms else []

-- ---- events of one actor

-- these events of one actor, and none of the others
abbrev pub of_one : ℕ → List Event → ℕ → List Event
of_one a es b = if eqb b a then es else []

pub record Grows {S : Type 0} (P : Programs S) (old new : Inside S) (a : ℕ) (s : ClientLife) (es : List Event) (ms : List Mark) : Type 0 where
  pub items : new.clients.items ≡ set old.clients.items (a - 1) s
  pub counts : new.shards.counts ≡ old.shards.counts
  pub events : events_in s ≡ events_in (client_at old.shards.counts old.clients.items a) ++ es
  pub order : new.order.items ≡ old.order.items ++ ms
  pub told : in_order ms (of_one a es) ≡ es
  pub marked : AreMarked ms (of_one a es)
  pub mine : IsClientOf P old.shards.counts new.clock a s
  pub later : old.clock ≤ new.clock
  pub places : (p : ℕ) → clock_at new.shards p ≤ new.clock
  pub early : new.clock ≤ length new.order.items
  pub few : length new.order.items < 2 ^ 62
  pub replies : RepliesAre old.shards.store es
  pub store : new.shards.store ≡ stored_after old.shards.store es
  pub kept : List Noted
  pub moments : s.moments ≡ (client_at old.shards.counts old.clients.items a).moments ++ kept
  pub in_turn : moments_in_order ms (moments_of_one a kept) ≡ kept
  pub fresh : (kept ≡ []) ⊎ ((client_at old.shards.counts old.clients.items a).silent ≡ [])
  pub rising : rises 0 new.clock (noted_in old ++ kept) ≡ true
  pub room : vec_len new.order + going P new.clients.items ≤ vec_capacity new.order

module _ {S : Type 0} (P : Programs S) (old new : Inside S) (a : ℕ) (s : ClientLife) (es : List Event) (ms : List Mark)
    (is : IsWorld P old) (low : 1 ≤ a) (high : a ≤ 65) (g : Grows P old new a s es ms) where
  abbrev c : Counts
  c = old.shards.counts

  pub at_own : client_at c new.clients.items a ≡ s
  at_own = ap (λ (cs : List ClientLife). client_at c cs a) g.items ∙ get_or-set_same old.clients.items (a - 1) s (idle_life 0 c)
      (omega (arith, low, high, is.number))

  at_other : (b : ℕ) → 1 ≤ b → b ≢ a → client_at c new.clients.items b ≡ client_at c old.clients.items b
  at_other b low' differs =
      ap (λ (cs : List ClientLife). client_at c cs b) g.items
      ∙ get_or-set_other old.clients.items (a - 1) (b - 1) s (idle_life 0 c) (λ e. differs (omega (arith, low, low', e)))

  -- by whether it is the actor, and whether there is one with that number
  events_more : (b : ℕ) → events_by c new.clients.items b ≡ events_by c old.clients.items b ++ of_one a es b
  events_more b = elim (same_or_not a b) [
    | inl e ↦
        let some : eqb b 0 ≡ false = grind (arith, num_eq_cases b 0, low, e) in
        let here : eqb b a ≡ true = grind (arith, num_eq_cases b a, e) in
        ap (λ (t : Bool). if t then [] else events_in (client_at c new.clients.items b)) some
        ∙ ap (λ (x : ℕ). events_in (client_at c new.clients.items x)) e ∙ ap events_in at_own ∙ g.events
        ∙ ap (λ (x : ℕ). events_in (client_at c old.clients.items x) ++ es) (sym e)
        ∙ ap (λ (t : Bool). (if t then [] else events_in (client_at c old.clients.items b)) ++ es) (sym some)
        ∙ ap (λ (t : Bool). events_by c old.clients.items b ++ (if t then es else [])) (sym here)
    | inr d ↦
        let there : eqb b a ≡ false = grind (arith, num_eq_cases b a, d) in
        by_zero b d ∙ sym (append-nil (events_by c old.clients.items b)) ∙ ap
        (λ (t : Bool). events_by c old.clients.items b ++ (if t then es else [])) (sym there)
  ]
    where
      by_zero : (b : ℕ) → b ≢ a → events_by c new.clients.items b ≡ events_by c old.clients.items b
      by_zero b d = elim (eqb b 0) as
          (λ t. eqb b 0 ≡ t
          → (if t then [] else events_in (client_at c new.clients.items b)) ≡
          (if t then [] else events_in (client_at c old.clients.items b))) [
            | true ↦ λ e. refl
            | false ↦ λ e. ap events_in
                (at_other b (let some : b ≢ 0 = λ z. grind (arith, num_eq_cases b 0, z, e) in omega (arith, some)) d)
          ] refl

  history_more : (life_of new).history ≡ (life_of old).history ++ es
  history_more =
      ap (λ (k : Counts). in_order new.order.items (events_by k new.clients.items)) g.counts
      ∙ ap (λ (o : List Mark). in_order o (events_by c new.clients.items)) g.order
      ∙ ap (in_order (old.order.items ++ ms)) (λ i b. events_more b i)
      ∙ in_order-grow old.order.items ms (events_by c old.clients.items) (of_one a es) is.marked
      ∙ ap (λ (x : List Event). (life_of old).history ++ x) g.told

  moments_more : (b : ℕ) → moments_by c new.clients.items b ≡ moments_by c old.clients.items b ++ moments_of_one a g.kept b
  moments_more b = elim (same_or_not a b) [
    | inl e ↦
        let some : eqb b 0 ≡ false = grind (arith, num_eq_cases b 0, low, e) in
        let here : eqb b a ≡ true = grind (arith, num_eq_cases b a, e) in
        ap (λ (t : Bool). if t then [] else (client_at c new.clients.items b).moments) some
        ∙ ap (λ (x : ℕ). (client_at c new.clients.items x).moments) e ∙ ap (λ (l : ClientLife). l.moments) at_own ∙ g.moments
        ∙ ap (λ (x : ℕ). (client_at c old.clients.items x).moments ++ g.kept) (sym e)
        ∙ ap (λ (t : Bool). (if t then [] else (client_at c old.clients.items b).moments) ++ g.kept) (sym some)
        ∙ ap (λ (t : Bool). moments_by c old.clients.items b ++ (if t then g.kept else [])) (sym here)
    | inr d ↦
        let there : eqb b a ≡ false = grind (arith, num_eq_cases b a, d) in
        by_zero b d ∙ sym (append-nil (moments_by c old.clients.items b)) ∙ ap
        (λ (t : Bool). moments_by c old.clients.items b ++ (if t then g.kept else [])) (sym there)
  ]
    where
      by_zero : (b : ℕ) → b ≢ a → moments_by c new.clients.items b ≡ moments_by c old.clients.items b
      by_zero b d = elim (eqb b 0) as
          (λ t. eqb b 0 ≡ t
          → (if t then [] else (client_at c new.clients.items b).moments) ≡ (if t then [] else (client_at c old.clients.items b).moments)) [
            | true ↦ λ e. refl
            | false ↦ λ e. ap (λ (l : ClientLife). l.moments)
                (at_other b (let some : b ≢ 0 = λ z. grind (arith, num_eq_cases b 0, z, e) in omega (arith, some)) d)
          ] refl

  -- where no op of the actor was refused, each mark of it is of a moment
  all_moments : (l : ClientLife) → l.silent ≡ [] → length (events_in l) ≡ length l.moments
  all_moments l none = ap (λ (es : List Event). length (events_of l.moments ++ es)) none ∙ ap length (append-nil (events_of l.moments)) ∙
      length-map l.moments event_of

  no_more : (t : Bool) → g.kept ≡ [] → (if t then g.kept else []) ≡ []
  no_more true none = none
  no_more false none = refl

  may_grow : MayGrow old.order.items (moments_by c old.clients.items) (moments_of_one a g.kept)
  may_grow b = elim (same_or_not a b) [
    | inl e ↦
        elim g.fresh [
          | inl none ↦ inl (no_more (eqb b a) none)
          | inr none ↦
              let some : eqb b 0 ≡ false = grind (arith, num_eq_cases b 0, low, e) in
              let events : length (events_by c old.clients.items b) ≡ length (events_in (client_at c old.clients.items b)) =
              ap (λ (t : Bool). length (if t then [] else events_in (client_at c old.clients.items b))) some in
              let moments : length (moments_by c old.clients.items b) ≡ length (client_at c old.clients.items b).moments =
              ap (λ (t : Bool). length (if t then [] else (client_at c old.clients.items b).moments)) some in
              let silent : (client_at c old.clients.items b).silent ≡ [] = ap (λ (x : ℕ). (client_at c old.clients.items x).silent) e ∙ none
              in
              let all = all_moments (client_at c old.clients.items b) silent in
              inr (omega (arith, is.marked b, events, moments, all))
        ]
    | inr d ↦ let there : eqb b a ≡ false = grind (arith, num_eq_cases b a, d) in inl (ap (λ (t : Bool). if t then g.kept else []) there)
  ]

  noted_more : noted_in new ≡ noted_in old ++ g.kept
  noted_more =
      ap (λ (k : Counts). moments_in_order new.order.items (moments_by k new.clients.items)) g.counts
      ∙ ap (λ (o : List Mark). moments_in_order o (moments_by c new.clients.items)) g.order
      ∙ ap (moments_in_order (old.order.items ++ ms)) (λ i b. moments_more b i)
      ∙ moments-grow old.order.items ms (moments_by c old.clients.items) (moments_of_one a g.kept) (have_marks P old is) may_grow
      ∙ ap (λ (x : List Noted). noted_in old ++ x) g.in_turn

  pub grows : life_of new ≡ grown (life_of old) es
  grows i = record { counts = g.counts i; history = history_more i }

  mine_own : own a es ≡ es
  mine_own =
      let before : own a (events_in (client_at c old.clients.items a)) ≡ events_in (client_at c old.clients.items a) =
      subst (λ (x : ℕ). own x (events_in (client_at c old.clients.items a)) ≡ events_in (client_at c old.clients.items a))
      (is.each a low high).actor (is.each a low high).life.own in
      let after : own a (events_in s) ≡ events_in s = subst (λ (x : ℕ). own x (events_in s) ≡ events_in s) g.mine.actor g.mine.life.own in
      own_behind a (events_in (client_at c old.clients.items a)) es before (rw g.events at after)

  own_more : (b : ℕ) → own b es ≡ of_one a es b
  own_more b = elim (same_or_not a b) [
    | inl e ↦
        let here : eqb b a ≡ true = grind (arith, num_eq_cases b a, e) in
        ap (λ (x : ℕ). own x es) e ∙ mine_own ∙ ap (λ (t : Bool). if t then es else []) (sym here)
    | inr d ↦
        let there : eqb b a ≡ false = grind (arith, num_eq_cases b a, d) in
        own_none a b es (λ e. d (sym e)) mine_own ∙ ap (λ (t : Bool). if t then es else []) (sym there)
  ]

  each_client : (b : ℕ) → 1 ≤ b → b ≤ 65 → IsClientOf P c new.clock b (client_at c new.clients.items b)
  each_client b low' high' = elim (same_or_not a b) [
    | inl e ↦ subst (λ (x : ℕ). IsClientOf P c new.clock x (client_at c new.clients.items x)) (sym e)
        (subst (IsClientOf P c new.clock a) (sym at_own) g.mine)
    | inr d ↦
        let own = is.each b low' high' in
        subst (IsClientOf P c new.clock b) (sym (at_other b low' d))
        (record { actor = own.actor; counts = own.counts; life = own.life; early = omega (arith, own.early, g.later) })
  ]

  now_owns : (b : ℕ) → own b (life_of new).history ≡ events_by c new.clients.items b
  now_owns b = ap (own b) history_more ∙ own-append b (life_of old).history es ∙ ap (λ (x : List Event). x ++ own b es) (is.owns b)
      ∙ ap (λ (x : List Event). events_by c old.clients.items b ++ x) (own_more b) ∙ sym (events_more b)

  now_marked : (b : ℕ) → marks_of b new.order.items ≡ length (events_by c new.clients.items b)
  now_marked b =
      let both = marks-append b old.order.items ms in
      let sum : marks_of b (old.order.items ++ ms) ≡ length (events_by c old.clients.items b ++ of_one a es b) =
      omega (arith, both, is.marked b, g.marked b, length-append (events_by c old.clients.items b) (of_one a es b)) in
      ap (marks_of b) g.order ∙ sum ∙ ap length (sym (events_more b))

  pub stays : IsWorld P new
  stays = record {
    number = ap length g.items ∙ length-set old.clients.items (a - 1) s ∙ is.number;
    each = subst (λ (k : Counts). (b : ℕ) → 1 ≤ b → b ≤ 65 → IsClientOf P k new.clock b (client_at k new.clients.items b)) (sym g.counts)
        each_client;
    places = g.places;
    early = g.early;
    few = g.few;
    marked = subst (λ (k : Counts). (b : ℕ) → marks_of b new.order.items ≡ length (events_by k new.clients.items b)) (sym g.counts)
        now_marked;
    owns = subst (λ (k : Counts). (b : ℕ) → own b (life_of new).history ≡ events_by k new.clients.items b) (sym g.counts) now_owns;
    replies = subst (RepliesAre opening_store) (sym history_more)
        (replies-append opening_store (life_of old).history es is.replies (subst (λ (x : Store). RepliesAre x es) is.store g.replies));
    store = g.store ∙ ap (λ (x : Store). stored_after x es) is.store ∙ sym (stored_after-append opening_store (life_of old).history es) ∙ ap
        (stored_after opening_store) (sym history_more);
    rising = subst (λ (ns : List Noted). rises 0 new.clock ns ≡ true) (sym noted_more) g.rising;
    room = g.room;
  }

-- ---- a dump

pub few_more : (os ps ns : List Mark) (m : Mark) → length ps < 2 ^ 61 → ns ≡ ps ++ m ∷ [] → length ns < 2 ^ 62
few_more os ps ns m few is = omega (arith, few, ap length is, length-append ps (m ∷ []))

module _ {S : Type 0} (P : Programs S) (old new : Inside S) (is : IsWorld P old) (order : new.order.items ≡ old.order.items ++ marks.Dump ∷ [])
    (few : length new.order.items < 2 ^ 62) (room : vec_len new.order + 65 ≤ vec_capacity new.order) where
  abbrev dumped : Inside S
  dumped = record old { order = new.order }

  abbrev by_old : ℕ → List Event
  by_old = events_by old.shards.counts old.clients.items

  dumped_history : (life_of dumped).history ≡ (life_of old).history ++ Dumped ∷ []
  dumped_history =
      ap (λ (o : List Mark). in_order o by_old) order ∙ ap (in_order (old.order.items ++ marks.Dump ∷ []))
      (λ i b. sym (append-nil (by_old b)) i)
      ∙ in_order-grow old.order.items (marks.Dump ∷ []) by_old (λ b. []) is.marked

  pub dump_grows : life_of dumped ≡ grown (life_of old) (Dumped ∷ [])
  dump_grows i = record { counts = old.shards.counts; history = dumped_history i }

  dumped_noted : noted_in dumped ≡ noted_in old
  dumped_noted =
      let own : ℕ → List Noted = moments_by old.shards.counts old.clients.items in
      ap (λ (o : List Mark). moments_in_order o own) order ∙ moments-dump old.order.items own

  still_marked : (b : ℕ) → marks_of b new.order.items ≡ length (by_old b)
  still_marked b =
      let both = marks-append b old.order.items (marks.Dump ∷ []) in
      let same : marks_of b (old.order.items ++ marks.Dump ∷ []) ≡ length (by_old b) = omega (arith, both, is.marked b) in
      ap (marks_of b) order ∙ same

  pub dump_stays : IsWorld P dumped
  dump_stays = record {
    number = is.number;
    each = is.each;
    places = is.places;
    early = omega (arith, is.early, ap length order, length-append old.order.items (marks.Dump ∷ []));
    few = few;
    marked = still_marked;
    owns = λ b. ap (own b) dumped_history ∙ own-append b (life_of old).history (Dumped ∷ []) ∙ append-nil (own b (life_of old).history) ∙
        is.owns b;
    replies = subst (RepliesAre opening_store) (sym dumped_history)
        (replies-append opening_store (life_of old).history (Dumped ∷ []) is.replies (tt, tt));
    store = is.store ∙ sym (stored_after-append opening_store (life_of old).history (Dumped ∷ [])) ∙ ap (stored_after opening_store)
        (sym dumped_history);
    rising = subst (λ (ns : List Noted). rises 0 old.clock ns ≡ true) (sym dumped_noted) is.rising;
    room = (let few_go = few_going P old is in omega (arith, room, few_go));
  }
