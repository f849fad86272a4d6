-- the world before anything was done
use Rattle.std.proofs.Common.{◌≡◌, ◌≢◌, ℕ, suc, ◌+◌, ◌-◌, ◌<◌, ◌≤◌, Bool, true, false, eqb, if◌then◌else◌, List, [], ◌∷◌, length}
use Rattle.std.proofs.Common.{get_or, replicate, refl}
use Rattle.std.proofs.Common.{sym, ap, subst, ◌∙◌, inl, inr, ◌⊎◌, arith}
use Rattle.std.specs.Prelude.{vec_len, count_by, cond}
use Rattle.std.proofs.lemmas.List.{get_or-replicate, length-replicate, get_or_past}
use Rattle.std.proofs.lemmas.List.Sums.{sum_by-cons}
use Rattle.std.proofs.lemmas.Bool.{cases_lt}
use Rattle.tect_ids.specs.declared.ids.Counts.{Counts}
use Rattle.tect_ids.specs.Places.{place_count}
use Rattle.tect_ids.proofs.KeyTests.{num_eq_cases}
use Rattle.store_rules.specs.Store.{opening_store}
use Rattle.entry_words.specs.declared.entry.Entry.{Entry}
use Rattle.entry_words.specs.declared.entry.Moment.{Moment as Noted}
use Rattle.entry_words.specs.Moments.{rises}
use Rattle.program_forms.specs.Kinds.{Programs}
use Rattle.world_runs.specs.Events.{own}
use Rattle.world_runs.specs.OwnRuns.{RepliesAre, stored_after}
use Rattle.clients.specs.Lives.{ClientLife, events_in, idle_life}
use Rattle.kept_shards.specs.KeptStore.{KeptStore, clock_after}
use Rattle.world_lives.specs.declared.marks.Mark.{Mark}
use Rattle.tect_world.specs.declared.world.World.TheInside.{Inside}
use Rattle.tect_world.specs.Clients.{client_at, events_by, is_going, IsClientOf, AreIdle}
use Rattle.world_lives.specs.Order.{in_order, marks_of, moments_in_order}
use Rattle.tect_world.specs.Inside.{life_of, noted_in, IsWorld}
use Rattle.tect_world.specs.Noted.{moments_by}
use Rattle.tect_world.proofs.Lives.{up_to}

abbrev opening_kept : Counts → KeptStore
opening_kept c = record { counts = c; store = opening_store; entries = replicate (place_count c) [] }

none_counted : {X : Type 0} (p : X → Bool) (xs : List X) (d : X) → ((i : ℕ) → i < length xs → p (get_or xs i d) ≡ false) → count_by p xs ≡ 0
none_counted p [] d none = refl
none_counted p (x ∷ xs) d none =
    let rest = none_counted p xs d (λ i lt. none (suc i) (omega (arith, lt))) in
    let first : p x ≡ false = none 0 (omega arith) in
    let here : cond {A = ℕ} (p x) 1 0 ≡ 0 = ap (λ (t : Bool). cond {A = ℕ} t 1 0) first in
    let all = sum_by-cons (λ y. cond {A = ℕ} (p y) 1 0) x xs in
    omega (arith, here, all, rest)

module _ {S : Type 0} (P : Programs S) (new : Inside S) (c : Counts) (shards : new.shards ≡ opening_kept c) (idle : AreIdle P c new.clients.items 65) (clock : new.clock ≡ 0)
    (order : new.order.items ≡ []) (len : vec_len new.order ≡ 0) where
  first_at : (a : ℕ) → 1 ≤ a → a ≤ 65 → client_at c new.clients.items a ≡ idle_life a c
  first_at a low high =
      let number : a - 1 + 1 ≡ a = omega (arith, low) in
      idle.each (a - 1) (omega (arith, low, high)) ∙ ap (λ (n : ℕ). idle_life n c) number

  counts_are : new.shards.counts ≡ c
  counts_are = ap (λ (w : KeptStore). w.counts) shards

  none_by : (a : ℕ) → events_by c new.clients.items a ≡ []
  none_by a = elim (eqb a 0) as (λ t. eqb a 0 ≡ t → (if t then [] else events_in (client_at c new.clients.items a)) ≡ []) [
    | true ↦ λ e. refl
    | false ↦ λ e. none_in a (up_to a) (let some : a ≢ 0 = λ z. grind (arith, num_eq_cases a 0, z, e) in omega (arith, some))
  ] refl
    where
      none_in : (a : ℕ) → (a ≤ 65) ⊎ (65 < a) → 1 ≤ a → events_in (client_at c new.clients.items a) ≡ []
      none_in a (inl high) low = ap events_in (first_at a low high)
      none_in a (inr far) low = ap events_in
          (let past : client_at c new.clients.items a ≡ idle_life 0 c = get_or_past new.clients.items (a - 1) (idle_life 0 c)
          (omega (arith, far, idle.number)) in past)

  no_history : (life_of new).history ≡ []
  no_history = ap (λ (o : List Mark). in_order o (events_by new.shards.counts new.clients.items)) order

  no_clock : (n p : ℕ) → clock_after 0 (get_or (replicate n []) p []) ≡ 0
  no_clock n p = by_place n p (cases_lt p n)
    where
      by_place : (n p : ℕ) → (p < n) ⊎ (n ≤ p) → clock_after 0 (get_or (replicate n []) p []) ≡ 0
      by_place n p (inl lt) = ap (clock_after 0) (get_or-replicate n p [] [] lt)
      by_place n p (inr le) =
          let past : length (replicate n (let none : List Entry = [] in none)) ≤ p = rw length-replicate le in
          ap (clock_after 0) (get_or_past (replicate n []) p [] past)

  first_each : (a : ℕ) → 1 ≤ a → a ≤ 65 → IsClientOf P c new.clock a (client_at c new.clients.items a)
  first_each a low high =
      let at = first_at a low high in
      record {
        actor = ap (λ (l : ClientLife). l.actor) at;
        counts = ap (λ (l : ClientLife). l.counts) at;
        life = idle.lives (a - 1) (omega (arith, low, high));
        early = rw (at, clock) (omega arith);
      }

  no_notes : noted_in new ≡ []
  no_notes = ap (λ (o : List Mark). moments_in_order o (moments_by new.shards.counts new.clients.items)) order

  none_goes : (i : ℕ) → i < length new.clients.items → is_going P (get_or new.clients.items i (idle_life 0 c)) ≡ false
  none_goes i lt = ap (is_going P) (idle.each i (omega (arith, lt, idle.number)))

  pub start_world : IsWorld P new
  start_world = record {
    number = idle.number;
    each = subst (λ (k : Counts). (a : ℕ) → 1 ≤ a → a ≤ 65 → IsClientOf P k new.clock a (client_at k new.clients.items a)) (sym counts_are)
        first_each;
    places = λ p. rw (shards, clock)
        (let zero : clock_after 0 (get_or (replicate (place_count c) []) p []) ≡ 0 = no_clock (place_count c) p
        in omega (arith, zero));
    early = omega (arith, clock);
    few = rw order (omega arith);
    marked = subst (λ (k : Counts). (b : ℕ) → marks_of b new.order.items ≡ length (events_by k new.clients.items b)) (sym counts_are)
        (λ b. ap (marks_of b) order ∙ ap length (sym (none_by b)));
    owns = subst (λ (k : Counts). (b : ℕ) → own b (life_of new).history ≡ events_by k new.clients.items b) (sym counts_are)
        (λ b. ap (own b) no_history ∙ sym (none_by b));
    replies = subst (RepliesAre opening_store) (sym no_history) tt;
    store = ap (λ (w : KeptStore). w.store) shards ∙ ap (stored_after opening_store) (sym no_history);
    rising = subst (λ (ns : List Noted). rises 0 new.clock ns ≡ true) (sym no_notes)
        (subst (λ (k : ℕ). rises 0 k [] ≡ true) (sym clock) refl);
    room = (let none = none_counted (is_going P) new.clients.items (idle_life 0 c) none_goes in omega (arith, none, len));
  }
