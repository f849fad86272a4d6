-- What a worker does in some lines, and then in one more.
use Rattle.std.proofs.Common.{◌≡◌, ◌≢◌, ℕ, ◌+◌, ◌-◌, ◌*◌, ◌/◌, ◌%◌, ◌^◌, ◌<◌, ◌≤◌, Some, Result, Ok, Err, OnOk, IsOk, List, [], ◌∷◌, ◌++◌}
use Rattle.std.proofs.Common.{length, set, refl, sym, ap, subst, ◌∙◌, arith, inl, inr, slice_get, slice_index_or, length-set}
use Rattle.std.proofs.lemmas.Option.{slice_get_read}
use Rattle.tect_ids.specs.declared.ids.Counts.{Counts}
use Rattle.tect_ids.specs.declared.script.Act.{Act}
use Rattle.tect_ids.specs.declared.script.Line.{Line}
use Rattle.tect_ids.specs.declared.script.Line.TheVariants as lines
use Rattle.program_forms.specs.Kinds.{Programs}
use Rattle.whole_runs.specs.ClientStates.{ClientState, TakesAct}
use Rattle.whole_runs.specs.Standing.{IsInState}
use Rattle.clients.specs.Lives.{state_in}
use Rattle.racers.specs.declared.racer.Racer.{Racer}
use Rattle.tect_race.specs.declared.workers.Worker.{Worker}
use Rattle.racers.specs.Lines.{Plays}
use Rattle.racer_stories.specs.Lines.{Ran, PlaysOrRests}
use Rattle.tect_race.specs.Workers.{WorkerPlays, WorkerRan}
use Rattle.racer_stories.specs.Ready.{IsReady, IsOfClient}
use Rattle.tect_race.specs.Ready.{IsWorker}
use Rattle.racer_stories.proofs.RacerLines.{adds_actor, ran_none, ran_on, ready_on}
use Rattle.list_laws.proofs.Shares.{also_at, same_at, set_cases, stands, place_share, place_slot}

pub worker_ran_none : {S : Type 0} (P : Programs S) (names : List (List ℕ)) (c : Worker S) → WorkerRan P names [] c c
worker_ran_none P names c = record {
  number = refl;
  count = refl;
  each = λ slot r t e f. subst (λ (x : Racer _). Ran P names [] r x) (same_at c.racers.items slot r t e f) (ran_none P names r);
}

pub worker_ran_on : {S : Type 0} (P : Programs S) (names : List (List ℕ)) (ls : List Line) (line : Line) (a b c : Worker S)
    → WorkerRan P names ls a b
    → WorkerPlays P names line b c → WorkerRan P names (ls ++ line ∷ []) a c
worker_ran_on P names ls line a b c ran plays = record {
  number = plays.number ∙ ran.number;
  count = plays.count ∙ ran.count;
  each = λ slot r t e f.
      let s = also_at a.racers.items b.racers.items slot r e ran.count in
      ran_on P names ls line r s.0 t (ran.each slot r s.0 e s.1) (plays.each slot s.0 t s.1 f);
}

plays_actor : {S : Type 0} (P : Programs S) (names : List (List ℕ)) (line : Line) (r t : Racer S) → PlaysOrRests P names line r t
    → t.client.actor ≡ r.client.actor
plays_actor P names (lines.Client client actor act) r t (inl w) = ap (λ (x : Racer _). x.client.actor) w.1
plays_actor P names (lines.Client client actor act) r t (inr w) = adds_actor P names r t (w.1).news (w.1).more (w.1).adds
plays_actor P names lines.Dump r t w = absurd w
plays_actor P names (lines.Store counts) r t w = absurd w
plays_actor P names lines.Sweep r t w = absurd w
plays_actor P names (lines.Lose disk) r t w = absurd w

pub worker_ready_on : {S : Type 0} (P : Programs S) (counts : Counts) (names : List (List ℕ)) (clients worker_count : ℕ) (line : Line)
    (later : List Line) (c d : Worker S)
    → IsWorker P counts clients worker_count (line ∷ later) c → WorkerPlays P names line c d
    → IsWorker P counts clients worker_count later d
worker_ready_on P counts names clients worker_count line later c d is plays = record {
  number = subst (λ k. k < worker_count) (sym plays.number) is.number;
  filled = λ slot. (
    λ l. subst (λ k. slot * worker_count + k < clients) (sym plays.number) ((is.filled slot).0 (let e = plays.count in omega arith)),
    λ l. (let h = (is.filled slot).1 (subst (λ k. slot * worker_count + k < clients) plays.number l) in let e = plays.count in omega arith),
  );
  own = λ slot t f.
      let r = also_at d.racers.items c.racers.items slot t f (sym plays.count) in
      plays_actor P names line r.0 t (plays.each slot r.0 t r.1 f) ∙ is.own slot r.0 r.1 ∙ ap (λ k. slot * worker_count + k + 1)
      (sym plays.number);
  ready = λ slot t f.
      let r = also_at d.racers.items c.racers.items slot t f (sym plays.count) in
      ready_on P names counts line later r.0 t (is.ready slot r.0 r.1) (plays.each slot r.0 t r.1 f);
}

-- ---- a line of a client of another worker

module _ {S : Type 0} (P : Programs S) (counts : Counts) (names : List (List ℕ)) (clients worker_count : ℕ) (client : List ℕ) (actor : ℕ)
    (act : Act) (later : List Line)
    (c : Worker S)
    (is : IsWorker P counts clients worker_count (lines.Client client actor act ∷ later) c) (low : 1 ≤ actor) where
  not_own : (actor - 1) % worker_count ≢ c.number → (slot : ℕ) (r : Racer S) → slice_get c.racers.items slot ≡ Some r
      → actor ≢ r.client.actor
  not_own ne slot r e same =
      let own = is.own slot r e in
      let x : actor - 1 ≡ slot * worker_count + c.number = omega arith in
      ne (ap (λ k. k % worker_count) x ∙ place_share worker_count c.number slot is.number)

  pub worker_rests : (actor - 1) % worker_count ≢ c.number → WorkerPlays P names (lines.Client client actor act) c c
  worker_rests ne = record {
    number = refl;
    count = refl;
    each = λ slot r t e f. inl (not_own ne slot r e, sym (same_at c.racers.items slot r t e f));
  }

  -- ---- a line of one of the worker

  module _ (mine : (actor - 1) % worker_count ≡ c.number) (high : actor ≤ clients) where
    abbrev at : ℕ
    at = (actor - 1) / worker_count

    whole : at * worker_count + c.number ≡ actor - 1
    whole = ap (λ k. at * worker_count + k) (sym mine) ∙ stands worker_count (actor - 1)

    pub own_slot : at < length c.racers.items
    own_slot = (is.filled at).1 (let e = whole in omega arith)

    pub own_actor : (r : Racer S) → slice_get c.racers.items at ≡ Some r → r.client.actor ≡ actor
    own_actor r e = let o = is.own at r e in let w = whole in omega arith

    other : (slot : ℕ) → slot ≢ at → (r : Racer S) → slice_get c.racers.items slot ≡ Some r → actor ≢ r.client.actor
    other slot ne r e same =
        let own = is.own slot r e in
        let x : actor - 1 ≡ slot * worker_count + c.number = omega arith in
        ne (sym (ap (λ k. k / worker_count) x ∙ place_slot worker_count c.number slot is.number))

    pub worker_plays : (r t : Racer S) (d : Worker S) → slice_get c.racers.items at ≡ Some r → d.number ≡ c.number
        → d.racers.items ≡ set c.racers.items at t → Plays P names act r t
        → WorkerPlays P names (lines.Client client actor act) c d
    worker_plays r t d e number items plays = record {
      number = number;
      count = ap (λ (l : List (Racer S)). length l) items ∙ length-set c.racers.items at t;
      each = λ slot x y f g. elim
          (set_cases c.racers.items at t slot y own_slot (ap (λ (l : List (Racer S)). slice_get l slot) (sym items) ∙ g)) [
            | inl h ↦ (
                let xr : x ≡ r = same_at c.racers.items at x r (subst (λ k. slice_get c.racers.items k ≡ Some x) h.0 f) e in
                inr (
                  sym (own_actor r e) ∙ ap (λ (w : Racer S). w.client.actor) (sym xr),
                  subst (λ (w : Racer S). Plays P names act w y) (sym xr) (subst (λ (w : Racer S). Plays P names act r w) (sym h.1) plays),
                ))
            | inr h ↦ inl (other slot h.0 x f, same_at c.racers.items slot y x h.1 f)
          ];
    }

-- ---- the line as the code has it

on_ok : {A B E F : Type 0} → {P Q : Type 0} → (o : Result A E) (q : Result B F) → (IsOk q → IsOk o) → (P → Q) → OnOk o P → OnOk q Q
on_ok (Ok x) (Ok y) k f h = f h
on_ok (Ok x) (Err e) k f h = tt
on_ok (Err e) (Ok y) k f h = let w = k refl in cc
on_ok (Err e) (Err d) k f h = tt

module _ {S : Type 0} (P : Programs S) (counts : Counts) (names : List (List ℕ)) (clients worker_count : ℕ) (line : Line)
    (client : List ℕ) (actor : ℕ) (act : Act)
    (c : Worker S)
    (is : line ≡ lines.Client client actor act) (of : IsOfClient clients line)
    (ready : (later : List Line) × IsWorker P counts clients worker_count (line ∷ later) c) where
  abbrev own_line : Line
  own_line = lines.Client client actor act

  abbrev bounds : IsOfClient clients own_line
  bounds = subst (IsOfClient clients) is of

  worker_is : IsWorker P counts clients worker_count (own_line ∷ ready.0) c
  worker_is = subst (λ (l : Line). IsWorker P counts clients worker_count (l ∷ ready.0) c) is ready.1

  pub line_rests : ((actor - 1) % worker_count ≡ c.number → ⊥) → WorkerPlays P names line c c
  line_rests ne = subst (λ (l : Line). WorkerPlays P names l c c) (sym is)
      (worker_rests P counts names clients worker_count client actor act ready.0 c worker_is bounds.0 ne)

  module _ (mine : (actor - 1) % worker_count ≡ c.number) where
    pub line_slot : (actor - 1) / worker_count < length c.racers.items
    line_slot = own_slot P counts names clients worker_count client actor act ready.0 c worker_is bounds.0 mine bounds.1

    module _ (r : Racer S) (value : r ≡ slice_index_or c.racers.items ((actor - 1) / worker_count) r) where
      here : slice_get c.racers.items ((actor - 1) / worker_count) ≡ Some r
      here = slice_get_read c.racers.items (length c.racers.items) ((actor - 1) / worker_count) r refl line_slot value

      racer_ready : IsReady P counts (own_line ∷ ready.0) r
      racer_ready = worker_is.ready ((actor - 1) / worker_count) r here

      actor_is : r.client.actor ≡ actor
      actor_is = own_actor P counts names clients worker_count client actor act ready.0 c worker_is bounds.0 mine bounds.1 r here

      pub line_counts : r.client.counts ≡ counts
      line_counts = racer_ready.counts_are

      pub line_client : (1 ≤ r.client.actor) × (r.client.actor ≤ clients)
      line_client = let e = actor_is in let b = bounds in (omega arith, omega arith)

      pub line_few : (state_in P r.client).number + 1 < 2 ^ 31
      line_few = let f = racer_ready.few in omega arith

      pub line_takes : (state : ClientState) × IsInState state (state_in P r.client) × TakesAct P state act
      line_takes =
          let states = racer_ready.states in
          (states actor, subst (λ k. IsInState (states k) (state_in P r.client)) actor_is racer_ready.state, racer_ready.in_turn.2)

      pub line_plays : {E F : Type 0} → (o : Result (Unit {0}) E) (q : Result (Unit {0}) F) → (IsOk q → IsOk o) → (t : Racer S)
          (d : Worker S)
          → d.number ≡ c.number → d.racers.items ≡ set c.racers.items ((actor - 1) / worker_count) t
          → OnOk o (Plays P names act r t) → OnOk q (WorkerPlays P names line c d)
      line_plays o q k t d number items =
          on_ok o q k (λ plays. subst (λ (l : Line). WorkerPlays P names l c d) (sym is)
          (worker_plays P counts names clients worker_count client actor act ready.0 c worker_is bounds.0 mine bounds.1 r t d here number
          items plays))
