-- A running command is the last that its actor began: so it is in every run, by its events alone.
use Rattle.std.proofs.Common.{◌≡◌, ◌≢◌, ℕ, Bool, true, false, ◌||◌, is_some, if◌then◌else◌, Option, Some, None, List, [], ◌∷◌}
use Rattle.std.proofs.Common.{refl, sym, ◌∙◌, ap, subst, arith}
use Rattle.tect_ids.specs.declared.ids.Counts.{Counts}
use Rattle.tect_ids.specs.declared.ids.OpId.{OpId}
use Rattle.tect_ids.specs.declared.answer.Answer.{Answer}
use Rattle.tect_ids.specs.Keys.{op_eq}
use Rattle.tect_ids.proofs.KeyTests.{keys}
use Rattle.store_rules.specs.declared.any.AnyReq.{AnyReq}
use Rattle.store_rules.specs.declared.any.AnyReply.{AnyReply}
use Rattle.program_forms.specs.declared.heard.Heard.{Heard}
use Rattle.program_forms.specs.declared.standing.Standing.{Standing}
use Rattle.program_forms.specs.declared.standing.Standing.TheVariants.{Goes, Left, NoRoom}
use Rattle.program_forms.specs.Memories.{Memory}
use Rattle.program_forms.specs.Kinds.{Does, asked_by, said_by, Programs, next_does}
use Rattle.program_forms.specs.Kinds as kinds
use Rattle.world_runs.specs.declared.event.Event.{Event}
use Rattle.world_runs.specs.declared.event.Event.TheVariants.{Own, Dumped}
use Rattle.world_runs.specs.declared.event.Happening.{Happening}
use Rattle.world_runs.specs.declared.event.Happening.TheVariants.{Began, NotBegun, Acted, Ended, Stopped, Failed}
use Rattle.world_runs.specs.Actors.{Actor, Running, CanBegin, OwnMay, own_after, program_of, standing_does, asked_in, answer_in}
use Rattle.world_runs.specs.Actors.{went_on, ended}
use Rattle.world_runs.specs.Moments.{WorldState, May, RunFrom, IsWorldRun, opening, after, after_all, moment, running, asked, answered}
use Rattle.whole_runs.specs.Standing.{IsLastBegun}
use Rattle.whole_runs.proofs.Actors.{changed}

-- ---- the command of an op

-- the command of an op is its actor's running one
pub record RunsAs {S : Type 0} (o : Option (Running S)) (op : OpId) (r : Running S) : Type 0 where
  pub is : o ≡ Some r
  pub same : r.op ≡ op

-- the command that runs as an op is found at its actor
pub runs_as : {S : Type 0} (o : Option (Running S)) (op : OpId) (r : Running S) → program_of o op ≡ Some r → RunsAs o op r
runs_as None op r e = absurd (let k : None ≡ Some r = e in cc)
runs_as (Some t) op r e = at (op_eq t.op op) refl e
  where
    at : (b : Bool) → op_eq t.op op ≡ b → (if b then Some t else None) ≡ Some r → RunsAs (Some t) op r
    at true eq same = record { is = same; same = let k : Some t ≡ Some r = same in let first : t ≡ r = cc in grind (arith, keys) }
    at false differs same = absurd (let k : None ≡ Some r = same in cc)

pub running_is_of : {S : Type 0} (m : WorldState S) (op : OpId) (r : Running S) → running m op ≡ Some r
    → RunsAs (m.actors op.actor).running op r
running_is_of m op r e = runs_as (m.actors op.actor).running op r e

module _ {S : Type 0} (P : Programs S) where
  -- where an op asks, a command runs as that op, goes on in this state, and asks it, its look-ups done
  pub record Asks (m : WorldState S) (op : OpId) (q : AnyReq) (r : Running S) : Type 0 where
    pub same : r.op ≡ op
    pub is : (m.actors r.op.actor).running ≡ Some r
    pub state : S
    pub goes : r.at ≡ Goes state
    pub ask : next_does P.kind m.counts (m.actors r.op.actor).memory r.op state ≡ kinds.Asks q

  asked_is : (d : Does Answer) (q : AnyReq) → asked_by d ≡ Some q → d ≡ kinds.Asks q
  asked_is (kinds.Asks p) q e = let k : Some p ≡ Some q = e in let same : p ≡ q = cc in ap (λ z. kinds.Asks z) same
  asked_is (kinds.Says a) q e = absurd (let k : None ≡ Some q = e in cc)

  record GoesAsking (c : Counts) (m : Memory) (op : OpId) (at : Standing S) (q : AnyReq) : Type 0 where
    state : S
    goes : at ≡ Goes state
    ask : next_does P.kind c m op state ≡ kinds.Asks q

  goes_asking : (c : Counts) (m : Memory) (op : OpId) (at : Standing S) (q : AnyReq) → asked_in (standing_does P c m op at) ≡ Some q
      → GoesAsking c m op at q
  goes_asking c m op (Goes s) q e = record { state = s; goes = refl; ask = asked_is (next_does P.kind c m op s) q e }
  goes_asking c m op Left q e = absurd (let k : None ≡ Some q = e in cc)
  goes_asking c m op NoRoom q e = absurd (let k : None ≡ Some q = e in cc)

  asks_as : (m : WorldState S) (op : OpId) (q : AnyReq) (o : Option (Running S)) → running m op ≡ o → asked P m op ≡ Some q
      → (r : Running S) × Asks m op q r
  asks_as m op q None e asks = absurd (let k : None ≡ Some q = rw e at asks in cc)
  asks_as m op q (Some r) e asks =
      let a : RunsAs (m.actors op.actor).running op r = running_is_of m op r e in
      let here : asked_in (standing_does P m.counts (m.actors op.actor).memory r.op r.at) ≡ Some q = rw e at asks in
      let g : GoesAsking m.counts (m.actors op.actor).memory r.op r.at q = goes_asking m.counts (m.actors op.actor).memory r.op r.at q here
      in (
        r,
        record {
          same = a.same;
          is = subst (λ (o : OpId). (m.actors o.actor).running ≡ Some r) (sym a.same) a.is;
          state = g.state;
          goes = g.goes;
          ask = subst (λ (o : OpId). next_does P.kind m.counts (m.actors o.actor).memory r.op g.state ≡ kinds.Asks q) (sym a.same) g.ask;
        },
      )

  pub asks_by : (m : WorldState S) (op : OpId) (q : AnyReq) → asked P m op ≡ Some q → (r : Running S) × Asks m op q r
  asks_by m op q asks = asks_as m op q (running m op) refl asks

-- ---- what is so of it at every moment

-- it is its actor's last begun
abbrev pub IsWell : {S : Type 0} → ℕ → Actor S → Type 0
IsWell a s = (r : _) → s.running ≡ Some r → IsLastBegun a s r

abbrev pub AllWell : {S : Type 0} → WorldState S → Type 0
AllWell m = (a : ℕ) → IsWell a (m.actors a)

none_well : {S : Type 0} (a : ℕ) (s : Actor S) → s.running ≡ None → IsWell a s
none_well a s none r is = absurd (let k : None ≡ Some r = sym none ∙ is in cc)

-- a command that begins, or is refused
started_well : {S : Type 0} (s : Actor S) (op : OpId) (at : Standing S) → CanBegin s op
    → IsWell op.actor record s { number = op.number; running = Some record { op = op; at = at } }
started_well {S = S} s op at can r is =
    let first : Running S = record { op = op; at = at } in
    let k : Some first ≡ Some r = is in
    let same : first ≡ r = cc in
    subst (λ (z : Running S). IsLastBegun op.actor record s { number = op.number; running = Some first } z) same
    record { own = refl; last = refl; is_actor = can.is_actor }

module _ {S : Type 0} (P : Programs S) (c : Counts) (a : ℕ) (s : Actor S) where
  -- a command that goes on at a reply
  heard_well : (o : Option (Running S)) (q : AnyReq) (x : AnyReply) (h : Heard) → s.running ≡ o → IsWell a s
      → IsWell a (went_on P c s o q x h)
  heard_well None q x h is well r next = well r next
  heard_well (Some t) q x h is well r next =
      let old : IsLastBegun a s t = well t is in
      let ops : t.op ≡ r.op = (let k = next in cc) in
      record {
        own = subst (λ (o : OpId). o.actor ≡ a) ops old.own;
        last = subst (λ (o : OpId). o.number ≡ s.number) ops old.last;
        is_actor = old.is_actor;
      }

  ended_well : (o : Option (Running S)) → s.running ≡ o → IsWell a (ended P c s o)
  ended_well None is = none_well a s is
  ended_well (Some t) is = none_well a (ended P c s (Some t)) refl

module _ {S : Type 0} (P : Programs S) where
  own_well : (c : Counts) (s : Actor S) (op : OpId) (h : Happening) → OwnMay P c s op h → IsWell op.actor s
      → IsWell op.actor (own_after P c s op h)
  own_well c s op (Began k) may well = started_well s op (Goes (P.starts c s.memory k)) may.0
  own_well c s op (NotBegun k) may well = started_well s op NoRoom may.0
  own_well c s op (Acted q x h) may well = heard_well P c op.actor s s.running q x h refl well
  own_well c s op (Ended x) may well = ended_well P c op.actor s s.running refl
  own_well c s op Stopped may well = none_well op.actor record s { running = None; stopped = true } refl
  own_well c s op (Failed x) may well = ended_well P c op.actor s s.running refl

  -- each event that may happen keeps it
  pub event_well : (m : WorldState S) (e : Event) → AllWell m → May P m e → AllWell (after P m e)
  event_well m (Own op h) well may a =
      let next : Actor S = own_after P m.counts (m.actors op.actor) op h in
      changed (λ (s : Actor S). IsWell a s) m.actors op.actor next a
      (λ e. subst (λ (i : ℕ). IsWell i next) (sym e) (own_well m.counts (m.actors op.actor) op h may.0 (well op.actor))) (λ d. well a)
  event_well m Dumped well may a = well a

  -- so does a run
  pub run_well : (es : List Event) (m : WorldState S) → AllWell m → RunFrom P m es → AllWell (after_all P m es)
  run_well [] m well run = well
  run_well (e ∷ es) m well run = run_well es (after P m e) (event_well m e well run.0) run.1

pub opening_well : {S : Type 0} (counts : Counts) → AllWell {S = S} (opening counts)
opening_well {S = S} counts a r is = absurd (let none : Option (Running S) = None in let k : none ≡ Some r = is in cc)

module _ {S : Type 0} (P : Programs S) where
  pub all_well : (counts : Counts) (events : List Event) → IsWorldRun P counts events → AllWell (moment P counts events)
  all_well counts events run = run_well P events (opening counts) (opening_well counts) run

  -- ---- it goes on

  does_one : (d : Does Answer) → (is_some (asked_by d) || is_some (said_by d)) ≡ true
  does_one (kinds.Asks q) = refl
  does_one (kinds.Says a) = refl

  standing_goes : (c : Counts) (m : Memory) (op : OpId) (at : Standing S) → at ≢ Left
      → (is_some (asked_in (standing_does P c m op at)) || is_some (answer_in (standing_does P c m op at))) ≡ true
  standing_goes c m op (Goes s) goes = does_one (next_does P.kind c m op s)
  standing_goes c m op Left goes = absurd (goes refl)
  standing_goes c m op NoRoom goes = refl

  -- a running command asks or has its answer, unless it did not hear its last reply
  pub running_does : (m : WorldState S) (op : OpId) (r : Running S) → running m op ≡ Some r → r.at ≢ Left
      → (is_some (asked P m op) || is_some (answered P m op)) ≡ true
  running_does m op r e goes = rw e (standing_goes m.counts (m.actors op.actor).memory r.op r.at goes)

  -- ---- the same of a run of the world

  pub running_goes_on : (counts : Counts) (events : List Event) (op : OpId) (r : Running S) → running (moment P counts events) op ≡ Some r
      → r.at ≢ Left → (is_some (asked P (moment P counts events) op) || is_some (answered P (moment P counts events) op)) ≡ true
  running_goes_on counts events op r e goes = running_does (moment P counts events) op r e goes

  pub running_is_last_begun : (counts : Counts) (events : List Event) → IsWorldRun P counts events → (a : ℕ) (r : Running S)
      → ((moment P counts events).actors a).running ≡ Some r
      → IsLastBegun a ((moment P counts events).actors a) r
  running_is_last_begun counts events run a r is = all_well counts events run a r is
