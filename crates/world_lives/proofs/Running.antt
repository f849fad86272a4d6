-- a command that runs goes on by transactions to its end
use Rattle.std.proofs.Common.{◌≡◌, ℕ, ◌+◌, ◌<◌, Bool, true, false, eqb, if◌then◌else◌, Option, Some, None, List, [], ◌∷◌, ◌++◌}
use Rattle.std.proofs.Common.{refl, sym, ap, ◌∙◌, subst, append_assoc, inl, inr, arith}
use Rattle.std.specs.Prelude.{IsSome, OnErr, Result, Ok, Err}
use Rattle.std.proofs.lemmas.List.{append-nil}
use Rattle.std.proofs.lemmas.Bool.{cases_lt}
use Rattle.tect_ids.specs.declared.ids.Counts.{Counts}
use Rattle.tect_ids.specs.declared.ids.OpId.{OpId}
use Rattle.tect_ids.specs.declared.answer.Answer.{Answer}
use Rattle.tect_ids.proofs.KeyTests.{num_eq_cases}
use Rattle.store_rules.specs.declared.any.AnyReq.{AnyReq}
use Rattle.store_rules.specs.declared.any.AnyReply.{AnyReply}
use Rattle.program_forms.specs.declared.heard.Heard.{Heard}
use Rattle.program_forms.specs.Kinds.{Programs}
use Rattle.world_runs.specs.declared.event.Event.{Event}
use Rattle.world_runs.specs.declared.event.Event.TheVariants.{Own, Dumped}
use Rattle.world_runs.specs.declared.event.Happening.TheVariants.{Began, NotBegun, Acted, Ended, Stopped, Failed}
use Rattle.world_runs.specs.Actors.{Actor, Running, went_on}
use Rattle.world_runs.specs.Follows.{Acts, IsActOf}
use Rattle.world_runs.specs.Limits.{IsFull, KeepsLimits, KeepsLimitsAfter, KeepsRoom, actor_in, event_cost, used}
use Rattle.world_runs.specs.Moments.{WorldState, moment}
use Rattle.world_runs.specs.OwnRuns.{own_next}
use Rattle.world_runs.specs.Races.{is_own}
use Rattle.whole_runs.proofs.Actors.{after_actors}
use Rattle.world_runs.proofs.Limits.{used-append}
use Rattle.program_calls.specs.declared.turned.Turned.TheVariants.{Going, Done}
use Rattle.world_lives.specs.Life.{Life, present, grown, last_op, room_at}
use Rattle.world_lives.specs.Steps.{Stepped, RanToEnd, GoesOn, WentOn}
use Rattle.world_lives.proofs.Grown.{present-grown}
use Rattle.world_lives.proofs.Grown.{went_number}

-- ---- transactions one after another

pub acts_push : (op : OpId) (e : Event) (n : ℕ) (es : List Event) → IsActOf op e → Acts op n es → Acts op (n + 1) (es ++ e ∷ [])
acts_push op e n [] act acts = (act, (n, refl, acts))
acts_push op e n (x ∷ es) act (own, (rest, is, acts)) = (own, (rest + 1, ap (λ k. k + 1) is, acts_push op e rest es act acts))

acts-append : (op : OpId) (n k : ℕ) (es fs : List Event) → Acts op n es → Acts op k fs → Acts op (n + k) (es ++ fs)
acts-append op n k [] fs none acts = let same : k ≡ n + k = omega (arith, none) in subst (λ (m : ℕ). Acts op m fs) same acts
acts-append op n k (e ∷ es) fs (own, (rest, is, before)) acts =
    (own, (rest + k, (omega (arith, is)), acts-append op rest k es fs before acts))

pub grown-grown : (w : Life) (es fs : List Event) → grown (grown w es) fs ≡ grown w (es ++ fs)
grown-grown w es fs i = record { counts = w.counts; history = append_assoc w.history es fs i }

pub goes_none : (w : Life) (op : OpId) → GoesOn w w op
goes_none w op = record
    { acts = []; count = 0; are_acts = refl; history = λ i. record { counts = w.counts; history = sym (append-nil w.history) i } }

-- ---- what a transaction leaves of its actor

act_number : {S : Type 0} (P : Programs S) (c : Counts) (s : Actor S) (op : OpId) (e : Event) → IsActOf op e
    → (own_next P c s e).number ≡ s.number
act_number P c s op (Own other (Acted q x h)) is = went_number P c s s.running q x h
act_number P c s op (Own other (Began k)) is = absurd is.1
act_number P c s op (Own other (NotBegun k)) is = absurd is.1
act_number P c s op (Own other (Ended a)) is = absurd is.1
act_number P c s op (Own other Stopped) is = absurd is.1
act_number P c s op (Own other (Failed a)) is = absurd is.1
act_number P c s op Dumped is = absurd is

went_runs : {S : Type 0} (P : Programs S) (c : Counts) (s : Actor S) (o : Option (Running S)) (q : AnyReq) (x : AnyReply) (h : Heard)
    → IsSome o → IsSome (went_on P c s o q x h).running
went_runs P c s None q x h some = absurd (grind (arith, some))
went_runs P c s (Some r) q x h some = refl

act_runs : {S : Type 0} (P : Programs S) (c : Counts) (s : Actor S) (op : OpId) (e : Event) → IsActOf op e → IsSome s.running
    → IsSome (own_next P c s e).running
act_runs P c s op (Own other (Acted q x h)) is some = went_runs P c s s.running q x h some
act_runs P c s op (Own other (Began k)) is some = absurd is.1
act_runs P c s op (Own other (NotBegun k)) is some = absurd is.1
act_runs P c s op (Own other (Ended a)) is some = absurd is.1
act_runs P c s op (Own other Stopped) is some = absurd is.1
act_runs P c s op (Own other (Failed a)) is some = absurd is.1
act_runs P c s op Dumped is some = absurd is

number_by : {S : Type 0} (t : Bool) (s next : Actor S) → next.number ≡ s.number → (if t then next else s).number ≡ s.number
number_by true s next is = is
number_by false s next is = refl

runs_by : {S : Type 0} (t : Bool) (s next : Actor S) → IsSome s.running → IsSome next.running → IsSome (if t then next else s).running
runs_by true s next was is = is
runs_by false s next was is = was

module _ {S : Type 0} (P : Programs S) (v u : Life) (a : ℕ) (op : OpId) (went : WentOn P v u op) where
  after_act : (present P u).actors a ≡
      (if is_own a went.act then own_next P (present P v).counts ((present P v).actors a) went.act else (present P v).actors a)
  after_act = ap (λ (x : Life). (present P x).actors a) went.history ∙ ap (λ (m : WorldState S). m.actors a)
      (present-grown P v (went.act ∷ []))
      ∙ after_actors P (present P v) went.act a

  pub last_kept : last_op (present P u) a ≡ last_op (present P v) a
  last_kept i = record {
    actor = a;
    number = (ap (λ (s : Actor S). s.number) after_act ∙ number_by (is_own a went.act) ((present P v).actors a)
        (own_next P (present P v).counts ((present P v).actors a) went.act)
        (act_number P (present P v).counts ((present P v).actors a) op went.act went.is_act)) i;
  }

  pub still_runs : IsSome ((present P v).actors a).running → IsSome ((present P u).actors a).running
  still_runs some = subst (λ (s : Actor S). IsSome s.running) (sym after_act)
      (runs_by (is_own a went.act) ((present P v).actors a) (own_next P (present P v).counts ((present P v).actors a) went.act) some
      (act_runs P (present P v).counts ((present P v).actors a) op went.act went.is_act some))

-- ---- the room that the actor's own history has

limits_last : {S : Type 0} (P : Programs S) (counts : Counts) (before es : List Event) (e : Event)
    → KeepsLimitsAfter P counts before (es ++ e ∷ [])
    → KeepsRoom P counts (before ++ es) ((moment P counts (before ++ es)).actors (actor_in e)) e
limits_last P counts before [] e keeps = rw (append-nil before) keeps.0
limits_last P counts before (x ∷ es) e keeps =
    rw (← append_assoc before (x ∷ []) es) (limits_last P counts (before ++ x ∷ []) es e keeps.1)

act_room : {S : Type 0} (P : Programs S) (c : Counts) (before : List Event) (s : Actor S) (op : OpId) (e : Event) → IsActOf op e
    → KeepsRoom P c before s e → ¬ IsFull before op.actor
act_room P c before s op (Own other (Acted q x h)) is keeps = subst (λ (p : OpId). ¬ IsFull before p.actor) is.0 keeps
act_room P c before s op (Own other (Began k)) is keeps = absurd is.1
act_room P c before s op (Own other (NotBegun k)) is keeps = absurd is.1
act_room P c before s op (Own other (Ended a)) is keeps = absurd is.1
act_room P c before s op (Own other Stopped) is keeps = absurd is.1
act_room P c before s op (Own other (Failed a)) is keeps = absurd is.1
act_room P c before s op Dumped is keeps = absurd is

same : (a : ℕ) → eqb a a ≡ true
same a = grind (arith, num_eq_cases a a)

act_cost : (op : OpId) (e : Event) → IsActOf op e → event_cost op.actor e ≡ 1
act_cost op (Own other (Acted q x h)) is =
    ap (λ (p : OpId). if eqb p.actor op.actor then 1 else 0) is.0 ∙ ap (λ (b : Bool). if b then 1 else 0) (same op.actor)
act_cost op (Own other (Began k)) is = absurd is.1
act_cost op (Own other (NotBegun k)) is = absurd is.1
act_cost op (Own other (Ended a)) is = absurd is.1
act_cost op (Own other Stopped) is = absurd is.1
act_cost op (Own other (Failed a)) is = absurd is.1
act_cost op Dumped is = absurd is

-- a transaction takes one
pub went_nearer : {S : Type 0} (P : Programs S) (v u : Life) (op : OpId) → WentOn P v u op → KeepsLimits P u.counts u.history
    → room_at u op.actor < room_at v op.actor
went_nearer P v u op went keeps =
    let history : u.history ≡ v.history ++ went.act ∷ [] = ap (λ (w : Life). w.history) went.history in
    let limits : KeepsLimits P v.counts (v.history ++ went.act ∷ []) =
    subst (λ (w : Life). KeepsLimits P w.counts w.history) went.history keeps in
    let free : ¬ IsFull v.history op.actor =
    act_room P v.counts v.history ((moment P v.counts v.history).actors (actor_in went.act)) op went.act went.is_act
    (limits_last P v.counts [] v.history went.act limits) in
    let cost : event_cost op.actor went.act ≡ 1 = act_cost op went.act went.is_act in
    let more : used (v.history ++ went.act ∷ []) op.actor ≡ used v.history op.actor + used (went.act ∷ []) op.actor =
    used-append v.history (went.act ∷ []) op.actor in
    let used_now : used u.history op.actor ≡ used (v.history ++ went.act ∷ []) op.actor = ap (λ (es : List Event). used es op.actor) history
    in
    elim (cases_lt (used v.history op.actor) 65536) [
      | inl few ↦ omega (arith, few, cost, more, used_now)
      | inr full ↦ absurd (free (inl full))
    ]

-- ---- the loop of a run

pub record Goes {S : Type 0} (P : Programs S) (w v : Life) (a : ℕ) : Type 0 where
  pub going : GoesOn w v (last_op (present P w) a)
  pub last : last_op (present P v) a ≡ last_op (present P w) a
  pub running : IsSome ((present P v).actors a).running

pub goes_first : {S : Type 0} (P : Programs S) (w : Life) (a : ℕ) → IsSome ((present P w).actors a).running → Goes P w w a
goes_first P w a running = record { going = goes_none w (last_op (present P w) a); last = refl; running = running }

module _ {S : Type 0} (P : Programs S) (w v u : Life) (a : ℕ) (goes : Goes P w v a) where
  module _ (went : Stepped P v u (last_op (present P v) a) Going) where
    is_act : IsActOf (last_op (present P w) a) went.act
    is_act = subst (λ (op : OpId). IsActOf op went.act) goes.last went.is_act

    pub goes_on : Goes P w u a
    goes_on = record {
      going = record {
        acts = goes.going.acts ++ went.act ∷ [];
        count = goes.going.count + 1;
        are_acts = acts_push (last_op (present P w) a) went.act goes.going.count goes.going.acts is_act goes.going.are_acts;
        history = went.history ∙ ap (λ (x : Life). grown x (went.act ∷ [])) goes.going.history ∙ grown-grown w goes.going.acts
            (went.act ∷ []);
      };
      last = last_kept P v u a (last_op (present P v) a) went ∙ goes.last;
      running = still_runs P v u a (last_op (present P v) a) went goes.running;
    }

    pub goes_nearer : KeepsLimits P u.counts u.history → room_at u a < room_at v a
    goes_nearer keeps = went_nearer P v u (last_op (present P v) a) went keeps

  done_by : (x : Answer) → GoesOn w v (last_op (present P v) a) → RanToEnd v u (last_op (present P v) a) x
      → RanToEnd w u (last_op (present P v) a) x
  done_by x going ran = record {
    acts = going.acts ++ ran.acts;
    count = going.count + ran.count;
    end = ran.end;
    are_acts = acts-append (last_op (present P v) a) going.count ran.count going.acts ran.acts going.are_acts ran.are_acts;
    ends = ran.ends;
    history = ran.history ∙ ap (λ (y : Life). grown y (ran.acts ++ ran.end ∷ [])) going.history
        ∙ grown-grown w going.acts (ran.acts ++ ran.end ∷ [])
        ∙ ap (grown w) (sym (append_assoc going.acts ran.acts (ran.end ∷ [])));
  }

  pub goes_to_end : (x : Answer) → Stepped P v u (last_op (present P v) a) (Done x) → RanToEnd w u (last_op (present P w) a) x
  goes_to_end x ran =
      subst (λ (op : OpId). RanToEnd w u op x) goes.last
      (done_by x (subst (GoesOn w v) (sym goes.last) goes.going) ran.0)

pub goes_nowhere : {S : Type 0} (P : Programs S) (w v u : Life) (a : ℕ) → Goes P w v a → u ≡ v → GoesOn w u (last_op (present P w) a)
goes_nowhere P w v u a goes is = subst (λ (x : Life). GoesOn w x (last_op (present P w) a)) (sym is) goes.going

pub on_err_any : {T E Q : Type 0} (r : Result T E) → Q → OnErr r Q
on_err_any (Ok x) q = tt
on_err_any (Err e) q = q
