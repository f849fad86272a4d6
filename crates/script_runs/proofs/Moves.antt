-- what the events of one op change of the actors
use Rattle.std.proofs.Common.{◌≡◌, ◌≢◌, ℕ, ◌+◌, Bool, true, Option, Some, None, List, [], ◌∷◌, refl, sym, ap, subst, ◌∙◌}
use Rattle.tect_ids.specs.declared.ids.Counts.{Counts}
use Rattle.tect_ids.specs.declared.ids.OpId.{OpId}
use Rattle.tect_ids.specs.declared.command.Command.{Command}
use Rattle.store_rules.specs.declared.any.AnyReq.{AnyReq}
use Rattle.store_rules.specs.declared.any.AnyReply.{AnyReply}
use Rattle.store_rules.specs.Store.{Store, store_step}
use Rattle.program_forms.specs.declared.heard.Heard.{Heard}
use Rattle.program_forms.specs.Kinds.{Programs}
use Rattle.world_runs.specs.declared.event.Event.{Event}
use Rattle.world_runs.specs.declared.event.Event.TheVariants.{Own, Dumped}
use Rattle.world_runs.specs.declared.event.Happening.TheVariants.{Began, NotBegun, Acted, Ended, Stopped, Failed}
use Rattle.world_runs.specs.Actors.{Actor, Running, running_op, begun, not_begun, went_on, ended}
use Rattle.world_runs.specs.Moments.{WorldState, May, after, after_all, with_actor}
use Rattle.world_runs.specs.Follows.{Acts, IsActOf, IsEndOf, IsBeginOf, EndsAfter}
use Rattle.whole_runs.specs.Standing.{busy_at}
use Rattle.whole_runs.proofs.Actors.{after_all-append, changed, changed_there}
use Rattle.script_runs.proofs.Histories.{IsActed, act_is}

-- from one moment to another nothing but that actor changes: it has this number then, is stopped so, and is busy with this
pub record Moves {S : Type 0} (m n : WorldState S) (a i : ℕ) (halts : Bool) (op : Option OpId) : Type 0 where
  pub others : (b : ℕ) → b ≢ a → n.actors b ≡ m.actors b
  pub number : (n.actors a).number ≡ i
  pub stopped : (n.actors a).stopped ≡ halts
  pub busy : busy_at n a ≡ op

-- the same where its number and whether it stopped stay
abbrev pub Keeps : {S : Type 0} → WorldState S → WorldState S → ℕ → Option OpId → Type 0
Keeps m n a busy = Moves m n a (m.actors a).number (m.actors a).stopped busy

pub none_moves : {S : Type 0} (m : WorldState S) (a : ℕ) → Keeps m m a (busy_at m a)
none_moves m a = record { others = λ b d. refl; number = refl; stopped = refl; busy = refl }

pub moves_on : {S : Type 0} (m n k : WorldState S) (a number : ℕ) (stopped : Bool) (busy last : Option OpId)
    → Moves m n a number stopped busy → Keeps n k a last → Moves m k a number stopped last
moves_on m n k a number stopped busy last f s = record {
  others = λ b d. s.others b d ∙ f.others b d;
  number = s.number ∙ f.number;
  stopped = s.stopped ∙ f.stopped;
  busy = s.busy;
}

-- an actor is like another: it has its number, is stopped as it is, and is busy with this
record IsLike {S : Type 0} (state was : Actor S) (busy : Option OpId) : Type 0 where
  number : state.number ≡ was.number
  stopped : state.stopped ≡ was.stopped
  op : running_op state.running ≡ busy

-- the actor is put in this state
module _ {S : Type 0} (m : WorldState S) (s : Store) (a : ℕ) (state : Actor S) where
  pub put_moves : Moves m (with_actor (record m { store = s }) a state) a state.number state.stopped (running_op state.running)
  put_moves = record {
    others = λ b d. changed (λ st. st ≡ m.actors b) m.actors a state b (λ e. absurd (d e)) (λ e. refl);
    number = changed_there (λ st. st.number ≡ state.number) m.actors a state refl;
    stopped = changed_there (λ st. st.stopped ≡ state.stopped) m.actors a state refl;
    busy = changed_there (λ st. running_op st.running ≡ running_op state.running) m.actors a state refl;
  }

  put_keeps : (busy : Option OpId) → IsLike state (m.actors a) busy → Keeps m (with_actor (record m { store = s }) a state) a busy
  put_keeps busy is = record {
    others = put_moves.others;
    number = put_moves.number ∙ is.number;
    stopped = put_moves.stopped ∙ is.stopped;
    busy = put_moves.busy ∙ is.op;
  }

module _ {S : Type 0} (P : Programs S) where
  -- a command that hears a reply is the same op's
  heard_like : (c : Counts) (s : Actor S) (o : Option (Running S)) (q : AnyReq) (x : AnyReply) (h : Heard) → s.running ≡ o
      → IsLike (went_on P c s o q x h) s (running_op s.running)
  heard_like c s None q x h is = record { number = refl; stopped = refl; op = refl }
  heard_like c s (Some r) q x h is = record { number = refl; stopped = refl; op = rw is refl }

  ended_like : (c : Counts) (s : Actor S) (o : Option (Running S)) → s.running ≡ o → IsLike (ended P c s o) s None
  ended_like c s None is = record { number = refl; stopped = refl; op = rw is refl }
  ended_like c s (Some r) is = record { number = refl; stopped = refl; op = refl }

  acted_moves : (m : WorldState S) (op : OpId) (q : AnyReq) (x : AnyReply) (h : Heard)
      → Keeps m (after P m (Own op (Acted q x h))) op.actor (busy_at m op.actor)
  acted_moves m op q x h =
      let s : Actor S = m.actors op.actor in
      put_keeps m (store_step m.store q) op.actor (went_on P m.counts s s.running q x h) (running_op s.running)
      (heard_like m.counts s s.running q x h refl)

  pub act_moves : (m : WorldState S) (op : OpId) (e : Event) → IsActOf op e → Keeps m (after P m e) op.actor (busy_at m op.actor)
  act_moves m op e act =
      let a : IsActed op e = act_is op e act in
      subst (λ (z : Event). Keeps m (after P m z) op.actor (busy_at m op.actor)) (sym a.is) (acted_moves m op a.req a.reply a.heard)

  -- transactions
  pub acts_move : (m : WorldState S) (op : OpId) (n : ℕ) (es : List Event) → Acts op n es
      → Keeps m (after_all P m es) op.actor (busy_at m op.actor)
  acts_move m op n [] acts = none_moves m op.actor
  acts_move m op n (e ∷ es) acts =
      let k : WorldState S = after P m e in
      let first : Keeps m k op.actor (busy_at m op.actor) = act_moves m op e acts.0 in
      let rest : Keeps k (after_all P k es) op.actor (busy_at k op.actor) = acts_move k op (acts.1).0 es (acts.1).2 in
      subst (λ (z : Option OpId). Keeps m (after_all P k es) op.actor z) first.busy
      (moves_on m k (after_all P k es) op.actor _ _ _ _ first rest)

  ended_moves : (m : WorldState S) (op : OpId)
      → Keeps m (with_actor m op.actor (ended P m.counts (m.actors op.actor) (m.actors op.actor).running)) op.actor None
  ended_moves m op =
      let s : Actor S = m.actors op.actor in
      put_keeps m m.store op.actor (ended P m.counts s s.running) None (ended_like m.counts s s.running refl)

  -- the op's end
  pub end_moves : (m : WorldState S) (op : OpId) (e : Event) → IsEndOf op e → Keeps m (after P m e) op.actor None
  end_moves m op (Own o (Ended a)) is = subst (λ (z : OpId). Keeps m (after P m (Own o (Ended a))) z.actor None) is.0 (ended_moves m o)
  end_moves m op (Own o (Failed a)) is = subst (λ (z : OpId). Keeps m (after P m (Own o (Failed a))) z.actor None) is.0 (ended_moves m o)
  end_moves m op (Own o (Began c)) is = absurd is.1
  end_moves m op (Own o (NotBegun c)) is = absurd is.1
  end_moves m op (Own o (Acted q x h)) is = absurd is.1
  end_moves m op (Own o Stopped) is = absurd is.1
  end_moves m op Dumped is = absurd is

  -- transactions and the end
  pub ends_move : (m : WorldState S) (op : OpId) (n : ℕ) (es : List Event) → EndsAfter op n es → Keeps m (after_all P m es) op.actor None
  ends_move m op n es e =
      let mid : WorldState S = after_all P m e.0 in
      let whole : after_all P m es ≡ after P mid e.1 = ap (after_all P m) e.2 ∙ after_all-append P m e.0 (e.1 ∷ []) in
      subst (λ (z : WorldState S). Keeps m z op.actor None) (sym whole)
      (moves_on m mid (after P mid e.1) op.actor _ _ _ _ (acts_move m op n e.0 e.3) (end_moves mid op e.1 e.4))

  -- its begin
  begun_moves : (m : WorldState S) (op : OpId) (c : Command) → May P m (Own op (Began c))
      → Moves m (after P m (Own op (Began c))) op.actor ((m.actors op.actor).number + 1) (m.actors op.actor).stopped (Some op)
  begun_moves m op c may =
      subst (λ (i : ℕ). Moves m (after P m (Own op (Began c))) op.actor i (m.actors op.actor).stopped (Some op)) ((may.0).0).next
      (put_moves m m.store op.actor (begun P m.counts (m.actors op.actor) op c))

  refused_moves : (m : WorldState S) (op : OpId) (c : Command) → May P m (Own op (NotBegun c))
      → Moves m (after P m (Own op (NotBegun c))) op.actor ((m.actors op.actor).number + 1) (m.actors op.actor).stopped (Some op)
  refused_moves m op c may =
      subst (λ (i : ℕ). Moves m (after P m (Own op (NotBegun c))) op.actor i (m.actors op.actor).stopped (Some op)) ((may.0).0).next
      (put_moves m m.store op.actor (not_begun (m.actors op.actor) op))

  -- its begin or its refusal
  pub begin_moves : (m : WorldState S) (op : OpId) (c : Command) (e : Event) → IsBeginOf op c e → May P m e
      → Moves m (after P m e) op.actor ((m.actors op.actor).number + 1) (m.actors op.actor).stopped (Some op)
  begin_moves m op c (Own o (Began d)) is may =
      subst
      (λ (z : OpId). Moves m (after P m (Own o (Began d))) z.actor ((m.actors z.actor).number + 1) (m.actors z.actor).stopped (Some z))
      is.0 (begun_moves m o d may)
  begin_moves m op c (Own o (NotBegun d)) is may =
      subst
      (λ (z : OpId). Moves m (after P m (Own o (NotBegun d))) z.actor ((m.actors z.actor).number + 1) (m.actors z.actor).stopped (Some z))
      is.0 (refused_moves m o d may)
  begin_moves m op c (Own o (Acted q x h)) is may = absurd is.1
  begin_moves m op c (Own o (Ended a)) is may = absurd is.1
  begin_moves m op c (Own o Stopped) is may = absurd is.1
  begin_moves m op c (Own o (Failed a)) is may = absurd is.1
  begin_moves m op c Dumped is may = absurd is

  -- its stop
  pub stopped_moves : (m : WorldState S) (op : OpId)
      → Moves m (after P m (Own op Stopped)) op.actor (m.actors op.actor).number true None
  stopped_moves m op = put_moves m m.store op.actor (record (m.actors op.actor) { running = None; stopped = true })
