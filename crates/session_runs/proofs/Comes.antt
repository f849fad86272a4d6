-- a running command of one actor that goes on to its end, as the tree plays it
use Rattle.std.proofs.Common.{◌≡◌, ◌+◌, ℕ, is_some, if◌then◌else◌, Option, Some, None, List, [], ◌∷◌, ◌++◌, refl, sym, ap}
use Rattle.std.proofs.Common.{subst, ◌∙◌, arith}
use Rattle.tect_ids.specs.declared.ids.Hold.{Hold}
use Rattle.tect_ids.specs.declared.ids.OpId.{OpId}
use Rattle.tect_ids.specs.declared.ids.Node.{Node}
use Rattle.tect_ids.specs.declared.ids.Node.TheVariants as nodes
use Rattle.tect_ids.specs.declared.answer.Answer.{Answer}
use Rattle.store_rules.specs.declared.any.AnyReq.{AnyReq}
use Rattle.store_rules.specs.declared.any.AnyReply.{AnyReply}
use Rattle.store_rules.specs.Store.{store_reply, store_step}
use Rattle.store_pasts.specs.Worlds as worlds
use Rattle.store_world.specs.Kept.{Kept}
use Rattle.store_world.proofs.Rows.{role_laws}
use Rattle.tree_model.specs.declared.step.TreeStep.{TreeStep}
use Rattle.tree_model.specs.Tree.{Tree, tree_reply}
use Rattle.tect_calls.specs.declared.tokens.Freed.{Freed}
use Rattle.program_forms.specs.declared.heard.Heard.{Heard}
use Rattle.program_forms.specs.declared.heard.Heard.TheVariants as hearing
use Rattle.program_forms.specs.declared.standing.Standing.TheVariants as standing
use Rattle.program_forms.specs.Memories.{Memory, opening_memory, always}
use Rattle.program_forms.specs.Kinds.{Does, Asks, asked_by, said_by, next_does}
use Rattle.program_parts.specs.declared.next.Next.TheVariants as next
use Rattle.program_parts.specs.declared.walking.Walking.TheVariants.{There}
use Rattle.program_parts.specs.declared.releasing.Releasing.{Releasing}
use Rattle.program_parts.specs.Parts.{within, next_asks, next_hears}
use Rattle.program_parts.specs.Releases.{release_ask, then_release}
use Rattle.program_rules.specs.declared.states.Make.{Make}
use Rattle.program_rules.specs.declared.states.Make.TheVariants as making
use Rattle.program_rules.specs.declared.operation.OperationState.{OperationState}
use Rattle.program_rules.specs.declared.operation.OperationState.TheVariants as states
use Rattle.program_rules.specs.Served.{Program, programs}
use Rattle.world_runs.specs.declared.event.Event.{Event}
use Rattle.world_runs.specs.declared.event.Event.TheVariants.{Own}
use Rattle.world_runs.specs.declared.event.Happening.TheVariants.{Acted, Ended}
use Rattle.world_runs.specs.Actors.{Actor, Running, program_ask, program_answer, went_on}
use Rattle.world_runs.specs.Moments.{WorldState, May, after, after_all, RunFrom, with_actor, running, asked, answered}
use Rattle.world_runs.specs.Follows.{Acts}
use Rattle.whole_runs.proofs.Actors.{changed_there}
use Rattle.script_runs.proofs.Histories.{IsActed, act_is}
use Rattle.claim_words.specs.Commands.{content_in}
use Rattle.claim_words.specs.TreeSteps.{Told, told_of, told_as, steps_after, tree_step, says, tree_after, IsTreeRun}
use Rattle.run_laws.specs.Pasts.{world_of}
use Rattle.telling_laws.proofs.Histories.{tree_after-append}
use Rattle.session_runs.specs.Session.{Played}
use Rattle.session_runs.proofs.Standings.{command_part, next_same, stands_after, went_on_as}
use Rattle.session_runs.proofs.Steps.{op_runs}
use Rattle.session_runs.proofs.Tracked.{Tracks, event_tracked, act_kept}

-- the memory of an actor that opened nothing, and whose next object has that serial
abbrev pub memory_of : ℕ → Memory
memory_of own = record opening_memory { serial = own }

-- what a program does, and where it goes on
abbrev pub does_at : WorldState Program → OpId → ℕ → Program → Does Answer
does_at m op own p = next_asks command_part m.counts (memory_of own) op p

abbrev pub heard_at : WorldState Program → OpId → ℕ → Program → AnyReq → AnyReply → Program
heard_at m op own p q x = next_hears command_part m.counts (memory_of own) op p q x

-- the serial of the actor's next object after a reply
abbrev pub serial_after : ℕ → AnyReq → AnyReply → ℕ
serial_after own q x = (always (memory_of own) q x).serial

-- the command runs as that op, in that state, and the store shows that tree
pub record StandsAt (m : WorldState Program) (t : Tree) (op : OpId) (own : ℕ) (p : Program) : Type 0 where
  pub tracks : Tracks m t
  pub runs : (m.actors op.actor).running ≡ Some record { op = op; at = standing.Goes p }
  pub memory : (m.actors op.actor).memory ≡ memory_of own

-- a transaction of the op, heard whole
abbrev pub acted : OpId → AnyReq → AnyReply → Event
acted op q x = Own op (Acted q x hearing.Whole)

-- its step, where it attaches nothing: then it is the same after each history
abbrev pub step_of : OpId → AnyReq → AnyReply → List Told
step_of op q x = told_of [] (acted op q x)

abbrev pub AttachesNothing : OpId → AnyReq → AnyReply → Type 0
AttachesNothing op q x = (h : List Event) → told_of h (acted op q x) ≡ step_of op q x

-- those transactions of the op and its end, with that answer, are what was played, after whatever history
pub record Comes (m : WorldState Program) (t : Tree) (op : OpId) (front : List Event) (n : ℕ) (a : Answer) (p : Played) (left : ℕ) : Type 0
  where
    pub count : n ≡ left
    pub answer : a ≡ p.answer
    pub tree : (h : List Event) → tree_after t (steps_after h front) ≡ p.tree
    pub memory : ((after_all programs m front).actors op.actor).memory ≡ memory_of p.serial

-- so it is of all transactions that may come
abbrev pub Goes : WorldState Program → Tree → OpId → Played → ℕ → Type 0
Goes m t op p left = (front : List Event) (n : ℕ) (a : Answer) → Acts op n front → RunFrom programs m (front ++ Own op (Ended a) ∷ [])
    → Comes m t op front n a p left

-- a command that did not hear its last reply does nothing more, and has no answer
left_stuck : (m : WorldState Program) (op : OpId) → (m.actors op.actor).running ≡ Some record { op = op; at = standing.Left }
    → (front : List Event) (n : ℕ) (a : Answer) → Acts op n front → RunFrom programs m (front ++ Own op (Ended a) ∷ []) → ⊥
left_stuck m op is [] n a acts run =
    let s : Actor Program = m.actors op.actor in
    let k : None ≡ Some a = subst (λ (r : Option (Running Program)). program_answer programs m.counts s.memory r ≡ Some a)
    (op_runs s.running op standing.Left is) (run.0).0 in cc
left_stuck m op is (e ∷ es) n a acts run =
    let s : Actor Program = m.actors op.actor in
    let i : IsActed op e = act_is op e acts.0 in
    let may : May programs m (Own op (Acted i.req i.reply i.heard)) = subst (λ (z : Event). May programs m z) i.is run.0 in
    let k : None ≡ Some i.req = subst (λ (r : Option (Running Program)). program_ask programs m.counts s.memory r ≡ Some i.req)
    (op_runs s.running op standing.Left is) may.0 in cc

module _ (m : WorldState Program) (t : Tree) (op : OpId) (own : ℕ) (p : Program) (st : StandsAt m t op own p) where
  -- the actor
  abbrev s : Actor Program
  s = m.actors op.actor

  runs_now : running m op ≡ Some record { op = op; at = standing.Goes p }
  runs_now = op_runs s.running op (standing.Goes p) st.runs

  does_now : next_does programs.kind m.counts s.memory op p ≡ does_at m op own p
  does_now = next_same m.counts s.memory op p ∙ ap (λ (k : Memory). next_asks command_part m.counts k op p) st.memory

  asked_now : asked programs m op ≡ asked_by (does_at m op own p)
  asked_now =
      ap (λ (r : Option (Running Program)). program_ask programs m.counts s.memory r) runs_now
      ∙ ap (λ (d : Does Answer). asked_by d) does_now

  says_now : answered programs m op ≡ said_by (does_at m op own p)
  says_now =
      ap (λ (r : Option (Running Program)). program_answer programs m.counts s.memory r) runs_now
      ∙ ap (λ (d : Does Answer). said_by d) does_now

  module _ (q : AnyReq) (asks : does_at m op own p ≡ Asks q) (plain : AttachesNothing op q (store_reply m.store q))
      (tells : programs.kind.learns op p q (store_reply m.store q) ≡ []) where
    -- what the store replies
    abbrev x : AnyReply
    x = store_reply m.store q

    -- the transaction
    abbrev did_so : Heard → Event
    did_so h = Own op (Acted q x h)

    abbrev did : Event
    did = did_so hearing.Whole

    asked_this : asked programs m op ≡ Some q
    asked_this = asked_now ∙ ap (λ (d : Does Answer). asked_by d) asks

    says_none : answered programs m op ≡ None
    says_none = says_now ∙ ap (λ (d : Does Answer). said_by d) asks

    pub may_now : May programs m did
    may_now = (asked_this, refl)

    -- what the reply teaches
    pub kept_now : Kept (world_of m (st.tracks).so.past) (worlds.next (world_of m (st.tracks).so.past) q) q
    kept_now = act_kept m t st.tracks op q asked_this

    -- what a reply makes of the actor
    heard_as : (P : Actor Program → Type 0) (h : Heard) → P (went_on programs m.counts s s.running q x h)
        → P ((after programs m (did_so h)).actors op.actor)
    heard_as P h is = changed_there P m.actors op.actor (went_on programs m.counts s s.running q x h) is

    goes_on_as : (h : Heard) → went_on programs m.counts s s.running q x h
        ≡ record s { memory = always s.memory q x; running = Some record { op = op; at = stands_after m.counts s.memory op p q x h } }
    goes_on_as h = went_on_as m.counts s s.running op p q x h st.runs tells

    -- what it was told
    told_now : told_of (st.tracks).history did ≡ step_of op q x
    told_now = plain (st.tracks).history

    pub next_stands : StandsAt (after programs m did) (tree_after t (step_of op q x)) op (serial_after own q x) (heard_at m op own p q x)
    next_stands = record {
      tracks = subst (λ (l : List Told). Tracks (after programs m did) (tree_after t l)) told_now
          (event_tracked m t did st.tracks may_now).0;
      runs = heard_as (λ (a : Actor Program). a.running ≡ Some record { op = op; at = standing.Goes (heard_at m op own p q x) })
          hearing.Whole (rw (goes_on_as hearing.Whole, st.memory) refl);
      memory = heard_as (λ (a : Actor Program). a.memory ≡ memory_of (serial_after own q x)) hearing.Whole
          (rw (goes_on_as hearing.Whole, st.memory) refl);
    }

    pub step_said : (s : TreeStep) → tree_step (content_in []) q x ≡ Some s → says x ≡ tree_reply t op s
    step_said s is =
        let run : IsTreeRun t (told_as op (tree_step (content_in []) q x) (says x)) =
        subst (λ (l : List Told). IsTreeRun t l) told_now (event_tracked m t did st.tracks may_now).1 in
        (rw is at run).0

    -- one transaction, and then the others
    step_here : (h : Heard) (y : Played) (left n rest : ℕ) (a : Answer) (es : List Event) → n ≡ rest + 1
        → Comes (after programs m (did_so h)) (tree_after t (step_of op q x)) op es rest a y left
        → Comes m t op (did_so h ∷ es) n a y (left + 1)
    step_here h y left n rest a es is r = record {
      count = omega (arith, r.count);
      answer = r.answer;
      tree = λ g.
          tree_after-append t (told_of g did) (steps_after (g ++ did_so h ∷ []) es)
          ∙ ap (λ (l : List Told). tree_after (tree_after t l) (steps_after (g ++ did_so h ∷ []) es)) (plain g)
          ∙ r.tree (g ++ did_so h ∷ []);
      memory = r.memory;
    }

    -- it makes no difference whether the actor kept what the reply told
    unkept_same : after programs m did ≡ after programs m (did_so hearing.Unkept)
    unkept_same = ap (λ (a : Actor Program). with_actor (record m { store = store_step m.store q }) op.actor a)
        (goes_on_as hearing.Whole ∙ sym (goes_on_as hearing.Unkept))

    left_runs : ((after programs m (did_so hearing.Left)).actors op.actor).running ≡ Some record { op = op; at = standing.Left }
    left_runs = heard_as (λ (a : Actor Program). a.running ≡ Some record { op = op; at = standing.Left }) hearing.Left
        (rw (goes_on_as hearing.Left) refl)

    module _ (y : Played) (left : ℕ) (more : Goes (after programs m did) (tree_after t (step_of op q x)) op y left) where
      heard_goes : (h : Heard) (es : List Event) (n rest : ℕ) (a : Answer) → n ≡ rest + 1 → Acts op rest es
          → RunFrom programs (after programs m (did_so h)) (es ++ Own op (Ended a) ∷ []) → Comes m t op (did_so h ∷ es) n a y (left + 1)
      heard_goes hearing.Whole es n rest a is acts run = step_here hearing.Whole y left n rest a es is (more es rest a acts run)
      heard_goes hearing.Unkept es n rest a is acts run =
          step_here hearing.Unkept y left n rest a es is
          (subst (λ (w : WorldState Program). Goes w (tree_after t (step_of op q x)) op y left) unkept_same more es rest a acts run)
      heard_goes hearing.Left es n rest a is acts run = absurd (left_stuck _ op left_runs es rest a acts run)

      acted_goes : (q2 : AnyReq) (x2 : AnyReply) (h : Heard) (es : List Event) (n rest : ℕ) (a : Answer) → n ≡ rest + 1 → Acts op rest es
          → RunFrom programs m (Own op (Acted q2 x2 h) ∷ es ++ Own op (Ended a) ∷ [])
          → Comes m t op (Own op (Acted q2 x2 h) ∷ es) n a y (left + 1)
      acted_goes q2 x2 h es n rest a is acts run =
          let qs : Some q2 ≡ Some q = sym (run.0).0 ∙ asked_this in
          let qt : q2 ≡ q = cc in
          let xs : x2 ≡ x = (run.0).1 ∙ ap (store_reply m.store) qt in
          let same : Own op (Acted q2 x2 h) ≡ did_so h = λ i. Own op (Acted (qt i) (xs i) h) in
          subst (λ (e : Event). RunFrom programs (after programs m e) (es ++ Own op (Ended a) ∷ [])
          → Comes m t op (e ∷ es) n a y (left + 1))
          (sym same) (heard_goes h es n rest a is acts) run.1

      pub step_goes : Goes m t op y (left + 1)
      step_goes [] n a acts run = absurd (let k : Some a ≡ None = sym (run.0).0 ∙ says_none in cc)
      step_goes (e ∷ es) n a acts run =
          let i : IsActed op e = act_is op e acts.0 in
          subst (λ (z : Event). RunFrom programs m (z ∷ es ++ Own op (Ended a) ∷ []) → Comes m t op (z ∷ es) n a y (left + 1)) (sym i.is)
          (acted_goes i.req i.reply i.heard es n (acts.1).0 a (acts.1).1 (acts.1).2) run

-- what stands so, in other words
pub stands_as : (m : WorldState Program) (t u : Tree) (op : OpId) (own new : ℕ) (p r : Program) → StandsAt m t op own p → t ≡ u
    → own ≡ new → p ≡ r → StandsAt m u op new r
stands_as m t u op own new p r st tree serial state =
    subst (λ (v : Tree). StandsAt m v op new r) tree
    (subst (λ (i : ℕ). StandsAt m t op i r) serial (subst (λ (z : Program). StandsAt m t op own z) state st))

-- a command that has its answer
pub end_goes : (m : WorldState Program) (t : Tree) (op : OpId) (own : ℕ) (b : Answer) (p : Played)
    → StandsAt m t op own (next.Comes b) → t ≡ p.tree → own ≡ p.serial → b ≡ p.answer → Goes m t op p 0
end_goes m t op own b p st tree serial answer [] n a acts run =
    let now : Some b ≡ Some a = sym (says_now m t op own (next.Comes b) st) ∙ (run.0).0 in
    let same : b ≡ a = cc in
    record { count = acts; answer = sym same ∙ answer; tree = λ h. tree; memory = st.memory ∙ ap (λ (i : ℕ). memory_of i) serial }
end_goes m t op own b p st tree serial answer (e ∷ es) n a acts run =
    let i : IsActed op e = act_is op e acts.0 in
    let may : May programs m (Own op (Acted i.req i.reply i.heard)) = subst (λ (z : Event). May programs m z) i.is run.0 in
    absurd (let k : Some i.req ≡ None = sym may.0 ∙ asked_now m t op own (next.Comes b) st in cc)

-- a hold that is released, if there is one, before the answer
abbrev pub releasing_first : Freed → Answer → Program
releasing_first f b = next.Goes (There (states.Make (making.Release record { first = f; second = None; answer = b })))

-- a release is no step
module _ (m : WorldState Program) (t : Tree) (op : OpId) (own : ℕ) (b : Answer) (p : Played) (tree : t ≡ p.tree)
    (serial : own ≡ p.serial) (answer : b ≡ p.answer) where
  pub release_goes : (f : Freed) → StandsAt m t op own (releasing_first f b) → Goes m t op p 1
  release_goes f st =
      let q : AnyReq = release_ask f.node f.hold in
      let x : AnyReply = store_reply m.store q in
      step_goes m t op own (releasing_first f b) st q refl (plain f.node f.hold) refl p 0
      (end_goes _ _ op _ b p (next_stands m t op own (releasing_first f b) st q refl (plain f.node f.hold) refl)
      (no_step f.node f.hold ∙ tree) (none_taken f.node f.hold ∙ serial) answer)
    where
      plain : (n : Node) (h : Hold) → AttachesNothing op (release_ask n h) (store_reply m.store (release_ask n h))
      plain (nodes.Dir d) h = λ g. refl
      plain (nodes.File f) h = λ g. refl

      no_step : (n : Node) (h : Hold) → tree_after t (step_of op (release_ask n h) (store_reply m.store (release_ask n h))) ≡ t
      no_step (nodes.Dir d) h = refl
      no_step (nodes.File f) h = refl

      none_taken : (n : Node) (h : Hold) → serial_after own (release_ask n h) (store_reply m.store (release_ask n h)) ≡ own
      none_taken (nodes.Dir d) h = rw ((role_laws (release_ask (nodes.Dir d) h)).untold m.store refl tt) refl
      none_taken (nodes.File f) h = rw ((role_laws (release_ask (nodes.File f) h)).untold m.store refl tt) refl

  -- the hold of a file that was replaced is released
  pub then_goes : (o : Option Freed)
      → StandsAt m t op own (within (λ (s : OperationState). There s) (within (λ (s : Make). states.Make s)
      (within (λ (r : Releasing). making.Release r) (then_release o b))))
      → Goes m t op p (if is_some o then 1 else 0)
  then_goes None st = end_goes m t op own b p st tree serial answer
  then_goes (Some f) st = release_goes f st
