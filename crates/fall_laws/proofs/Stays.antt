-- where no state of a command is of those whose replies add something, nothing is added to what it takes
use Rattle.std.proofs.Common.{◌≡◌, ◌≢◌, ◌+◌, ◌≤◌, ℕ, Bool, true, false, if◌then◌else◌, Option, Some, None, List, [], ◌∷◌, refl, sym}
use Rattle.std.proofs.Common.{subst, ◌∙◌, arith}
use Rattle.tect_ids.specs.declared.ids.Counts.{Counts}
use Rattle.tect_ids.specs.declared.ids.OpId.{OpId}
use Rattle.tect_ids.specs.declared.command.Command.{Command}
use Rattle.tect_ids.specs.Keys.{op_eq}
use Rattle.tect_ids.proofs.KeyTests.{op_eq_cases}
use Rattle.store_rules.specs.declared.any.AnyReq.{AnyReq}
use Rattle.store_rules.specs.declared.any.AnyReply.{AnyReply}
use Rattle.program_forms.specs.declared.heard.Heard.{Heard}
use Rattle.program_forms.specs.declared.heard.Heard.TheVariants as hearing
use Rattle.program_forms.specs.declared.standing.Standing.{Standing}
use Rattle.program_forms.specs.declared.standing.Standing.TheVariants.{Goes, Left, NoRoom}
use Rattle.program_forms.specs.Memories.{Memory}
use Rattle.program_forms.specs.Kinds.{Asks, Programs, next_does, state_heard}
use Rattle.world_runs.specs.declared.event.Event.{Event}
use Rattle.world_runs.specs.declared.event.Event.TheVariants.{Own, Dumped}
use Rattle.world_runs.specs.declared.event.Happening.{Happening}
use Rattle.world_runs.specs.declared.event.Happening.TheVariants.{Began, NotBegun, Acted, Ended, Stopped, Failed}
use Rattle.world_runs.specs.Actors.{Actor, Running, OwnMay, own_after, standing_heard, went_on, ended}
use Rattle.world_runs.specs.Moments.{WorldState, opening, May, after, RunFrom, IsWorldRun}
use Rattle.whole_runs.proofs.Actors.{changed, after_counts}
use Rattle.whole_runs.proofs.Standings.{runs_at, Asking, asks_of, Saying, says_of}
use Rattle.claim_words.specs.Headline.{begun_by, or_later, command_of}
use Rattle.fall_laws.specs.Bounding.{running_grows, act_grows, event_grows, history_grows}
use Rattle.fall_laws.proofs.Begins.{begins_now, none_begins}

module _ (S : Type 0) (P : Programs S) (kind : S → Bool) (look : Counts → Memory → OpId → S → ℕ) (reply : Counts → AnyReq → AnyReply → ℕ)
    (no_look : (counts : Counts) (m : Memory) (op : OpId) (s : S) → look counts m op s ≡ 0)
    (stays : (counts : Counts) (m : Memory) (op : OpId) (s : S) (q : AnyReq) (x : AnyReply) → next_does P.kind counts m op s ≡ Asks q
    → kind s ≡ true → kind (state_heard P.kind counts m op s q x) ≡ true)
    (none : (counts : Counts) (m : Memory) (op : OpId) (s : S) (q : AnyReq) (x : AnyReply) → next_does P.kind counts m op s ≡ Asks q
    → kind s ≡ true → reply counts q x ≡ 0)
  where
    abbrev stand_kind : Standing S → Bool
    stand_kind (Goes s) = kind s
    stand_kind Left = true
    stand_kind NoRoom = true

    -- the op stands in such a state, if it runs
    abbrev IsSo : OpId → Option (Running S) → Type 0
    IsSo op None = Unit {0}
    IsSo op (Some r) = op_eq r.op op ≡ true → stand_kind r.at ≡ true

    -- it begins in such a state, if it begins
    abbrev BeginsSo : Counts → Option Command → Type 0
    BeginsSo counts o = (m : Memory) (c : Command) → o ≡ Some c → kind (P.starts counts m c) ≡ true

    -- ---- what an event adds

    acted_adds : (counts : Counts) (s : Actor S) (o op : OpId) (q : AnyReq) (x : AnyReply) (h : Heard) → OwnMay P counts s o (Acted q x h)
        → IsSo op s.running → op_eq o op ≡ true → act_grows look reply counts s (Acted q x h) ≡ 0
    acted_adds counts s o op q x h may so same =
        let a : Asking S P counts s.memory s.running o q = asks_of S P counts s.memory s.running o q may in
        let here : IsSo op (Some record { op = o; at = Goes a.state }) = rw a.is at so in
        subst (λ (z : Option (Running S)). running_grows look reply counts s.memory q x z ≡ 0) (sym a.is)
        (omega (arith, no_look counts s.memory o a.state, none counts s.memory o a.state q x a.asks (here same)))

    own_adds : (counts : Counts) (s : Actor S) (o op : OpId) (h : Happening) → OwnMay P counts s o h → IsSo op s.running
        → op_eq o op ≡ true → act_grows look reply counts s h ≡ 0
    own_adds counts s o op (Acted q x h) may so same = acted_adds counts s o op q x h may so same
    own_adds counts s o op (Began c) may so same = refl
    own_adds counts s o op (NotBegun c) may so same = refl
    own_adds counts s o op (Ended a) may so same = refl
    own_adds counts s o op Stopped may so same = refl
    own_adds counts s o op (Failed a) may so same = refl

    event_adds : (m : WorldState S) (e : Event) (op : OpId) → May P m e → IsSo op (m.actors op.actor).running
        → event_grows look reply m op e ≡ 0
    event_adds m Dumped op may so = refl
    event_adds m (Own o h) op may so = by (op_eq o op) refl
      where
        by : (b : Bool) → op_eq o op ≡ b → (if b then act_grows look reply m.counts (m.actors o.actor) h else 0) ≡ 0
        by false e = refl
        by true e =
            let same : o ≡ op = grind (arith, op_eq_cases o op) in
            own_adds m.counts (m.actors o.actor) o op h may.0
            (subst (λ (z : OpId). IsSo op (m.actors z.actor).running) (sym same) so) e

    -- ---- where it stands then

    heard_so : (counts : Counts) (m : Memory) (o : OpId) (state : S) (q : AnyReq) (x : AnyReply) (h : Heard)
        → next_does P.kind counts m o state ≡ Asks q → kind state ≡ true
        → stand_kind (standing_heard P counts m o (Goes state) q x h) ≡ true
    heard_so counts m o state q x hearing.Whole asks is = stays counts m o state q x asks is
    heard_so counts m o state q x hearing.Unkept asks is = stays counts m o state q x asks is
    heard_so counts m o state q x hearing.Left asks is = refl

    ended_so : (counts : Counts) (s : Actor S) (op : OpId) (r : Running S) (o : Option (Running S)) → o ≡ Some r
        → IsSo op (ended P counts s o).running
    ended_so counts s op r o is = subst (λ (z : Option (Running S)). IsSo op (ended P counts s z).running) (sym is) tt

    own_so : (counts : Counts) (s : Actor S) (o op : OpId) (h : Happening) → OwnMay P counts s o h → BeginsSo counts (begun_by (Own o h) op)
        → IsSo op s.running → IsSo op (own_after P counts s o h).running
    own_so counts s o op (Began c) may begins so = λ same. begins s.memory c (rw same refl)
    own_so counts s o op (NotBegun c) may begins so = λ same. refl
    own_so counts s o op (Acted q x h) may begins so =
        let a : Asking S P counts s.memory s.running o q = asks_of S P counts s.memory s.running o q may in
        let here : IsSo op (Some record { op = o; at = Goes a.state }) = rw a.is at so in
        subst (λ (z : Option (Running S)). IsSo op (went_on P counts s z q x h).running) (sym a.is)
        (λ same. heard_so counts s.memory o a.state q x h a.asks (here same))
    own_so counts s o op (Ended b) may begins so =
        let a : Saying S P counts s.memory s.running o b = says_of S P counts s.memory s.running o b may in
        ended_so counts s op _ s.running a.is
    own_so counts s o op Stopped may begins so = tt
    own_so counts s o op (Failed b) may begins so = ended_so counts s op _ s.running (runs_at s.running o (may.1).0 (may.1).1)

    event_so : (m : WorldState S) (e : Event) (op : OpId) → May P m e → BeginsSo m.counts (begun_by e op)
        → IsSo op (m.actors op.actor).running → IsSo op ((after P m e).actors op.actor).running
    event_so m Dumped op may begins so = so
    event_so m (Own o h) op may begins so = changed (λ (z : Actor S). IsSo op z.running) m.actors o.actor
        (own_after P m.counts (m.actors o.actor) o h) op.actor
        (λ same. own_so m.counts (m.actors o.actor) o op h may.0 begins (subst (λ (a : ℕ). IsSo op (m.actors a).running) same so))
        (λ d. so)

    -- ---- a history

    first_begins : (counts : Counts) (a b : Option Command) → BeginsSo counts (or_later a b) → BeginsSo counts a
    first_begins counts None b begins = λ m c e. absurd (let z : None ≡ Some c = e in cc)
    first_begins counts (Some d) b begins = begins

    rest_begins : (es : List Event) (m : WorldState S) (e : Event) (op : OpId) → RunFrom P m (e ∷ es)
        → BeginsSo m.counts (command_of (e ∷ es) op) → BeginsSo (after P m e).counts (command_of es op)
    rest_begins es m e op run begins = by (begun_by e op) refl begins
      where
        by : (o : Option Command) → begun_by e op ≡ o → BeginsSo m.counts (or_later o (command_of es op))
            → BeginsSo (after P m e).counts (command_of es op)
        by None is so = subst (λ (k : Counts). BeginsSo k (command_of es op)) (sym (after_counts P m e)) so
        by (Some c) is so = λ mem d later.
            let no : command_of es op ≡ None = none_begins P es (after P m e) op run.1 (begins_now P m e op c run.0 is).1 in
            absurd (let z : None ≡ Some d = sym no ∙ later in cc)

    run_adds : (es : List Event) (m : WorldState S) (op : OpId) → RunFrom P m es → BeginsSo m.counts (command_of es op)
        → IsSo op (m.actors op.actor).running → history_grows P look reply m op es ≡ 0
    run_adds [] m op run begins so = refl
    run_adds (e ∷ es) m op run begins so =
        let first : BeginsSo m.counts (begun_by e op) = first_begins m.counts (begun_by e op) (command_of es op) begins in
        omega (
          arith,
          event_adds m e op run.0 so,
          run_adds es (after P m e) op run.1 (rest_begins es m e op run begins) (event_so m e op run.0 first so),
        )

    -- so of an op whose command begins in such a state
    pub nothing_added : (counts : Counts) (es : List Event) → IsWorldRun P counts es → (op : OpId) (c : Command) → command_of es op ≡ Some c
        → ((m : Memory) → kind (P.starts counts m c) ≡ true) → history_grows P look reply (opening counts) op es ≡ 0
    nothing_added counts es run op c is begins =
        run_adds es (opening counts) op run
        (λ m d e. let both : Some d ≡ Some c = sym e ∙ is in let same : d ≡ c = cc in rw same (begins m)) tt

    -- and of one that began no command
    pub idle_added : (counts : Counts) (es : List Event) → IsWorldRun P counts es → (op : OpId) → command_of es op ≡ None
        → history_grows P look reply (opening counts) op es ≡ 0
    idle_added counts es run op is =
        run_adds es (opening counts) op run (λ m d e. absurd (let no : None ≡ Some d = sym is ∙ e in cc)) tt
