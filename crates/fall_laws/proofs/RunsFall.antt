-- the transactions of an op are at most what its command allows as it begins, with what look-ups and replies add
use Rattle.std.proofs.Common.{◌≡◌, ◌≢◌, ◌+◌, ◌<◌, ◌≤◌, ℕ, Bool, true, false, ◌&&◌, if◌then◌else◌, Option, Some, None}
use Rattle.std.proofs.Common.{List, [], ◌∷◌, refl, sym, subst, ◌∙◌, arith}
use Rattle.std.proofs.lemmas.List.Sums.{sum_by-cons}
use Rattle.tect_ids.specs.declared.ids.Counts.{Counts}
use Rattle.tect_ids.specs.declared.ids.OpId.{OpId}
use Rattle.tect_ids.specs.declared.command.Command.{Command}
use Rattle.tect_ids.specs.Keys.{op_eq}
use Rattle.tect_ids.proofs.KeyTests.{op_eq_cases}
use Rattle.store_rules.specs.declared.any.AnyReq.{AnyReq}
use Rattle.store_rules.specs.declared.any.AnyReply.{AnyReply}
use Rattle.program_forms.specs.declared.heard.Heard.{Heard}
use Rattle.program_forms.specs.declared.heard.Heard.TheVariants as hearing
use Rattle.program_forms.specs.declared.standing.Standing.{Standing}
use Rattle.program_forms.specs.declared.standing.Standing.TheVariants.{Goes, Left, NoRoom}
use Rattle.program_forms.specs.Memories.{Memory}
use Rattle.program_forms.specs.Kinds.{Asks, Programs, next_does, state_heard}
use Rattle.world_runs.specs.declared.event.Event.{Event}
use Rattle.world_runs.specs.declared.event.Event.TheVariants.{Own, Dumped}
use Rattle.world_runs.specs.declared.event.Happening.{Happening}
use Rattle.world_runs.specs.declared.event.Happening.TheVariants.{Began, NotBegun, Acted, Ended, Stopped, Failed}
use Rattle.world_runs.specs.Actors.{Actor, Running, OwnMay, own_after, standing_heard, went_on, ended}
use Rattle.world_runs.specs.Moments.{WorldState, opening, May, after, RunFrom, IsWorldRun}
use Rattle.whole_runs.proofs.Actors.{changed, after_counts}
use Rattle.claim_words.specs.Headline.{begun_by, or_later, command_of}
use Rattle.fall_laws.specs.Counting.{is_look, is_no_look, takes, taken}
use Rattle.fall_laws.specs.Bounding.{Bounding, one_if, FallLaws, standing_grows, running_grows, act_grows, event_grows}
use Rattle.fall_laws.specs.Bounding.{history_grows, RunsAreShort}
use Rattle.fall_laws.proofs.Begins.{begins_now}
use Rattle.whole_runs.proofs.Standings.{runs_at, Asking, asks_of, Saying, says_of, numbers_grow}

-- one event more
pub taken_more : (test : AnyReq → Bool) (op : OpId) (e : Event) (es : List Event)
    → taken test (e ∷ es) op ≡ one_if (takes test op e) + taken test es op
taken_more test op e es = sum_by-cons (λ x. one_if (takes test op x)) e es

begun_same : (c d : Command) → Some c ≡ Some d → c ≡ d
begun_same c d e = cc

-- one kind of transactions
module _ (S : Type 0) (P : Programs S) (test : AnyReq → Bool) (left : S → ℕ) (look : Counts → Memory → OpId → S → ℕ)
    (reply : Counts → AnyReq → AnyReply → ℕ)
    (falls : (counts : Counts) (m : Memory) (op : OpId) (s : S) (q : AnyReq) (x : AnyReply) → next_does P.kind counts m op s ≡ Asks q
    → one_if (test q) + left (state_heard P.kind counts m op s q x) ≤ left s + look counts m op s + reply counts q x)
  where
    -- what is left where a command stands: nothing, where its last reply was not heard or it was refused
    abbrev stand_left : Standing S → ℕ
    stand_left (Goes s) = left s
    stand_left Left = 0
    stand_left NoRoom = 0

    -- what is left for the op
    abbrev left_of : OpId → Option (Running S) → ℕ
    left_of op None = 0
    left_of op (Some r) = if op_eq r.op op then stand_left r.at else 0

    abbrev budget : WorldState S → OpId → ℕ
    budget m op = left_of op (m.actors op.actor).running

    -- what a begin allows, by what its actor knows
    abbrev allowed_by : Counts → Memory → Option Command → ℕ
    allowed_by counts m None = 0
    allowed_by counts m (Some c) = left (P.starts counts m c)

    -- what the begins of a history allow, from that moment on
    abbrev allowed : WorldState S → OpId → List Event → ℕ
    allowed m op [] = 0
    allowed m op (e ∷ es) = allowed_by m.counts (m.actors op.actor).memory (begun_by e op) + allowed (after P m e) op es

    -- ---- an actor's event

    no_act : (b : Bool) → one_if (b && false) ≡ 0
    no_act true = refl
    no_act false = refl

    -- what the op's own happening leaves is no more than what was left and added
    abbrev Leaves : Counts → Actor S → OpId → OpId → Happening → Type 0
    Leaves counts s o op h = one_if (takes test op (Own o h)) + left_of op (own_after P counts s o h).running
        ≤ left_of op s.running + allowed_by counts s.memory (begun_by (Own o h) op)
        + (if op_eq o op then act_grows look reply counts s h else 0)

    acted_leaves : (counts : Counts) (s : Actor S) (o op : OpId) (q : AnyReq) (x : AnyReply) (h : Heard) (state : S)
        → next_does P.kind counts s.memory o state ≡ Asks q → (b : Bool)
        → one_if (b && test q) + (if b then stand_left (standing_heard P counts s.memory o (Goes state) q x h) else 0)
        ≤ (if b then left state else 0) + 0 + (if b then look counts s.memory o state + reply counts q x else 0)
    acted_leaves counts s o op q x hearing.Whole state asks true = omega (arith, falls counts s.memory o state q x asks)
    acted_leaves counts s o op q x hearing.Unkept state asks true = omega (arith, falls counts s.memory o state q x asks)
    acted_leaves counts s o op q x hearing.Left state asks true = omega (arith, falls counts s.memory o state q x asks)
    acted_leaves counts s o op q x h state asks false = omega arith

    ended_left : (counts : Counts) (s : Actor S) (op : OpId) (r : Running S) (o : Option (Running S)) → o ≡ Some r
        → left_of op (ended P counts s o).running ≡ 0
    ended_left counts s op r o is = subst (λ (z : Option (Running S)). left_of op (ended P counts s z).running ≡ 0) (sym is) refl

    own_leaves : (counts : Counts) (s : Actor S) (o op : OpId) (h : Happening) → OwnMay P counts s o h → Leaves counts s o op h
    own_leaves counts s o op (Began c) may = by (op_eq o op)
      where
        by : (b : Bool) → one_if (b && false) + (if b then left (P.starts counts s.memory c) else 0)
            ≤ left_of op s.running + allowed_by counts s.memory (if b then Some c else None) + (if b then 0 else 0)
        by true = omega arith
        by false = omega arith
    own_leaves counts s o op (NotBegun c) may = by (op_eq o op)
      where
        by : (b : Bool) → one_if (b && false) + (if b then 0 else 0) ≤ left_of op s.running + 0 + (if b then 0 else 0)
        by true = omega arith
        by false = omega arith
    own_leaves counts s o op (Acted q x h) may =
        let a : Asking S P counts s.memory s.running o q = asks_of S P counts s.memory s.running o q may in
        subst (λ (z : Option (Running S)). one_if (op_eq o op && test q) + left_of op (went_on P counts s z q x h).running
        ≤ left_of op z + 0 + (if op_eq o op then running_grows look reply counts s.memory q x z else 0)) (sym a.is)
        (acted_leaves counts s o op q x h a.state a.asks (op_eq o op))
    own_leaves counts s o op (Ended b) may =
        let a : Saying S P counts s.memory s.running o b = says_of S P counts s.memory s.running o b may in
        rw (ended_left counts s op _ s.running a.is, no_act (op_eq o op)) (omega arith)
    own_leaves counts s o op Stopped may = rw (no_act (op_eq o op)) (omega arith)
    own_leaves counts s o op (Failed b) may =
        rw (ended_left counts s op _ s.running (runs_at s.running o (may.1).0 (may.1).1), no_act (op_eq o op)) (omega arith)

    -- ---- any event

    abbrev Falling : WorldState S → Event → OpId → ℕ → Type 0
    Falling m e op rest = one_if (takes test op e) + rest
        ≤ budget m op + allowed_by m.counts (m.actors op.actor).memory (begun_by e op) + event_grows look reply m op e

    other_takes : (o op : OpId) (h : Happening) → op_eq o op ≡ false → one_if (takes test op (Own o h)) ≡ 0
    other_takes o op h e = rw e refl

    actors_differ : (o op : OpId) → op.actor ≢ o.actor → op_eq o op ≡ false
    actors_differ o op d = grind (arith, op_eq_cases o op)

    event_falls : (m : WorldState S) (e : Event) (op : OpId) → May P m e → Falling m e op (budget (after P m e) op)
    event_falls m Dumped op may = omega arith
    event_falls m (Own o h) op may = changed (λ (z : Actor S). Falling m (Own o h) op (left_of op z.running)) m.actors o.actor
        (own_after P m.counts (m.actors o.actor) o h) op.actor
        (λ same. subst (λ (a : ℕ). one_if (takes test op (Own o h)) + left_of op (own_after P m.counts (m.actors o.actor) o h).running
        ≤ left_of op (m.actors a).running + allowed_by m.counts (m.actors a).memory (begun_by (Own o h) op)
        + event_grows look reply m op (Own o h)) (sym same)
        (own_leaves m.counts (m.actors o.actor) o op h may.0))
        (λ d. let none : one_if (takes test op (Own o h)) ≡ 0 = other_takes o op h (actors_differ o op d) in omega (arith, none))

    run_falls : (es : List Event) (m : WorldState S) (op : OpId) → RunFrom P m es
        → taken test es op ≤ budget m op + allowed m op es + history_grows P look reply m op es
    run_falls [] m op run = omega arith
    run_falls (e ∷ es) m op run =
        omega (arith, taken_more test op e es, event_falls m e op run.0, run_falls es (after P m e) op run.1)

    -- ---- an op begins at most once

    no_more : (es : List Event) (m : WorldState S) (op : OpId) → RunFrom P m es → op.number ≤ (m.actors op.actor).number
        → allowed m op es ≡ 0
    no_more [] m op run old = refl
    no_more (e ∷ es) m op run old =
        let rest : allowed (after P m e) op es ≡ 0 =
        no_more es (after P m e) op run.1 (omega (arith, old, numbers_grow P m e run.0 op.actor)) in
        by (begun_by e op) refl rest
      where
        by : (o : Option Command) → begun_by e op ≡ o → allowed (after P m e) op es ≡ 0
            → allowed_by m.counts (m.actors op.actor).memory o + allowed (after P m e) op es ≡ 0
        by None is rest = omega (arith, rest)
        by (Some c) is rest = absurd (omega (arith, old, (begins_now P m e op c run.0 is).0))

    -- no more is allowed than its command has as it begins, whatever its actor knows then
    abbrev IsMost : Counts → Option Command → ℕ → Type 0
    IsMost counts o n = (mem : Memory) (c : Command) → o ≡ Some c → left (P.starts counts mem c) ≤ n

    allowed_most : (es : List Event) (m : WorldState S) (op : OpId) (n : ℕ) → RunFrom P m es → IsMost m.counts (command_of es op) n
        → allowed m op es ≤ n
    allowed_most [] m op n run most = omega arith
    allowed_most (e ∷ es) m op n run most = by (begun_by e op) refl most (allowed_most es (after P m e) op n run.1)
      where
        by : (o : Option Command) → begun_by e op ≡ o → IsMost m.counts (or_later o (command_of es op)) n
            → (IsMost (after P m e).counts (command_of es op) n → allowed (after P m e) op es ≤ n)
            → allowed_by m.counts (m.actors op.actor).memory o + allowed (after P m e) op es ≤ n
        by None is most rest =
            omega (arith, rest (subst (λ (k : Counts). IsMost k (command_of es op) n) (sym (after_counts P m e)) most))
        by (Some c) is most rest =
            omega (arith, no_more es (after P m e) op run.1 (begins_now P m e op c run.0 is).1, most (m.actors op.actor).memory c refl)

    -- so it takes at most that
    op_takes : (counts : Counts) (es : List Event) → IsWorldRun P counts es → (op : OpId) (n : ℕ) → IsMost counts (command_of es op) n
        → taken test es op ≤ n + history_grows P look reply (opening counts) op es
    op_takes counts es run op n most =
        omega (arith, run_falls es (opening counts) op run, allowed_most es (opening counts) op n run most)

    pub begun_takes : (counts : Counts) (es : List Event) → IsWorldRun P counts es → (op : OpId) (c : Command) (n : ℕ)
        → command_of es op ≡ Some c → ((mem : Memory) → left (P.starts counts mem c) ≤ n)
        → taken test es op ≤ n + history_grows P look reply (opening counts) op es
    begun_takes counts es run op c n is most =
        op_takes counts es run op n (λ mem d e. let same : c ≡ d = begun_same c d (sym is ∙ e) in rw (← same) (most mem))

    pub idle_takes : (counts : Counts) (es : List Event) → IsWorldRun P counts es → (op : OpId) → command_of es op ≡ None
        → taken test es op ≤ 0 + history_grows P look reply (opening counts) op es
    idle_takes counts es run op is =
        op_takes counts es run op 0 (λ mem d e. absurd (let none : None ≡ Some d = sym is ∙ e in cc))

-- looks, and other transactions
pub runs_are_short : (S : Type 0) (P : Programs S) (B : Bounding S) → FallLaws P B → RunsAreShort P B
runs_are_short S P B F = record {
  begun = λ counts es run op c n is most. record {
    looks = begun_takes S P is_look (λ s. (B.left s).looks) (λ k m o s. (B.grown k m o s).looks)
        (λ k q x. (B.grows k q x).looks) (λ k m o s q x asks. (F.falls k m o s q x asks).looks) counts es run op c n.looks is
        (λ m. (F.most counts m c n most).looks);
    others = begun_takes S P is_no_look (λ s. (B.left s).others) (λ k m o s. (B.grown k m o s).others)
        (λ k q x. (B.grows k q x).others) (λ k m o s q x asks. (F.falls k m o s q x asks).others) counts es run op c n.others is
        (λ m. (F.most counts m c n most).others);
  };
  idle = λ counts es run op is. record {
    looks = idle_takes S P is_look (λ s. (B.left s).looks) (λ k m o s. (B.grown k m o s).looks)
        (λ k q x. (B.grows k q x).looks) (λ k m o s q x asks. (F.falls k m o s q x asks).looks) counts es run op is;
    others = idle_takes S P is_no_look (λ s. (B.left s).others) (λ k m o s. (B.grown k m o s).others)
        (λ k q x. (B.grows k q x).others) (λ k m o s q x asks. (F.falls k m o s q x asks).others) counts es run op is;
  };
}

-- ---- where nothing grows

-- so where neither look-ups nor replies add anything
pub nothing_grows : (S : Type 0) (P : Programs S) (look : Counts → Memory → OpId → S → ℕ) (reply : Counts → AnyReq → AnyReply → ℕ)
    → ((counts : Counts) (m : Memory) (op : OpId) (s : S) → look counts m op s ≡ 0)
    → ((counts : Counts) (q : AnyReq) (x : AnyReply) → reply counts q x ≡ 0)
    → (es : List Event) (m : WorldState S) (op : OpId) → history_grows P look reply m op es ≡ 0
nothing_grows S P look reply no_look no_reply [] m op = refl
nothing_grows S P look reply no_look no_reply (e ∷ es) m op =
    omega (arith, event m e op, nothing_grows S P look reply no_look no_reply es (after P m e) op)
  where
    standing : (counts : Counts) (m : Memory) (op : OpId) (q : AnyReq) (x : AnyReply) (at : Standing S)
        → standing_grows look reply counts m op q x at ≡ 0
    standing counts m op q x (Goes s) = omega (arith, no_look counts m op s, no_reply counts q x)
    standing counts m op q x Left = refl
    standing counts m op q x NoRoom = refl

    running : (counts : Counts) (m : Memory) (q : AnyReq) (x : AnyReply) (o : Option (Running S))
        → running_grows look reply counts m q x o ≡ 0
    running counts m q x None = refl
    running counts m q x (Some r) = standing counts m r.op q x r.at

    act : (counts : Counts) (s : Actor S) (h : Happening) → act_grows look reply counts s h ≡ 0
    act counts s (Acted q x h) = running counts s.memory q x s.running
    act counts s (Began c) = refl
    act counts s (NotBegun c) = refl
    act counts s (Ended a) = refl
    act counts s Stopped = refl
    act counts s (Failed a) = refl

    by : (b : Bool) (n : ℕ) → n ≡ 0 → (if b then n else 0) ≡ 0
    by true n is = is
    by false n is = refl

    event : (m : WorldState S) (e : Event) (op : OpId) → event_grows look reply m op e ≡ 0
    event m (Own o h) op = by (op_eq o op) _ (act m.counts (m.actors o.actor) h)
    event m Dumped op = refl
