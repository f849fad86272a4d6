-- in each run each answer is explained by the history before it
use Rattle.std.proofs.Common.{◌≡◌, ◌≢◌, ◌<◌, ◌≤◌, ◌⊎◌, ℕ, eqb, true, false, Option, Some, None, List, [], ◌∷◌}
use Rattle.std.proofs.Common.{◌++◌, refl, sym, ap, subst, ◌∙◌, arith, inl, inr, append_assoc, take}
use Rattle.std.proofs.lemmas.List.{append-nil}
use Rattle.tect_ids.specs.declared.ids.Counts.{Counts}
use Rattle.tect_ids.specs.declared.ids.OpId.{OpId}
use Rattle.tect_ids.specs.declared.command.Command.{Command}
use Rattle.tect_ids.specs.declared.answer.Answer.{Answer}
use Rattle.tect_ids.specs.Keys.{op_eq}
use Rattle.tect_ids.proofs.KeyTests.{op_eq_cases}
use Rattle.store_rules.specs.declared.any.AnyReq.{AnyReq}
use Rattle.store_rules.specs.declared.any.AnyReply.{AnyReply}
use Rattle.store_rules.specs.Store.{Store, opening_store, store_reply}
use Rattle.program_laws.specs.Known.{Deciding}
use Rattle.tree_model.specs.Tree.{opening_tree}
use Rattle.program_forms.specs.declared.heard.Heard.{Heard}
use Rattle.program_forms.specs.declared.heard.Heard.TheVariants as hearing
use Rattle.program_forms.specs.declared.standing.Standing.{Standing}
use Rattle.program_forms.specs.declared.standing.Standing.TheVariants.{Goes, Left, NoRoom}
use Rattle.program_forms.specs.Lacks.{no_room}
use Rattle.program_forms.specs.Memories.{Memory, kept_of, opened_by}
use Rattle.program_forms.specs.Kinds.{Asks, Says, Programs, turned, next_does, state_heard, memory_heard}
use Rattle.world_runs.specs.declared.event.Event.{Event}
use Rattle.world_runs.specs.declared.event.Event.TheVariants.{Own, Dumped}
use Rattle.world_runs.specs.declared.event.Happening.{Happening}
use Rattle.world_runs.specs.declared.event.Happening.TheVariants.{Began, NotBegun, Acted, Ended, Stopped, Failed}
use Rattle.world_runs.specs.Actors.{Actor, Running, CanBegin, OwnMay, program_answer, own_after, standing_heard, went_on, memory_at_end, ended}
use Rattle.world_runs.specs.Moments.{WorldState, opening, May, after, IsWorldRun, moment}
use Rattle.world_runs.specs.OwnRuns.{stored_after}
use Rattle.world_runs.specs.Refusals.{was_refused}
use Rattle.whole_runs.proofs.Actors.{changed, moment-append}
use Rattle.whole_runs.proofs.Fronts.{front_runs, may_at}
use Rattle.whole_runs.proofs.Owns.{counts_stay, store_is_after}
use Rattle.world_runs.proofs.Refusals.{refused-rest}
use Rattle.whole_runs.proofs.Refusals.{refused-front}
use Rattle.whole_runs.proofs.Standings.{runs_at, Asking, asks_of, Saying, says_of, does_say, went_on_number, ended_number, own_grows}
use Rattle.claim_words.specs.Commands.{content_in}
use Rattle.claim_words.specs.Opened.{opens_of, learnt_by, opened_in}
use Rattle.claim_words.specs.TreeSteps.{told_of, tree_steps, IsTreeRun}
use Rattle.claim_words.specs.Points.{of_op}
use Rattle.claim_words.specs.Headline.{begun_by, or_later, command_of, ExplainsBy, HadNoRoom}
use Rattle.telling_laws.specs.Telling.{is_of, tree_of, IsSeen, RunsAskFresh, RunsFollowTree, Telling, OfDecided, Tells, TellingLaws}
use Rattle.telling_laws.specs.Telling.{RunsAreExplained, RunsRemember}
use Rattle.telling_laws.specs.View.{Shows, AllKnown}
use Rattle.telling_laws.proofs.Histories.{steps_more, opened_more, tree_run-rest, others_steps, others_begin, command_more, itself, run_front, run_rest}
use Rattle.telling_laws.proofs.RunsFollow.{AskFresh, asks_fresh, runs_show_tree, rows_known}

module _ (S : Type 0) (counts : Counts) (P : Programs S) (D : Deciding S Answer) (T : Telling S) (L : TellingLaws counts P D T) where
  -- ---- one command

  -- what is told stays told
  decided_stays : (h : List Event) (e : Event) (op : OpId) (c : Command) (s : S) (d : Option Answer) → is_of op e ≡ false
      → OfDecided (T.Before h op c s) (T.because h op c) d → OfDecided (T.Before (h ++ e ∷ []) op c s) (T.because (h ++ e ∷ []) op c) d
  decided_stays h e op c s None other t = L.stays h e op c s other t
  decided_stays h e op c s (Some a) other t = L.lasts h (e ∷ []) op c a t

  -- after its look-ups
  pub turned_tells : (h : List Event) (op : OpId) (c : Command) (m : Memory) (s : S) → Tells D T h op c s
      → Tells D T h op c (turned P.kind counts m op s).state
  turned_tells h op c m s t = by (D.decided s) refl t
    where
      by : (d : Option Answer) → D.decided s ≡ d → OfDecided (T.Before h op c s) (T.because h op c) d
          → Tells D T h op c (turned P.kind counts m op s).state
      by None is b = L.turns h op c m s b is
      by (Some a) is b = let so : D.decided (turned P.kind counts m op s).state ≡ Some a = L.turned_so m op s a is in rw so b

  -- after a reply
  heard_tells : (h : List Event) (op : OpId) (c : Command) (m : Memory) (s : S) (q : AnyReq) (x : AnyReply) (how : Heard)
      → IsSeen h q → next_does P.kind counts m op s ≡ Asks q → x ≡ store_reply (stored_after opening_store h) q
      → IsTreeRun (tree_of h) (told_of h (Own op (Acted q x how))) → Tells D T h op c s
      → Tells D T (h ++ Own op (Acted q x how) ∷ []) op c (state_heard P.kind counts m op s q x)
  heard_tells h op c m s q x how fresh asks is allowed t =
      by (D.decided (turned P.kind counts m op s).state) refl (turned_tells h op c m s t)
    where
      by : (d : Option Answer) → D.decided (turned P.kind counts m op s).state ≡ d
          → OfDecided (T.Before h op c (turned P.kind counts m op s).state) (T.because h op c) d
          → Tells D T (h ++ Own op (Acted q x how) ∷ []) op c (state_heard P.kind counts m op s q x)
      by None e b = L.hears h op c m s q x how fresh asks is b e allowed
      by (Some a) e b =
          let so : D.decided (state_heard P.kind counts m op s q x) ≡ Some a = L.heard_so m op s q x a e in
          rw so (L.lasts h (Own op (Acted q x how) ∷ []) op c a b)

  -- its answer
  said_because : (h : List Event) (op : OpId) (c : Command) (m : Memory) (s : S) (a : Answer)
      → next_does P.kind counts m op s ≡ Says a → Tells D T h op c s → T.because h op c a
  said_because h op c m s a says t =
      let is : D.decided (turned P.kind counts m op s).state ≡ Some a = L.says m op s a says in
      rw is at (turned_tells h op c m s t)

  -- ---- all of a moment

  -- The command began, and was told so far; or it was refused. One that heard no more of its last reply ends with no answer.
  abbrev pub StandTells : List Event → OpId → Standing S → Type 0
  StandTells h op (Goes s) = (c : Command) × (command_of h op ≡ Some c) × Tells D T h op c s
  StandTells h op Left = Unit {0}
  StandTells h op NoRoom = was_refused h op ≡ true

  -- an actor's running command is the last that it began
  abbrev pub RunningTells : List Event → ℕ → ℕ → Option (Running S) → Type 0
  RunningTells h a number None = Unit {0}
  RunningTells h a number (Some r) = (r.op.actor ≡ a) × (r.op.number ≡ number) × StandTells h r.op r.at

  -- each running command was told so far or refused, an op that did not begin has neither command nor steps, and each actor knows what it
  -- opened
  pub record AllTold (h : List Event) (m : WorldState S) : Type 0 where
    pub tells : (a : ℕ) → RunningTells h a (m.actors a).number (m.actors a).running
    unbegun : (op : OpId) → (m.actors op.actor).number < op.number → command_of h op ≡ None
    unasked : (op : OpId) → (m.actors op.actor).number < op.number → of_op op (tree_steps h) ≡ []
    opened : (a : ℕ) → (m.actors a).memory.opened ≡ opened_in h a

  stand_stays : (h : List Event) (e : Event) (op : OpId) (at : Standing S) → is_of op e ≡ false → StandTells h op at
      → StandTells (h ++ e ∷ []) op at
  stand_stays h e op (Goes s) other t = (
    t.0,
    command_more h e op ∙ ap (λ (z : Option Command). or_later z (begun_by e op)) t.1,
    decided_stays h e op t.0 s (D.decided s) other t.2,
  )
  stand_stays h e op Left other t = tt
  stand_stays h e op NoRoom other t = refused-front h (e ∷ []) op t

  running_stays : (h : List Event) (e : Event) (a number : ℕ) (o : Option (Running S))
      → ((op : OpId) → op.actor ≡ a → is_of op e ≡ false) → RunningTells h a number o → RunningTells (h ++ e ∷ []) a number o
  running_stays h e a number None other t = tt
  running_stays h e a number (Some r) other t = (t.0, t.1, stand_stays h e r.op r.at (other r.op t.0) t.2)

  -- ---- an actor's event

  abbrev world_of : (ℕ → Actor S) → Store → WorldState S
  world_of actors store = record { counts = counts; actors = actors; store = store }

  module _ (h : List Event) (actors : ℕ → Actor S) (store : Store) (t : AllTold h (world_of actors store))
      (fresh : AskFresh P h (world_of actors store)) (shows : Shows store (content_in h) (tree_of h))
      (known : AllKnown h store) (stored : store ≡ stored_after opening_store h) (op : OpId) where
    -- the moment
    abbrev m : WorldState S
    m = world_of actors store

    -- the actor
    abbrev s : Actor S
    s = m.actors op.actor

    -- the running op is the last
    last : (at : Standing S) → s.running ≡ Some record { op = op; at = at } → op.number ≡ s.number
    last at is = let k : RunningTells h op.actor s.number (Some record { op = op; at = at }) = rw is at (t.tells op.actor) in k.1

    -- no op later than the actor's number after is the event's
    own_new : (hp : Happening) → OwnMay P m.counts s op hp → op.number ≤ (own_after P m.counts s op hp).number
    own_new (Began c) may = omega arith
    own_new (NotBegun c) may = omega arith
    own_new (Acted q x how) may =
        let a : Asking S P m.counts s.memory s.running op q = asks_of S P m.counts s.memory s.running op q may in
        rw (went_on_number P m.counts s s.running q x how) (omega (arith, last (Goes a.state) a.is))
    own_new (Ended b) may =
        let a : Saying S P m.counts s.memory s.running op b = says_of S P m.counts s.memory s.running op b may in
        rw (ended_number P m.counts s s.running) (omega (arith, last a.at a.is))
    own_new Stopped may = omega (arith, last _ (runs_at s.running op may.0 may.1))
    own_new (Failed b) may = rw (ended_number P m.counts s s.running) (omega (arith, last _ (runs_at s.running op (may.1).0 (may.1).1)))

    -- what is told of the actor's own command after its event
    begun_tells : (c : Command) → CanBegin s op → P.serves c ≡ true
        → StandTells (h ++ Own op (Began c) ∷ []) op (Goes (P.starts m.counts s.memory c))
    begun_tells c can served = (
      c,
      command_more h (Own op (Began c)) op ∙ rw (t.unbegun op (omega (arith, can.next)), itself op) refl,
      L.begins h op c s.memory served (t.unbegun op (omega (arith, can.next))) (t.unasked op (omega (arith, can.next))) (t.opened op.actor),
    )

    acted_tells : (q : AnyReq) (x : AnyReply) (how : Heard) (state : S) → s.running ≡ Some record { op = op; at = Goes state }
        → next_does P.kind m.counts s.memory op state ≡ Asks q → x ≡ store_reply m.store q
        → IsTreeRun (tree_of h) (told_of h (Own op (Acted q x how)))
        → StandTells (h ++ Own op (Acted q x how) ∷ []) op (standing_heard P m.counts s.memory op (Goes state) q x how)
    acted_tells q x how state is asks reply allowed = by how allowed
      where
        was : StandTells h op (Goes state)
        was = let k : RunningTells h op.actor s.number (Some record { op = op; at = Goes state }) = rw is at (t.tells op.actor) in k.2

        here : x ≡ store_reply (stored_after opening_store h) q
        here = reply ∙ ap (λ (w : Store). store_reply w q) stored

        shown_here : Shows (stored_after opening_store h) (content_in h) (tree_of h)
        shown_here = subst (λ (w : Store). Shows w (content_in h) (tree_of h)) stored shows

        known_here : AllKnown h (stored_after opening_store h)
        known_here = subst (λ (w : Store). AllKnown h w) stored known

        goes : (g : Heard) → IsTreeRun (tree_of h) (told_of h (Own op (Acted q x g)))
            → StandTells (h ++ Own op (Acted q x g) ∷ []) op (Goes (state_heard P.kind m.counts s.memory op state q x))
        goes g run = (
          was.0,
          command_more h (Own op (Acted q x g)) op ∙ ap (λ (z : Option Command). or_later z None) was.1,
          heard_tells h op was.0 s.memory state q x g record { fresh = fresh op.actor op state q is asks; shows = shown_here; known = known_here } asks here run was.2,
        )

        by : (g : Heard) → IsTreeRun (tree_of h) (told_of h (Own op (Acted q x g)))
            → StandTells (h ++ Own op (Acted q x g) ∷ []) op (standing_heard P m.counts s.memory op (Goes state) q x g)
        by hearing.Whole run = goes hearing.Whole run
        by hearing.Unkept run = goes hearing.Unkept run
        by hearing.Left run = tt

    ended_tells : (e : Event) (r : Running S) → s.running ≡ Some r
        → RunningTells (h ++ e ∷ []) op.actor (ended P m.counts s s.running).number (ended P m.counts s s.running).running
    ended_tells e r is =
        subst (λ (o : Option (Running S)). RunningTells (h ++ e ∷ []) op.actor (ended P m.counts s o).number (ended P m.counts s o).running)
        (sym is) tt

    own_tells : (hp : Happening) → May P m (Own op hp) → IsTreeRun (tree_of h) (told_of h (Own op hp))
        → RunningTells (h ++ Own op hp ∷ []) op.actor (own_after P m.counts s op hp).number (own_after P m.counts s op hp).running
    own_tells (Began c) may allowed = (refl, refl, begun_tells c (may.0).0 (may.0).1)
    own_tells (NotBegun c) may allowed = (refl, refl, refused-rest h (Own op (NotBegun c) ∷ []) op (rw (itself op) refl))
    own_tells (Acted q x how) may allowed =
        let a : Asking S P m.counts s.memory s.running op q = asks_of S P m.counts s.memory s.running op q may.0 in
        subst (λ (o : Option (Running S)). RunningTells (h ++ Own op (Acted q x how) ∷ []) op.actor (went_on P m.counts s o q x how).number
        (went_on P m.counts s o q x how).running) (sym a.is)
        (refl, last (Goes a.state) a.is, acted_tells q x how a.state a.is a.asks may.1 allowed)
    own_tells (Ended b) may allowed =
        let a : Saying S P m.counts s.memory s.running op b = says_of S P m.counts s.memory s.running op b may.0 in
        ended_tells (Own op (Ended b)) _ a.is
    own_tells Stopped may allowed = tt
    own_tells (Failed b) may allowed = ended_tells (Own op (Failed b)) _ (runs_at s.running op ((may.0).1).0 ((may.0).1).1)

    -- an op that is later after it was so before, and is another
    later_op : (hp : Happening) → May P m (Own op hp) → (o : OpId) → ((after P m (Own op hp)).actors o.actor).number < o.number
        → ((m.actors o.actor).number < o.number) × (op_eq op o ≡ false)
    later_op hp may o = changed (λ (z : Actor S). z.number < o.number
        → ((m.actors o.actor).number < o.number) × (op_eq op o ≡ false)) m.actors op.actor
        (own_after P m.counts s op hp) o.actor
        (λ same late. (
          rw same (omega (arith, own_grows P m.counts s op hp may.0, late)),
          numbers_differ op o (omega (arith, own_new hp may.0, late)),
        ))
        (λ differs late. (late, actors_differ op o differs))
      where
        numbers_differ : (a b : OpId) → a.number < b.number → op_eq a b ≡ false
        numbers_differ a b less = grind (arith, op_eq_cases a b)

        actors_differ : (a b : OpId) → b.actor ≢ a.actor → op_eq a b ≡ false
        actors_differ a b differs = grind (arith, op_eq_cases a b)

    -- what the actor keeps
    acted_opened : (q : AnyReq) (x : AnyReply) (how : Heard) (state : S) → s.running ≡ Some record { op = op; at = Goes state }
        → next_does P.kind m.counts s.memory op state ≡ Asks q
        → (memory_heard P.kind m.counts s.memory op state q x how).opened
        ≡ opened_by (kept_of how (opens_of (command_of h op) q x)) s.memory.opened
    acted_opened q x how state is asks =
        let k : RunningTells h op.actor s.number (Some record { op = op; at = Goes state }) = rw is at (t.tells op.actor) in
        let was : StandTells h op (Goes state) = k.2 in
        let learns : P.kind.learns op (turned P.kind counts s.memory op state).state q x ≡ opens_of (Some was.0) q x =
        L.learns h op was.0 s.memory state q x asks (turned_tells h op was.0 s.memory state was.2) in
        rw (learns, was.1, L.opened s.memory op state) refl

    turned_opened : (at : Standing S) → (memory_at_end P m.counts s.memory op at).opened ≡ s.memory.opened
    turned_opened (Goes state) = L.opened s.memory op state
    turned_opened Left = refl
    turned_opened NoRoom = refl

    ended_opened : (at : Standing S) → s.running ≡ Some record { op = op; at = at }
        → (ended P m.counts s s.running).memory.opened ≡ s.memory.opened
    ended_opened at is = subst (λ (o : Option (Running S)). (ended P m.counts s o).memory.opened ≡ s.memory.opened) (sym is) (turned_opened at)

    same_actor : eqb op.actor op.actor ≡ true
    same_actor = grind arith

    own_opened : (hp : Happening) → May P m (Own op hp)
        → (own_after P m.counts s op hp).memory.opened ≡ opened_by (learnt_by h (Own op hp) op.actor) s.memory.opened
    own_opened (Began c) may = refl
    own_opened (NotBegun c) may = refl
    own_opened (Acted q x how) may =
        let a : Asking S P m.counts s.memory s.running op q = asks_of S P m.counts s.memory s.running op q may.0 in
        subst (λ (o : Option (Running S)). (went_on P m.counts s o q x how).memory.opened
        ≡ opened_by (learnt_by h (Own op (Acted q x how)) op.actor) s.memory.opened) (sym a.is)
        (rw same_actor (acted_opened q x how a.state a.is a.asks))
    own_opened (Ended b) may =
        let a : Saying S P m.counts s.memory s.running op b = says_of S P m.counts s.memory s.running op b may.0 in
        ended_opened a.at a.is
    own_opened Stopped may = refl
    own_opened (Failed b) may = ended_opened _ (runs_at s.running op ((may.0).1).0 ((may.0).1).1)

    others_opened : (hp : Happening) (b : ℕ) → b ≢ op.actor → learnt_by h (Own op hp) b ≡ []
    others_opened (Began c) b differs = refl
    others_opened (NotBegun c) b differs = refl
    others_opened (Acted q x how) b differs = let no : eqb op.actor b ≡ false = grind (arith, differs) in rw no refl
    others_opened (Ended x) b differs = refl
    others_opened Stopped b differs = refl
    others_opened (Failed x) b differs = refl

    own_told : (hp : Happening) → May P m (Own op hp) → IsTreeRun (tree_of h) (told_of h (Own op hp))
        → AllTold (h ++ Own op hp ∷ []) (after P m (Own op hp))
    own_told hp may allowed = record {
      tells = λ b. changed (λ (z : Actor S). RunningTells (h ++ Own op hp ∷ []) b z.number z.running) m.actors op.actor
          (own_after P m.counts s op hp) b (λ same. rw same (own_tells hp may allowed))
          (λ differs. running_stays h (Own op hp) b _ _ (λ o own. grind (arith, op_eq_cases op o, own, differs)) (t.tells b));
      unbegun = λ o late.
          let k : ((m.actors o.actor).number < o.number) × (op_eq op o ≡ false) = later_op hp may o late in
          command_more h (Own op hp) o ∙ rw (t.unbegun o k.0) (others_begin o (Own op hp) k.1);
      unasked = λ o late.
          let k : ((m.actors o.actor).number < o.number) × (op_eq op o ≡ false) = later_op hp may o late in
          others_steps h (Own op hp) o k.1 ∙ t.unasked o k.0;
      opened = λ b. changed (λ (z : Actor S). z.memory.opened ≡ opened_in (h ++ Own op hp ∷ []) b) m.actors op.actor
          (own_after P m.counts s op hp) b
          (λ same. rw same (own_opened hp may ∙ rw (t.opened op.actor) (sym (opened_more h (Own op hp) op.actor))))
          (λ differs. t.opened b ∙ rw (others_opened hp b differs) at (sym (opened_more h (Own op hp) b)));
    }

  dump_told : (h : List Event) (m : WorldState S) → AllTold h m → AllTold (h ++ Dumped ∷ []) m
  dump_told h m t = record {
    tells = λ b. running_stays h Dumped b _ _ (λ o own. refl) (t.tells b);
    unbegun = λ o late. command_more h Dumped o ∙ rw (t.unbegun o late) refl;
    unasked = λ o late. others_steps h Dumped o refl ∙ t.unasked o late;
    opened = λ b. t.opened b ∙ sym (opened_more h Dumped b);
  }

  abbrev EventTold : List Event → WorldState S → Event → Type 0
  EventTold h m e = AllTold h m → AskFresh P h m → Shows m.store (content_in h) (tree_of h) → AllKnown h m.store → m.store ≡ stored_after opening_store h → May P m e → IsTreeRun (tree_of h) (told_of h e)
      → AllTold (h ++ e ∷ []) (after P m e)

  event_told : (h : List Event) (m : WorldState S) (e : Event) → m.counts ≡ counts → EventTold h m e
  event_told h m (Own op hp) many =
      subst (λ (c : Counts). EventTold h record { counts = c; actors = m.actors; store = m.store } (Own op hp)) (sym many)
      (λ t fresh shows known stored may allowed. own_told h m.actors m.store t fresh shows known stored op hp may allowed)
  event_told h m Dumped many = λ t fresh shows known stored may allowed. dump_told h m t

  pub opening_told : AllTold [] (opening counts)
  opening_told = record { tells = λ a. tt; unbegun = λ op late. refl; unasked = λ op late. refl; opened = λ a. refl }

  -- a command that has come to its answer
  stand_answers : (h : List Event) (op : OpId) (a : Answer) (m : Memory) (at : Standing S)
      → program_answer P counts m (Some record { op = op; at = at }) ≡ Some a → StandTells h op at
      → ExplainsBy T.because h op a ⊎ HadNoRoom h op a
  stand_answers h op a m (Goes s) says t = inl record {
    command = t.0;
    begun = t.1;
    because = said_because h op t.0 m s a (does_say S P counts m (next_does P.kind counts m op s) a says) t.2;
  }
  stand_answers h op a m Left says t = absurd (let z : None ≡ Some a = says in cc)
  stand_answers h op a m NoRoom says t =
      let z : Some no_room ≡ Some a = says in inr (t, (let same : a ≡ no_room = cc in same))

  -- ---- each run

  module _ (freshly : RunsAskFresh P) (follows : RunsFollowTree P) where
    pub run_told : (h es : List Event) → IsWorldRun P counts (h ++ es) → AllTold h (moment P counts h)
        → AllTold (h ++ es) (moment P counts (h ++ es))
    run_told h [] run t = rw append-nil t
    run_told h (e ∷ es) run t =
        let whole : IsWorldRun P counts ((h ++ e ∷ []) ++ es) = rw (append_assoc h (e ∷ []) es) run in
        let more : IsWorldRun P counts (h ++ e ∷ []) = run_front P (opening counts) (h ++ e ∷ []) es whole in
        let front : IsWorldRun P counts h = run_front P (opening counts) h (e ∷ []) more in
        let may : May P (moment P counts h) e = (run_rest P (opening counts) h (e ∷ []) more).0 in
        let steps : IsTreeRun opening_tree (tree_steps h ++ told_of h e) =
        subst (λ l. IsTreeRun opening_tree l) (steps_more h e) (follows counts (h ++ e ∷ []) more) in
        let now : moment P counts (h ++ e ∷ []) ≡ after P (moment P counts h) e = moment-append P counts h (e ∷ []) in
        let next : AllTold (h ++ e ∷ []) (moment P counts (h ++ e ∷ [])) =
        subst (λ (n : WorldState S). AllTold (h ++ e ∷ []) n) (sym now)
        (event_told h (moment P counts h) e (counts_stay P (opening counts) h) t (asks_fresh P freshly counts h front)
        (runs_show_tree P freshly counts h front) (rows_known P freshly counts h front) (store_is_after P (opening counts) h) may
        (tree_run-rest opening_tree (tree_steps h) (told_of h e) steps)) in
        subst (λ (l : List Event). AllTold l (moment P counts l)) (append_assoc h (e ∷ []) es) (run_told (h ++ e ∷ []) es whole next)

    told_at : (es : List Event) (place : ℕ) → IsWorldRun P counts es → AllTold (take place es) (moment P counts (take place es))
    told_at es place run = run_told [] (take place es) (front_runs P place es (opening counts) run) opening_told

    answer_told : (h : List Event) (op : OpId) (a : Answer) → AllTold h (moment P counts h)
        → May P (moment P counts h) (Own op (Ended a)) → ExplainsBy T.because h op a ⊎ HadNoRoom h op a
    answer_told h op a t may =
        let m : WorldState S = moment P counts h in
        let actor : Actor S = m.actors op.actor in
        let says : OwnMay P counts actor op (Ended a) =
        subst (λ (c : Counts). OwnMay P c actor op (Ended a)) (counts_stay P (opening counts) h) may.0 in
        let its : Saying S P counts actor.memory actor.running op a = says_of S P counts actor.memory actor.running op a says in
        let tells : RunningTells h op.actor actor.number (Some record { op = op; at = its.at }) = rw its.is at (t.tells op.actor) in
        stand_answers h op a actor.memory its.at its.says tells.2

    -- at the end of each run each actor knows what it opened
    pub run_remembers : RunsRemember counts P
    run_remembers es run a = (run_told [] es run opening_told).opened a

  pub runs_are_explained : RunsAskFresh P → RunsFollowTree P → RunsAreExplained counts P T
  runs_are_explained freshly follows es run = record {
    tree = follows counts es run;
    begins = λ place op c is.
        let m : WorldState S = moment P counts (take place es) in
        let may : May P m (Own op (Began c)) = may_at P (opening counts) es place (Own op (Began c)) run is in
        (told_at freshly follows es place run).unasked op (omega (arith, ((may.0).0).next));
    answers = λ place op a is.
        answer_told freshly follows (take place es) op a
        (told_at freshly follows es place run)
        (may_at P (opening counts) es place (Own op (Ended a)) run is);
  }
