-- the small machine follows each run of programs that ask what is fresh
use Rattle.std.proofs.Common.{◌≡◌, ℕ, true, is_some, Option, Some, None, List, [], ◌∷◌, ◌++◌, refl, sym, ap, subst, ◌∙◌, arith, append_assoc}
use Rattle.std.proofs.lemmas.List.{append-nil}
use Rattle.tect_ids.specs.declared.ids.Counts.{Counts}
use Rattle.tect_ids.specs.declared.ids.BlkId.{BlkId}
use Rattle.tect_ids.specs.declared.ids.OpId.{OpId}
use Rattle.tect_ids.specs.declared.values.RowPart.{RowPart}
use Rattle.key_words.proofs.Lookups.{maps}
use Rattle.store_rules.specs.declared.any.AnyReq.{AnyReq}
use Rattle.store_rules.specs.declared.any.AnyReply.{AnyReply}
use Rattle.store_rules.specs.Store.{Store, opening_store, store_reply, store_step}
use Rattle.tree_model.specs.declared.step.TreeStep.{TreeStep}
use Rattle.tree_model.specs.declared.step.TreeReply.{TreeReply}
use Rattle.tree_model.specs.Tree.{Tree, opening_tree}
use Rattle.program_forms.specs.declared.heard.Heard.{Heard}
use Rattle.program_forms.specs.Memories.{Memory}
use Rattle.program_forms.specs.declared.standing.Standing.TheVariants.{Goes}
use Rattle.program_forms.specs.Kinds.{Asks, Programs, next_does}
use Rattle.world_runs.specs.declared.event.Event.{Event}
use Rattle.world_runs.specs.declared.event.Event.TheVariants.{Own, Dumped}
use Rattle.world_runs.specs.declared.event.Happening.TheVariants.{Began, NotBegun, Acted, Ended, Stopped, Failed}
use Rattle.world_runs.specs.Moments.{WorldState, opening, May, after, IsWorldRun, moment}
use Rattle.whole_runs.proofs.Actors.{moment-append}
use Rattle.whole_runs.proofs.Owns.{counts_stay}
use Rattle.whole_runs.proofs.Standings.{Asking, asks_of}
use Rattle.claim_words.specs.Commands.{content_of, content_in}
use Rattle.claim_words.specs.TreeSteps.{Told, told_as, told_of, tree_steps, tree_step, says, tree_after, IsTreeRun}
use Rattle.telling_laws.specs.View.{Shows, AllMade, AllLong, AllKnown, MakesNew, attaches, TreeFollows, StepShows}
use Rattle.telling_laws.specs.Telling.{tree_of, IsFresh, RunsAskFresh, RunsFollowTree}
use Rattle.telling_laws.specs.Following.{RunsShowTree}
use Rattle.telling_laws.proofs.RequestsShow.{request_shows}
use Rattle.telling_laws.proofs.Made.{TreeMade, all_made, next_made, opening_shows, opening_made}
use Rattle.telling_laws.proofs.Contents.{long_then, known_then, long_more, known_more, view_more}
use Rattle.telling_laws.proofs.Histories.{steps_more, tree_after-append, tree_run-append, run_front, run_rest}

-- ---- a request

module _ (content : BlkId → List ℕ) where
  pub follows_shown : (t : Tree) (s : Store) (op : OpId) (o : Option TreeStep) (x : TreeReply) → TreeFollows t op s content o x
      → Shows s content (tree_after t (told_as op o x))
  follows_shown t s op None x f = f
  follows_shown t s op (Some st) x f = f.1

  pub follows_run : (t : Tree) (s : Store) (op : OpId) (o : Option TreeStep) (x : TreeReply) → TreeFollows t op s content o x
      → IsTreeRun t (told_as op o x)
  follows_run t s op None x f = tt
  follows_run t s op (Some st) x f = (f.0, tt)

pub told_made : (t : Tree) (op : OpId) (o : Option TreeStep) (x : TreeReply) → TreeMade t → TreeMade (tree_after t (told_as op o x))
told_made t op None x h = h
told_made t op (Some st) x h = next_made t op st x h

-- the tree follows an event after that history
pub record Following (content : BlkId → List ℕ) (t : Tree) (s : Store) (steps : List Told) : Type 0 where
  pub shown : Shows s content (tree_after t steps)
  pub made : TreeMade (tree_after t steps)
  pub run : IsTreeRun t steps

-- a request that makes what was not made before
pub request_follows : (content : BlkId → List ℕ) (t : Tree) (s : Store) (op : OpId) (q : AnyReq) → Shows s content t → TreeMade t
    → AllLong s content → MakesNew content t.made q
    → Following content t (store_step s q) (told_as op (tree_step content q (store_reply s q)) (says (store_reply s q)))
request_follows content t s op q shown made long new =
    let x : AnyReply = store_reply s q in
    let all : AllMade s t.made = all_made s content t.made (subst (λ (u : Tree). TreeMade u) (sym shown) made) in
    let step : StepShows s content t.made op q = request_shows s content t.made op q all long new in
    let follows : TreeFollows t op (store_step s q) content (tree_step content q x) (says x) =
    subst (λ (u : Tree). TreeFollows u op (store_step s q) content (tree_step content q x) (says x)) shown step in
    record {
      shown = follows_shown content t (store_step s q) op (tree_step content q x) (says x) follows;
      made = told_made t op (tree_step content q x) (says x) made;
      run = follows_run content t (store_step s q) op (tree_step content q x) (says x) follows;
    }

-- ---- the store of a history

-- it shows the tree, each of whose blocks has its content, as long as its row says
pub record Shown (h : List Event) (s : Store) (t : Tree) : Type 0 where
  pub shows : Shows s (content_in h) t
  pub made : TreeMade t
  pub long : AllLong s (content_in h)
  pub known : AllKnown h s

pub opening_shown : Shown [] opening_store opening_tree
opening_shown = record {
  shows = opening_shows (content_in []);
  made = opening_made;
  long = λ f i r is. absurd (let z : None ≡ Some r = grind (arith, maps, is) in cc);
  known = λ f i r is. absurd (let z : None ≡ Some r = grind (arith, maps, is) in cc);
}

-- what others than a request leave
pub shown_more : (h : List Event) (e : Event) (s : Store) (t : Tree) → Shown h s t → Shown (h ++ e ∷ []) s t
shown_more h e s t g = record {
  shows = view_more h e s t.made g.known ∙ g.shows;
  made = g.made;
  long = long_more h e s g.known g.long;
  known = known_more h e s g.known;
}

-- after a request that is new and whose block has its content
pub shown_then : (h : List Event) (e : Event) (s : Store) (t : Tree) (q : AnyReq) (steps : List Told) → Shown h s t
    → MakesNew (content_in h) t.made q → ((p : RowPart) → attaches q ≡ Some p → is_some (content_of h p.blk) ≡ true)
    → Following (content_in h) t (store_step s q) steps → Shown (h ++ e ∷ []) (store_step s q) (tree_after t steps)
shown_then h e s t q steps g new known f =
    let so : AllKnown h (store_step s q) = known_then h s q g.known known in
    let now : Shown h (store_step s q) (tree_after t steps) = record {
      shows = f.shown;
      made = f.made;
      long = long_then h s q g.long new.long;
      known = so;
    } in shown_more h e (store_step s q) (tree_after t steps) now

-- ---- an event, and a run

-- what the running commands ask next at that moment is fresh
abbrev pub AskFresh : {S : Type 0} → Programs S → List Event → WorldState S → Type 0
AskFresh {S = S} P h m = (a : ℕ) (op : OpId) (s : S) (q : AnyReq) → (m.actors a).running ≡ Some record { op = op; at = Goes s }
    → next_does P.kind m.counts (m.actors a).memory op s ≡ Asks q → IsFresh h q

-- the tree follows an event, and the store shows it then
pub record Follows (h : List Event) (e : Event) (s : Store) (t : Tree) : Type 0 where
  pub shown : Shown (h ++ e ∷ []) s (tree_after t (told_of h e))
  pub run : IsTreeRun t (told_of h e)

-- so it does an event that is no transaction
pub idle_follows : (h : List Event) (e : Event) (s : Store) (t : Tree) → told_of h e ≡ [] → Shown h s t → Follows h e s t
idle_follows h e s t none g = record {
  shown = rw none (shown_more h e s t g);
  run = rw none tt;
}

-- so it does a transaction that makes what is new, and attaches what has its content
pub asked_follows : (h : List Event) (s : Store) (t : Tree) (op : OpId) (q : AnyReq) (x : AnyReply) (how : Heard)
    → MakesNew (content_in h) t.made q → ((p : RowPart) → attaches q ≡ Some p → is_some (content_of h p.blk) ≡ true) → Shown h s t
    → x ≡ store_reply s q → Follows h (Own op (Acted q x how)) (store_step s q) t
asked_follows h s t op q x how new known g is =
    let c : BlkId → List ℕ = content_in h in
    let f : Following c t (store_step s q) (told_as op (tree_step c q x) (says x)) =
    subst (λ (y : AnyReply). Following c t (store_step s q) (told_as op (tree_step c q y) (says y))) (sym is)
    (request_follows c t s op q g.shows g.made g.long new) in
    record {
      shown = shown_then h (Own op (Acted q x how)) s t q (told_as op (tree_step c q x) (says x)) g new known f;
      run = f.run;
    }

-- so it does a transaction of what is fresh
pub fresh_follows : (h : List Event) (s : Store) (op : OpId) (q : AnyReq) (x : AnyReply) (how : Heard) → IsFresh h q → Shown h s (tree_of h)
    → x ≡ store_reply s q → Follows h (Own op (Acted q x how)) (store_step s q) (tree_of h)
fresh_follows h s op q x how fresh g is = asked_follows h s (tree_of h) op q x how fresh.new fresh.known g is

module _ {S : Type 0} (P : Programs S) where
  acted_follows : (h : List Event) (m : WorldState S) (op : OpId) (q : AnyReq) (x : AnyReply) (how : Heard) → AskFresh P h m
      → Shown h m.store (tree_of h) → May P m (Own op (Acted q x how))
      → Follows h (Own op (Acted q x how)) (store_step m.store q) (tree_of h)
  acted_follows h m op q x how fresh g may =
      let memory : Memory = (m.actors op.actor).memory in
      let a : Asking S P m.counts memory (m.actors op.actor).running op q =
      asks_of S P m.counts memory (m.actors op.actor).running op q may.0 in
      let f : IsFresh h q = fresh op.actor op a.state q a.is a.asks in
      fresh_follows h m.store op q x how f g may.1

  event_follows : (h : List Event) (m : WorldState S) (e : Event) → AskFresh P h m → Shown h m.store (tree_of h)
      → May P m e → Follows h e (after P m e).store (tree_of h)
  event_follows h m (Own op (Acted q x how)) fresh g may = acted_follows h m op q x how fresh g may
  event_follows h m (Own op (Began c)) fresh g may = idle_follows h (Own op (Began c)) m.store (tree_of h) refl g
  event_follows h m (Own op (NotBegun c)) fresh g may = idle_follows h (Own op (NotBegun c)) m.store (tree_of h) refl g
  event_follows h m (Own op (Ended a)) fresh g may = idle_follows h (Own op (Ended a)) m.store (tree_of h) refl g
  event_follows h m (Own op Stopped) fresh g may = idle_follows h (Own op Stopped) m.store (tree_of h) refl g
  event_follows h m (Own op (Failed a)) fresh g may = idle_follows h (Own op (Failed a)) m.store (tree_of h) refl g
  event_follows h m Dumped fresh g may = idle_follows h Dumped m.store (tree_of h) refl g

  -- so it follows a history, whose steps are these
  record Followed (h : List Event) (m : WorldState S) : Type 0 where
    shown : Shown h m.store (tree_of h)
    run : IsTreeRun opening_tree (tree_steps h)

  one_more : (h : List Event) (m : WorldState S) (e : Event) → Followed h m → AskFresh P h m → May P m e
      → Followed (h ++ e ∷ []) (after P m e)
  one_more h m e f fresh may =
      let g : Follows h e (after P m e).store (tree_of h) = event_follows h m e fresh f.shown may in
      let grown : tree_of (h ++ e ∷ []) ≡ tree_after (tree_of h) (told_of h e) =
      ap (tree_after opening_tree) (steps_more h e) ∙ tree_after-append opening_tree (tree_steps h) (told_of h e) in
      record {
        shown = subst (λ (u : Tree). Shown (h ++ e ∷ []) (after P m e).store u) (sym grown) g.shown;
        run = rw (steps_more h e) (tree_run-append opening_tree (tree_steps h) (told_of h e) f.run g.run);
      }

  -- at each moment of a run
  pub asks_fresh : RunsAskFresh P → (counts : Counts) (h : List Event) → IsWorldRun P counts h → AskFresh P h (moment P counts h)
  asks_fresh fresh counts h run = λ a op s q is asks. fresh counts h run a op s q is (subst
      (λ (c : Counts). next_does P.kind c ((moment P counts h).actors a).memory op s ≡ Asks q) (counts_stay P (opening counts) h) asks)

  run_followed : RunsAskFresh P → (counts : Counts) (h es : List Event) → IsWorldRun P counts (h ++ es) → Followed h (moment P counts h)
      → Followed (h ++ es) (moment P counts (h ++ es))
  run_followed fresh counts h [] run f = rw append-nil f
  run_followed fresh counts h (e ∷ es) run f =
      let whole : IsWorldRun P counts ((h ++ e ∷ []) ++ es) = rw (append_assoc h (e ∷ []) es) run in
      let more : IsWorldRun P counts (h ++ e ∷ []) = run_front P (opening counts) (h ++ e ∷ []) es whole in
      let front : IsWorldRun P counts h = run_front P (opening counts) h (e ∷ []) more in
      let may : May P (moment P counts h) e = (run_rest P (opening counts) h (e ∷ []) more).0 in
      let next : Followed (h ++ e ∷ []) (moment P counts (h ++ e ∷ [])) =
      subst (λ (n : WorldState S). Followed (h ++ e ∷ []) n) (sym (moment-append P counts h (e ∷ [])))
      (one_more h (moment P counts h) e f (asks_fresh fresh counts h front) may) in
      subst (λ (l : List Event). Followed l (moment P counts l)) (append_assoc h (e ∷ []) es)
      (run_followed fresh counts (h ++ e ∷ []) es whole next)

  world_followed : RunsAskFresh P → (counts : Counts) (es : List Event) → IsWorldRun P counts es → Followed es (moment P counts es)
  world_followed fresh counts es run =
      run_followed fresh counts [] es run record { shown = opening_shown; run = tt }

  pub runs_show_tree : RunsAskFresh P → RunsShowTree P
  runs_show_tree fresh counts es run = ((world_followed fresh counts es run).shown).shows

  -- and what each row's block consists of is told
  pub rows_known : RunsAskFresh P → (counts : Counts) (es : List Event) → IsWorldRun P counts es → AllKnown es (moment P counts es).store
  rows_known fresh counts es run = ((world_followed fresh counts es run).shown).known

  pub runs_follow_tree : RunsAskFresh P → RunsFollowTree P
  runs_follow_tree fresh counts es run = (world_followed fresh counts es run).run
