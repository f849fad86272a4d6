-- What a racer does in some lines, and then in one more.
use Rattle.std.proofs.Common.{◌≡◌, ◌≢◌, ℕ, Bool, true, false, eqb, if◌then◌else◌, List, [], ◌∷◌, ◌++◌, filter, refl}
use Rattle.std.proofs.Common.{sym, ap, subst, ◌∙◌, append_assoc, arith, inl, inr}
use Rattle.std.proofs.lemmas.List.{append-nil}
use Rattle.std.proofs.lemmas.List.Elements.{filter-append}
use Rattle.tect_ids.specs.declared.ids.Counts.{Counts}
use Rattle.tect_ids.specs.declared.script.Act.{Act}
use Rattle.tect_ids.specs.declared.script.Line.{Line}
use Rattle.tect_ids.specs.declared.script.Line.TheVariants as lines
use Rattle.tect_ids.specs.declared.script.ReportLine.{ReportLine}
use Rattle.program_forms.specs.Kinds.{Programs}
use Rattle.entry_words.specs.declared.entry.Moment.{Moment}
use Rattle.world_runs.specs.declared.event.Event.{Event}
use Rattle.world_runs.specs.Actors.{Actor}
use Rattle.world_runs.specs.OwnRuns.{own_state}
use Rattle.world_runs.specs.Races.{line_concerns, own_lines}
use Rattle.world_runs.specs.Follows.{DoesLine}
use Rattle.whole_runs.specs.ClientStates.{ClientState, ClientStates, state_left_at, with_state}
use Rattle.world_runs.specs.Smooth.{OwnEndsAtOnce}
use Rattle.whole_runs.specs.Standing.{IsInState}
use Rattle.whole_runs.specs.ClientLines.{DoesLines}
use Rattle.noted_runs.proofs.Following.{does_lines-append}
use Rattle.whole_runs.proofs.OwnLines.{own_lines-append}
use Rattle.world_runs.proofs.Prompt.{ends_at_once-append}
use Rattle.world_runs.proofs.Actors.{same_number}
use Rattle.whole_runs.proofs.Actors.{other_number, flipped}
use Rattle.clients.specs.Lives.{ClientLife, events_in, state_in}
use Rattle.racers.specs.declared.racer.Racer.{Racer}
use Rattle.racers.specs.Lives.{busy_in, news_events}
use Rattle.racers.specs.Lines.{Adds, Plays}
use Rattle.racers.specs.Steps.{Grows}
use Rattle.racers.proofs.Growths.{added_events, grows_actor, grows_both, grows_counts, grows_events, grows_none, grows_state}
use Rattle.racer_stories.specs.Lines.{Ran, PlaysOrRests}
use Rattle.racer_stories.specs.Ready.{IsReady}

-- ---- growths

module _ {S : Type 0} (P : Programs S) (names : List (List ℕ)) (a b : Racer S) (n : List Moment) (m : List Event)
    (first : Adds P names a b n m) where
  pub grows : Grows a.client b.client n m
  grows = record { life = first.life; late = first.late; stamps = first.stamps }

  pub adds_actor : b.client.actor ≡ a.client.actor
  adds_actor = grows_actor a.client b.client n m grows

  pub adds_counts : b.client.counts ≡ a.client.counts
  adds_counts = grows_counts a.client b.client n m grows

  pub adds_moments : b.client.moments ≡ a.client.moments ++ n
  adds_moments = ap (λ (w : ClientLife). w.moments) first.life

  pub adds_silent : b.client.silent ≡ a.client.silent ++ m
  adds_silent = ap (λ (w : ClientLife). w.silent) first.life

  pub adds_events : events_in b.client ≡ events_in a.client ++ news_events n m
  adds_events = grows_events a.client b.client n m grows

module _ {S : Type 0} (P : Programs S) (names : List (List ℕ)) (a b c : Racer S) (n p : List Moment) (m q : List Event)
    (first : Adds P names a b n m)
    (second : Adds P names b c p q) where
  both : Grows a.client c.client (n ++ p) (m ++ q)
  both = grows_both a.client b.client c.client n p m q (grows P names a b n m first) (grows P names b c p q second)

  pub all_events : news_events (n ++ p) (m ++ q) ≡ news_events n m ++ news_events p q
  all_events = added_events a.client b.client c.client n p m q (grows P names a b n m first) (grows P names b c p q second)

  abbrev shown : List Event → List Event → List ReportLine
  shown before es = own_lines names a.client.actor before es

  second_shows : own_lines names b.client.actor (events_in b.client) (news_events p q)
      ≡ shown (events_in a.client ++ news_events n m) (news_events p q)
  second_shows =
      ap (λ (k : ℕ). own_lines names k (events_in b.client) (news_events p q)) (adds_actor P names a b n m first)
      ∙ ap (λ (es : List Event). shown es (news_events p q)) (adds_events P names a b n m first)

  answers_both : c.answers.items ≡ a.answers.items ++ shown (events_in a.client) (news_events (n ++ p) (m ++ q))
  answers_both =
      second.answers
      ∙ ap (λ (l : List ReportLine). l ++ own_lines names b.client.actor (events_in b.client) (news_events p q))
      first.answers
      ∙ append_assoc a.answers.items (shown (events_in a.client) (news_events n m)) _
      ∙ ap (λ (l : List ReportLine). a.answers.items ++ (shown (events_in a.client) (news_events n m) ++ l)) second_shows
      ∙ ap (λ (l : List ReportLine). a.answers.items ++ l)
      (sym (own_lines-append names a.client.actor (events_in a.client) (news_events n m) (news_events p q)))
      ∙ ap (λ (es : List Event). a.answers.items ++ shown (events_in a.client) es) (sym all_events)

  second_at_once : OwnEndsAtOnce P a.client.counts (own_state P a.client.counts (state_in P a.client) (news_events n m)) (news_events p q)
  second_at_once =
      subst (λ (s : Actor S). OwnEndsAtOnce P a.client.counts s (news_events p q))
      (grows_state a.client b.client n m (grows P names a b n m first) P)
      (subst (λ (k : Counts). OwnEndsAtOnce P k (state_in P b.client) (news_events p q)) (adds_counts P names a b n m first) second.prompt)

  both_at_once : OwnEndsAtOnce P a.client.counts (state_in P a.client) (news_events (n ++ p) (m ++ q))
  both_at_once = subst (OwnEndsAtOnce P a.client.counts (state_in P a.client)) (sym all_events)
      (ends_at_once-append P a.client.counts (state_in P a.client) (news_events n m) (news_events p q) first.prompt second_at_once)

  pub adds_both : Adds P names a c (n ++ p) (m ++ q)
  adds_both = record { life = both.life; late = both.late; stamps = both.stamps; prompt = both_at_once; answers = answers_both }

-- ---- one more line

pub ran_none : {S : Type 0} (P : Programs S) (names : List (List ℕ)) (r : Racer S) → Ran P names [] r r
ran_none P names r = record {
  news = [];
  more = [];
  adds = record {
    life = (grows_none r.client).life;
    late = (grows_none r.client).late;
    stamps = (grows_none r.client).stamps;
    prompt = tt;
    answers = sym (append-nil r.answers.items);
  };
  does = (refl, refl);
}

filter_one : (actor other : ℕ) (client : List ℕ) (act : Act) (ls : List Line) (b : Bool) → eqb other actor ≡ b
    → filter (line_concerns actor) (ls ++ lines.Client client other act ∷ []) ≡ filter (line_concerns actor) ls ++
    (if b then lines.Client client other act ∷ [] else [])
filter_one actor other client act ls b e =
    filter-append (line_concerns actor) ls (lines.Client client other act ∷ [])
    ∙ ap (λ (t : Bool). filter (line_concerns actor) ls ++ (if t then lines.Client client other act ∷ [] else [])) e

rests_on : {S : Type 0} (P : Programs S) (names : List (List ℕ)) (ls : List Line) (client : List ℕ) (actor : ℕ) (act : Act)
    (r s t : Racer S) → Ran P names ls r s
    → actor ≢ s.client.actor → t ≡ s
    → Ran P names (ls ++ lines.Client client actor act ∷ []) r t
rests_on P names ls client actor act r s t ran other same =
    let own : s.client.actor ≡ r.client.actor = adds_actor P names r s ran.news ran.more ran.adds in
    let no : eqb actor r.client.actor ≡ false = other_number actor r.client.actor (λ e. other (e ∙ sym own)) in
    let e : filter (line_concerns r.client.actor) (ls ++ lines.Client client actor act ∷ []) ≡ filter (line_concerns r.client.actor) ls =
    filter_one r.client.actor actor client act ls false no ∙ append-nil (filter (line_concerns r.client.actor) ls) in
    subst (λ (w : Racer _). Ran P names (ls ++ lines.Client client actor act ∷ []) r w) (sym same) (record {
      news = ran.news;
      more = ran.more;
      adds = ran.adds;
      does = subst (λ (ks : List Line). DoesLines r.client.actor (busy_in P r.client) ks (news_events ran.news ran.more)
          (busy_in P s.client))
          (sym e) ran.does;
    })

plays_on : {S : Type 0} (P : Programs S) (names : List (List ℕ)) (ls : List Line) (client : List ℕ) (actor : ℕ) (act : Act)
    (r s t : Racer S) → Ran P names ls r s
    → actor ≡ s.client.actor → Plays P names act s t
    → Ran P names (ls ++ lines.Client client actor act ∷ []) r t
plays_on P names ls client actor act r s t ran is plays =
    let own : s.client.actor ≡ r.client.actor = adds_actor P names r s ran.news ran.more ran.adds in
    let yes : eqb actor r.client.actor ≡ true = ap (λ k. eqb k r.client.actor) (is ∙ own) ∙ same_number r.client.actor in
    let e : filter (line_concerns r.client.actor) (ls ++ lines.Client client actor act ∷ []) ≡ filter (line_concerns r.client.actor) ls ++
    lines.Client client actor act ∷ [] =
    filter_one r.client.actor actor client act ls true yes in
    let line : DoesLines r.client.actor (busy_in P s.client) (lines.Client client actor act ∷ []) (news_events plays.news plays.more)
    (busy_in P t.client) = (
      news_events plays.news plays.more,
      [],
      busy_in P t.client,
      is ∙ own,
      sym (append-nil (news_events plays.news plays.more)),
      subst (λ k. DoesLine k (busy_in P s.client) act (news_events plays.news plays.more) (busy_in P t.client)) own plays.does,
      (refl, refl),
    ) in
    let all = does_lines-append r.client.actor (busy_in P r.client) (busy_in P s.client) (busy_in P t.client)
    (filter (line_concerns r.client.actor) ls) (lines.Client client actor act ∷ [])
    (news_events ran.news ran.more) (news_events plays.news plays.more) ran.does line in
    let f = all_events P names r s t ran.news plays.news ran.more plays.more ran.adds plays.adds in
    record {
      news = ran.news ++ plays.news;
      more = ran.more ++ plays.more;
      adds = adds_both P names r s t ran.news plays.news ran.more plays.more ran.adds plays.adds;
      does = rw (e, f) all;
    }

pub ran_on : {S : Type 0} (P : Programs S) (names : List (List ℕ)) (ls : List Line) (line : Line) (r s t : Racer S) → Ran P names ls r s
    → PlaysOrRests P names line s t
    → Ran P names (ls ++ line ∷ []) r t
ran_on P names ls (lines.Client client actor act) r s t ran (inl w) = rests_on P names ls client actor act r s t ran w.0 w.1
ran_on P names ls (lines.Client client actor act) r s t ran (inr w) = plays_on P names ls client actor act r s t ran w.0 w.1
ran_on P names ls lines.Dump r s t ran w = absurd w
ran_on P names ls (lines.Store counts) r s t ran w = absurd w
ran_on P names ls lines.Sweep r s t ran w = absurd w
ran_on P names ls (lines.Lose disk) r s t ran w = absurd w

-- ---- readiness

set_there : (states : ClientStates) (actor other : ℕ) (state : ClientState) → actor ≢ other
    → with_state states actor state other ≡ states other
set_there states actor other state ne =
    ap (λ (b : Bool). if b then state else states other) (flipped other actor ∙ other_number actor other ne)

set_here : (states : ClientStates) (actor other : ℕ) (state : ClientState) → actor ≡ other → with_state states actor state other ≡ state
set_here states actor other state is =
    ap (λ (b : Bool). if b then state else states other) (ap (λ k. eqb other k) is ∙ same_number other)

pub ready_on : {S : Type 0} (P : Programs S) (names : List (List ℕ)) (counts : Counts) (line : Line) (later : List Line) (r t : Racer S)
    → IsReady P counts (line ∷ later) r
    → PlaysOrRests P names line r t → IsReady P counts later t
ready_on P names counts (lines.Client client actor act) later r t ready (inl w) =
    subst (λ (x : Racer _). IsReady P counts later x) (sym w.1) (record {
      counts_are = ready.counts_are;
      states = with_state ready.states actor (state_left_at act);
      in_turn = ready.in_turn.3;
      state = subst (λ (x : ClientState). IsInState x (state_in P r.client))
          (sym (set_there ready.states actor r.client.actor (state_left_at act) w.0)) ready.state;
      few = (let f = ready.few in omega arith);
    })
ready_on P names counts (lines.Client client actor act) later r t ready (inr w) =
    let plays = w.1 in
    let own : t.client.actor ≡ r.client.actor = adds_actor P names r t plays.news plays.more plays.adds in
    record {
      counts_are = adds_counts P names r t plays.news plays.more plays.adds ∙ ready.counts_are;
      states = with_state ready.states actor (state_left_at act);
      in_turn = ready.in_turn.3;
      state = subst (λ (x : ClientState). IsInState x (state_in P t.client))
          (sym (set_here ready.states actor t.client.actor (state_left_at act) (w.0 ∙ sym own))) plays.turn;
      few = (let f = ready.few in let g = plays.few in omega arith);
    }
ready_on P names counts lines.Dump later r t ready w = absurd w
ready_on P names counts (lines.Store k) later r t ready w = absurd w
ready_on P names counts lines.Sweep later r t ready w = absurd w
ready_on P names counts (lines.Lose disk) later r t ready w = absurd w
