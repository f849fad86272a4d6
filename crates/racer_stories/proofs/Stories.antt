-- The stories of all clients, when a part is done and when it ends.
use Rattle.std.proofs.Common.{◌≡◌, ℕ, ◌<◌, ◌≤◌, true, None, List, [], ◌∷◌, ◌++◌, filter, refl, sym, ap, subst, ◌∙◌, arith, ◌⊎◌, inl, inr}
use Rattle.std.proofs.Common.{append_assoc}
use Rattle.std.specs.List.{All, AllByRecursion}
use Rattle.std.proofs.lemmas.Grind.{common_steps}
use Rattle.std.proofs.lemmas.List.{append-nil}
use Rattle.std.proofs.lemmas.List.Elements.{All-append, All-from_recursion, filter-append}
use Rattle.tect_ids.specs.declared.ids.Counts.{Counts}
use Rattle.tect_ids.specs.declared.script.Line.{Line}
use Rattle.tect_ids.specs.declared.script.ReportLine.{ReportLine}
use Rattle.program_forms.specs.Kinds.{Programs}
use Rattle.entry_words.specs.declared.entry.Moment.{Moment}
use Rattle.entry_words.specs.Moments.{rises, stamp_of}
use Rattle.world_runs.specs.declared.event.Event.{Event}
use Rattle.world_runs.specs.declared.event.Event.TheVariants.{Dumped}
use Rattle.world_runs.specs.Actors.{Actor, idle_actor}
use Rattle.world_runs.specs.OwnRuns.{own_state}
use Rattle.world_runs.specs.Races.{line_concerns, own_lines}
use Rattle.whole_runs.specs.ClientLines.{DoesLines}
use Rattle.world_runs.specs.Smooth.{OwnEndsAtOnce}
use Rattle.world_runs.proofs.Actors.{own_state-append}
use Rattle.world_runs.proofs.Prompt.{ends_at_once-append}
use Rattle.clients.specs.Lives.{events_in, state_in}
use Rattle.race_runs.specs.Stories.{Part, Story, Timely, Answers, all_moments, all_events, with_dumps, part_events}
use Rattle.race_runs.proofs.Growing.{no_part, with_part}
use Rattle.racers.specs.declared.racer.Racer.{Racer}
use Rattle.racers.specs.Lives.{busy_in, news_events}
use Rattle.racer_stories.specs.Lines.{Ran}
use Rattle.racer_stories.specs.Standing.{Stands, all_silent, last_clock}
use Rattle.noted_runs.proofs.Following.{does_lines-append}
use Rattle.racers.proofs.Growths.{both_news}
use Rattle.whole_runs.proofs.OwnLines.{own_lines-append}
use Rattle.racer_stories.proofs.RacerLines.{adds_actor, adds_counts, adds_moments, adds_silent, adds_events}

-- ---- one list for all parts

silent_with : (ps : List Part) (p : Part) (more : List Event) (q : Part) → q.silent ≡ p.silent ++ more
    → all_silent ps q ≡ all_silent ps p ++ more
silent_with [] p more q e = e
silent_with (x ∷ xs) p more q e = ap (λ l. x.silent ++ l) (silent_with xs p more q e) ∙ sym (append_assoc x.silent (all_silent xs p) more)

none_behind : {X : Type 0} (xs ys : List X) → xs ++ ys ≡ [] → ys ≡ []
none_behind [] ys e = e
none_behind (x ∷ xs) ys e = absurd cc

silent_last : (ps : List Part) (p : Part) → all_silent ps p ≡ [] → p.silent ≡ []
silent_last [] p e = e
silent_last (x ∷ xs) p e = silent_last xs p (none_behind x.silent (all_silent xs p) e)

pub silent_dumped : (ps : List Part) (p : Part) → all_silent (ps ++ p ∷ []) no_part ≡ all_silent ps p
silent_dumped [] p = append-nil p.silent
silent_dumped (x ∷ xs) p = ap (λ l. x.silent ++ l) (silent_dumped xs p)

moments_more : (ps : List Part) (p q : Part) (news : List Moment) → q.news ≡ p.news ++ news → all_moments ps q ≡ all_moments ps p ++ news
moments_more [] p q news e = e
moments_more (x ∷ xs) p q news e = ap (λ l. x.news ++ l) (moments_more xs p q news e) ∙ sym (append_assoc x.news (all_moments xs p) news)

events_more : (ps : List Part) (p q : Part) (es : List Event) → part_events q ≡ part_events p ++ es
    → all_events ps q ≡ all_events ps p ++ es
events_more [] p q es e = e
events_more (x ∷ xs) p q es e = ap (λ l. part_events x ++ l) (events_more xs p q es e) ∙ sym
    (append_assoc (part_events x) (all_events xs p) es)

dumps_more : (ps : List Part) (p q : Part) (es : List Event) → part_events q ≡ part_events p ++ es → with_dumps ps q ≡ with_dumps ps p ++ es
dumps_more [] p q es e = e
dumps_more (x ∷ xs) p q es e = ap (λ l. part_events x ++ Dumped ∷ l) (dumps_more xs p q es e) ∙ sym
    (append_assoc (part_events x) (Dumped ∷ with_dumps xs p) es)

timely_more : (low : ℕ) (clocks : List ℕ) (ps : List Part) (p q : Part) (news : List Moment) → q.news ≡ p.news ++ news
    → All (λ m. last_clock low clocks < stamp_of m) news → Timely low clocks ps p → Timely low clocks ps q
timely_more low [] [] p q news e late t = subst (All (λ m. low < stamp_of m)) (sym e)
    (All-append (λ m. low < stamp_of m) p.news news t late)
timely_more low (k ∷ ks) (x ∷ xs) p q news e late t = (t.0, t.1, timely_more k ks xs p q news e late t.2)
timely_more low [] (x ∷ xs) p q news e late t = absurd t
timely_more low (k ∷ ks) [] p q news e late t = absurd t

answers_more : (names : List (List ℕ)) (actor : ℕ) (before : List Event) (ps : List Part) (p q : Part) (es : List Event)
    → part_events q ≡ part_events p ++ es
    → q.answers ≡ p.answers ++ own_lines names actor (before ++ all_events ps p) es → Answers names actor before ps p
    → Answers names actor before ps q
answers_more names actor before [] p q es e f a =
    f ∙ ap (λ (l : List ReportLine). l ++ own_lines names actor (before ++ part_events p) es) a
    ∙ sym (own_lines-append names actor before (part_events p) es) ∙ ap (own_lines names actor before) (sym e)
answers_more names actor before (x ∷ xs) p q es e f a = (
  a.0,
  answers_more names actor (before ++ part_events x) xs p q es e
      (f ∙ ap (λ (l : List Event). p.answers ++ own_lines names actor l es)
      (sym (append_assoc before (part_events x) (all_events xs p)))) a.1,
)

-- a dump leaves an actor as it stood
dumps_state : {S : Type 0} (P : Programs S) (counts : Counts) (a : Actor S) (ps : List Part) (p : Part)
    → own_state P counts a (with_dumps ps p) ≡ own_state P counts a (all_events ps p)
dumps_state P counts a [] p = refl
dumps_state P counts a (x ∷ xs) p =
    own_state-append P counts a (part_events x) (Dumped ∷ with_dumps xs p)
    ∙ dumps_state P counts (own_state P counts a (part_events x)) xs p ∙ sym (own_state-append P counts a (part_events x) (all_events xs p))

-- ---- stamps

above : (low mid high : ℕ) (ms : List Moment) → low ≤ mid → rises mid high ms ≡ true → AllByRecursion (λ m. low < stamp_of m) ms
above low mid high [] le r = tt
above low mid high (m ∷ ms) le r =
    let here : mid < stamp_of m = grind (arith, common_steps, r) in
    let more : rises (stamp_of m) high ms ≡ true = grind (arith, common_steps, r) in
    (omega arith, above low (stamp_of m) high ms (omega arith) more)

below_high : (low high : ℕ) (ms : List Moment) → rises low high ms ≡ true → low ≤ high
below_high low high [] r = grind (arith, common_steps, r)
below_high low high (m ∷ ms) r =
    let here : low < stamp_of m = grind (arith, common_steps, r) in
    let more : rises (stamp_of m) high ms ≡ true = grind (arith, common_steps, r) in
    let h = below_high (stamp_of m) high ms more in
    omega arith

up_to : (low high : ℕ) (ms : List Moment) → rises low high ms ≡ true → AllByRecursion (λ m. stamp_of m ≤ high) ms
up_to low high [] r = tt
up_to low high (m ∷ ms) r =
    let more : rises (stamp_of m) high ms ≡ true = grind (arith, common_steps, r) in
    (below_high (stamp_of m) high ms more, up_to (stamp_of m) high ms more)

pub weaker : (a b : ℕ) (ms : List Moment) → a ≤ b → All (λ m. stamp_of m ≤ a) ms → All (λ m. stamp_of m ≤ b) ms
weaker a b ms le all = λ k d l. (let h = all k d l in omega arith)

-- ---- a part is done

module _ {S : Type 0} (P : Programs S) (counts : Counts) (names : List (List ℕ)) (done ls : List Line) (clocks : List ℕ) (r t : Racer S)
    (s : Story)
    (is : Stands P counts names done clocks r s) (ran : Ran P names ls r t) where
  abbrev es : List Event
  es = news_events ran.news ran.more

  abbrev shown : List ReportLine
  shown = own_lines names s.actor (all_events s.ended s.last) es

  abbrev grown_part : Part
  grown_part = record { news = (s.last).news ++ ran.news; silent = (s.last).silent ++ ran.more; answers = (s.last).answers ++ shown }

  pub grown_story : Story
  grown_story = with_part s grown_part

  late_part : (ran.news ≡ []) ⊎ (r.client.silent ≡ []) → (ran.news ≡ []) ⊎ ((s.last).silent ≡ [])
  late_part (inl e) = inl e
  late_part (inr e) = inr (silent_last s.ended s.last (is.silent ∙ e))

  part_more : part_events grown_part ≡ part_events s.last ++ es
  part_more = both_news (s.last).news ran.news (s.last).silent ran.more (late_part ran.adds.late)

  shown_is : own_lines names r.client.actor (events_in r.client) es ≡ shown
  shown_is =
      ap (λ (k : ℕ). own_lines names k (events_in r.client) es) (sym is.actor)
      ∙ ap (λ (l : List Event). own_lines names s.actor l es) (sym is.events)

  does_all : DoesLines s.actor None (filter (line_concerns s.actor) (done ++ ls)) (with_dumps s.ended grown_part) (busy_in P t.client)
  does_all =
      let part : DoesLines s.actor (busy_in P r.client) (filter (line_concerns s.actor) ls) es (busy_in P t.client) =
      subst (λ k. DoesLines k (busy_in P r.client) (filter (line_concerns k) ls) es (busy_in P t.client)) (sym is.actor) ran.does in
      let all = does_lines-append s.actor None (busy_in P r.client) (busy_in P t.client) (filter (line_concerns s.actor) done)
      (filter (line_concerns s.actor) ls) (with_dumps s.ended s.last) es is.does part in
      rw (filter-append (line_concerns s.actor) done ls, dumps_more s.ended s.last grown_part es part_more) all

  state_is : own_state P counts idle_actor (with_dumps s.ended s.last) ≡ state_in P r.client
  state_is =
      dumps_state P counts idle_actor s.ended s.last ∙ ap (own_state P counts idle_actor) is.events
      ∙ ap (λ (k : Counts). own_state P k idle_actor (events_in r.client)) (sym is.counts_are)

  more_at_once : OwnEndsAtOnce P counts (own_state P counts idle_actor (with_dumps s.ended s.last)) es
  more_at_once = subst (λ (a : Actor S). OwnEndsAtOnce P counts a es) (sym state_is)
      (subst (λ (k : Counts). OwnEndsAtOnce P k (state_in P r.client) es) is.counts_are ran.adds.prompt)

  all_at_once : OwnEndsAtOnce P counts idle_actor (with_dumps s.ended grown_part)
  all_at_once = subst (OwnEndsAtOnce P counts idle_actor) (sym (dumps_more s.ended s.last grown_part es part_more))
      (ends_at_once-append P counts idle_actor (with_dumps s.ended s.last) es is.prompt more_at_once)

  clock_up : r.client.clock ≤ t.client.clock
  clock_up = below_high r.client.clock t.client.clock ran.news ran.adds.stamps

  pub stands_grown : Stands P counts names (done ++ ls) clocks t grown_story
  unfolding grown_story
  stands_grown = record {
    counts_are = adds_counts P names r t ran.news ran.more ran.adds ∙ is.counts_are;
    actor = is.actor ∙ sym (adds_actor P names r t ran.news ran.more ran.adds);
    moments = moments_more s.ended s.last grown_part ran.news refl ∙ ap (λ l. l ++ ran.news) is.moments ∙ sym
        (adds_moments P names r t ran.news ran.more ran.adds);
    silent = silent_with s.ended s.last ran.more grown_part refl ∙ ap (λ l. l ++ ran.more) is.silent ∙ sym
        (adds_silent P names r t ran.news ran.more ran.adds);
    events = events_more s.ended s.last grown_part es part_more ∙ ap (λ l. l ++ es) is.events ∙ sym
        (adds_events P names r t ran.news ran.more ran.adds);
    prompt = all_at_once;
    does = does_all;
    timely = timely_more 0 clocks s.ended s.last grown_part ran.news refl
        (All-from_recursion (λ m. last_clock 0 clocks < stamp_of m) ran.news
        (above (last_clock 0 clocks) r.client.clock t.client.clock ran.news is.floor ran.adds.stamps)) is.timely;
    below = All-append (λ m. stamp_of m ≤ t.client.clock) (s.last).news ran.news
        (weaker r.client.clock t.client.clock (s.last).news clock_up is.below)
        (All-from_recursion (λ m. stamp_of m ≤ t.client.clock) ran.news (up_to r.client.clock t.client.clock ran.news ran.adds.stamps));
    floor = (let f = is.floor in let u = clock_up in omega arith);
    answers = answers_more names s.actor [] s.ended s.last grown_part es part_more refl is.answers;
    told = ran.adds.answers ∙ ap (λ l. l ++ own_lines names r.client.actor (events_in r.client) es) is.told ∙ ap
        (λ l. (s.last).answers ++ l) shown_is;
    parts = is.parts;
  }

  pub same_ended : grown_story.ended ≡ s.ended
  unfolding grown_story
  same_ended = refl
