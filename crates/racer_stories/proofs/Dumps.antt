-- The stories of all clients, when a dump ends a part.
use Rattle.std.proofs.Common.{◌≡◌, ℕ, ◌+◌, ◌≤◌, max, None, List, [], ◌∷◌, ◌++◌, length, length-append, map, filter, refl, sym, ap}
use Rattle.std.proofs.Common.{subst, ◌∙◌, arith}
use Rattle.std.specs.List.{AllByRecursion, flat_map}
use Rattle.std.proofs.lemmas.List.Elements.{All-nil, filter-append}
use Rattle.tect_ids.specs.declared.ids.Counts.{Counts}
use Rattle.tect_ids.specs.declared.script.Line.{Line}
use Rattle.tect_ids.specs.declared.script.Line.TheVariants as lines
use Rattle.program_forms.specs.Kinds.{Programs}
use Rattle.entry_words.specs.Moments.{stamp_of}
use Rattle.world_runs.specs.declared.event.Event.TheVariants.{Dumped}
use Rattle.world_runs.specs.Races.{line_concerns}
use Rattle.world_runs.specs.Actors.{idle_actor}
use Rattle.whole_runs.specs.ClientLines.{DoesLines}
use Rattle.world_runs.specs.Smooth.{OwnEndsAtOnce}
use Rattle.world_runs.proofs.Prompt.{ends_at_once-append}
use Rattle.clients.specs.Lives.{ClientLife, events_in}
use Rattle.race_runs.specs.Stories.{Story, with_dumps}
use Rattle.race_runs.proofs.Growing as growing
use Rattle.race_runs.proofs.Growing.{no_part, dumped, moments_dumped, events_dumped, dumps_dumped, timely_dumped, answers_dumped}
use Rattle.racers.specs.declared.racer.Racer.{Racer}
use Rattle.racers.specs.Lives.{busy_in}
use Rattle.racer_stories.specs.Closed.{Closed, AllClosed}
use Rattle.racer_stories.specs.Lines.{RacersRan}
use Rattle.racer_stories.specs.Standing.{Stands, AllStand, last_clock}
use Rattle.noted_runs.proofs.Following.{does_lines-append}
use Rattle.racer_stories.proofs.Stories.{silent_dumped, grown_story, stands_grown, same_ended, weaker}

same_last : (low : ℕ) (clocks : List ℕ) → growing.last_clock low clocks ≡ last_clock low clocks
same_last low [] = refl
same_last low (k ∷ ks) = same_last k ks

pub last_is : (low k : ℕ) (clocks : List ℕ) → last_clock low (clocks ++ k ∷ []) ≡ k
last_is low k [] = refl
last_is low k (j ∷ js) = last_is j k js

module _ {S : Type 0} (P : Programs S) (counts : Counts) (names : List (List ℕ)) (done : List Line) (clocks : List ℕ) (r t : Racer S)
    (s : Story)
    (is : Stands P counts names done clocks r s)
    (k : ℕ) (high : r.client.clock ≤ k) (closed : Closed P k r t) where
  clock_is : t.client.clock ≡ k
  clock_is = ap (λ (w : ClientLife). w.clock) closed.client ∙ (let e : max r.client.clock k ≡ k = omega arith in e)

  does_dump : DoesLines s.actor None (filter (line_concerns s.actor) (done ++ lines.Dump ∷ []))
      (with_dumps (s.ended ++ s.last ∷ []) no_part) (busy_in P t.client)
  does_dump =
      let same : busy_in P t.client ≡ busy_in P r.client = ap (busy_in P) closed.client in
      let all = does_lines-append s.actor None (busy_in P r.client) (busy_in P r.client) (filter (line_concerns s.actor) done)
      (lines.Dump ∷ [])
      (with_dumps s.ended s.last) (Dumped ∷ []) is.does ([], refl, (refl, refl)) in
      rw (filter-append (line_concerns s.actor) done (lines.Dump ∷ []), dumps_dumped s.ended s.last, same) all

  pub stands_dumped : Stands P counts names (done ++ lines.Dump ∷ []) (clocks ++ k ∷ []) t (dumped s)
  stands_dumped = record {
    counts_are = ap (λ (w : ClientLife). w.counts) closed.client ∙ is.counts_are;
    actor = is.actor ∙ sym (ap (λ (w : ClientLife). w.actor) closed.client);
    moments = moments_dumped s.ended s.last ∙ is.moments ∙ sym (ap (λ (w : ClientLife). w.moments) closed.client);
    silent = silent_dumped s.ended s.last ∙ is.silent ∙ sym (ap (λ (w : ClientLife). w.silent) closed.client);
    events = events_dumped s.ended s.last ∙ is.events ∙ sym (ap events_in closed.client);
    prompt = subst (OwnEndsAtOnce P counts idle_actor) (sym (dumps_dumped s.ended s.last))
        (ends_at_once-append P counts idle_actor (with_dumps s.ended s.last) (Dumped ∷ []) is.prompt (tt, tt));
    does = does_dump;
    timely = timely_dumped 0 clocks k s.ended s.last is.timely (let f = is.floor in let e = same_last 0 clocks in omega arith)
        (weaker r.client.clock k (s.last).news high is.below);
    below = All-nil (λ m. stamp_of m ≤ t.client.clock);
    floor = (let e = last_is 0 k clocks in let c = clock_is in omega arith);
    answers = answers_dumped names s.actor [] s.ended s.last is.answers;
    told = closed.answers;
    parts = length-append s.ended (s.last ∷ []) ∙ ap (λ n. n + 1) is.parts ∙ sym (length-append clocks (k ∷ []));
  }

-- ---- all clients

pub all_grown : {S : Type 0} (P : Programs S) (counts : Counts) (names : List (List ℕ)) (done ls : List Line) (clocks : List ℕ)
    (rs ts : List (Racer S)) (ss : List Story)
    → AllStand P counts names done clocks rs ss → RacersRan P names ls rs ts
    → (us : List Story) × AllStand P counts names (done ++ ls) clocks ts us × (map (λ s. s.ended) us ≡ map (λ s. s.ended) ss)
all_grown P counts names done ls clocks [] [] [] a r = ([], tt, refl)
all_grown P counts names done ls clocks [] (t ∷ ts) ss a r = absurd r
all_grown P counts names done ls clocks (x ∷ rs) [] ss a r = absurd r
all_grown P counts names done ls clocks [] [] (s ∷ ss) a r = absurd a
all_grown P counts names done ls clocks (x ∷ rs) (t ∷ ts) [] a r = absurd a
all_grown P counts names done ls clocks (x ∷ rs) (t ∷ ts) (s ∷ ss) a r =
    let rest = all_grown P counts names done ls clocks rs ts ss a.1 r.1 in (
      grown_story P counts names done ls clocks x t s a.0 r.0 ∷ rest.0,
      (stands_grown P counts names done ls clocks x t s a.0 r.0, rest.1),
      ap (λ e. e ∷ map (λ (u : Story). u.ended) rest.0) (same_ended P counts names done ls clocks x t s a.0 r.0) ∙ ap (λ l. s.ended ∷ l)
          rest.2,
    )

pub all_dumped : {S : Type 0} (P : Programs S) (counts : Counts) (names : List (List ℕ)) (done : List Line) (clocks : List ℕ) (k : ℕ)
    (rs ts : List (Racer S))
    (ss : List Story) → AllStand P counts names done clocks rs ss
    → AllByRecursion (λ r. r.client.clock ≤ k) rs → AllClosed P k rs ts
    → AllStand P counts names (done ++ lines.Dump ∷ []) (clocks ++ k ∷ []) ts (map dumped ss)
all_dumped P counts names done clocks k [] [] [] a h r = tt
all_dumped P counts names done clocks k [] (t ∷ ts) ss a h r = absurd r
all_dumped P counts names done clocks k (x ∷ rs) [] ss a h r = absurd r
all_dumped P counts names done clocks k [] [] (s ∷ ss) a h r = absurd a
all_dumped P counts names done clocks k (x ∷ rs) (t ∷ ts) [] a h r = absurd a
all_dumped P counts names done clocks k (x ∷ rs) (t ∷ ts) (s ∷ ss) a h r =
    (stands_dumped P counts names done clocks x t s a.0 k h.0 r.0, all_dumped P counts names done clocks k rs ts ss a.1 h.1 r.1)

-- the clients' answers are those of their last parts
pub all_told : {S : Type 0} (P : Programs S) (counts : Counts) (names : List (List ℕ)) (done : List Line) (clocks : List ℕ)
    (rs : List (Racer S)) (ss : List Story)
    → AllStand P counts names done clocks rs ss
    → flat_map (λ r. r.answers.items) rs ≡ flat_map (λ s. s.last.answers) ss
all_told P counts names done clocks [] [] a = refl
all_told P counts names done clocks [] (s ∷ ss) a = absurd a
all_told P counts names done clocks (r ∷ rs) [] a = absurd a
all_told P counts names done clocks (r ∷ rs) (s ∷ ss) a =
    ap (λ l. l ++ flat_map (λ (x : Racer _). x.answers.items) rs) (a.0).told ∙ ap (λ l. (s.last).answers ++ l)
    (all_told P counts names done clocks rs ss a.1)

pub all_parts : {S : Type 0} (P : Programs S) (counts : Counts) (names : List (List ℕ)) (done : List Line) (clocks : List ℕ)
    (rs : List (Racer S)) (ss : List Story)
    → AllStand P counts names done clocks rs ss
    → AllByRecursion (λ s. length s.ended ≡ length clocks) ss
all_parts P counts names done clocks [] [] a = tt
all_parts P counts names done clocks [] (s ∷ ss) a = absurd a
all_parts P counts names done clocks (r ∷ rs) [] a = absurd a
all_parts P counts names done clocks (r ∷ rs) (s ∷ ss) a = ((a.0).parts, all_parts P counts names done clocks rs ss a.1)
