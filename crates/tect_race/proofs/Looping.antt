-- How far the loop over the parts of a script has come.
use Rattle.std.proofs.Common.{◌≡◌, ℕ, suc, ◌+◌, ◌<◌, ◌≤◌, ◌^◌, Some, List, [], ◌∷◌, ◌++◌, length, length-append, map, count_by}
use Rattle.std.proofs.Common.{if◌then◌else◌, refl, sym, ap, subst, ◌∙◌, arith, slice_get}
use Rattle.std.specs.List.{All, AllZip, AllByRecursion, flat_map}
use Rattle.std.proofs.lemmas.List.Sums.{sum_by-cons}
use Rattle.std.proofs.lemmas.List.Elements.{All-nil, recursion_from_All}
use Rattle.tect_ids.specs.declared.ids.Counts.{Counts}
use Rattle.tect_ids.specs.declared.script.Line.{Line}
use Rattle.tect_ids.specs.declared.script.Line.TheVariants as lines
use Rattle.tect_ids.specs.declared.script.ReportLine.{ReportLine}
use Rattle.entry_words.specs.Moments.{stamp_of}
use Rattle.whole_runs.specs.ClientStates.{all_idle}
use Rattle.clients.specs.Lives.{ClientLife, idle_life, events_in, state_in}
use Rattle.passes.specs.declared.pass.Pass.{Pass}
use Rattle.race_runs.specs.Stories.{Story}
use Rattle.race_runs.specs.Gathered.{IsLineOf, is_dump}
use Rattle.race_runs.proofs.Growing.{no_story, dumped}
use Rattle.racers.specs.declared.racer.Racer.{Racer}
use Rattle.racers.specs.Lives.{busy_in}
use Rattle.race_ends.specs.declared.ended.EndedPart.{EndedPart}
use Rattle.race_ends.specs.HaveRun.{clocks_of, HasStory, HaveRun}
use Rattle.whole_runs.specs.Standing.{IsInState}
use Rattle.tect_ids.specs.Places.{HasPlaces}
use Rattle.program_forms.specs.Kinds.{Programs}
use Rattle.racer_stories.specs.Lines.{Ran, RacersRan}
use Rattle.racer_stories.specs.Closed.{AllClosed, Closed}
use Rattle.racer_stories.specs.Done.{AreNew, IsScript}
use Rattle.racer_stories.specs.Ready.{AreRacers, IsReady, IsOfClient}
use Rattle.racer_stories.specs.Passes.{IsPassOf}
use Rattle.race_ends.specs.EndedParts.{HaveEnded}
use Rattle.tect_race.specs.Progress.{Stood}
use Rattle.racer_stories.specs.Standing.{Stands, AllStand, last_clock}
use Rattle.racer_stories.proofs.Dumps.{all_grown, all_dumped, all_told, all_parts, last_is}
use Rattle.race_ends.proofs.EndedParts.{ended_on, have_answers, clocks-append, length_clocks}
use Rattle.list_laws.proofs.Pairs.{zip_length, zip_at}
use Rattle.tect_race.proofs.Finished.{finished}
use Rattle.list_laws.proofs.Shares.{also_at}

-- ---- before the first line

by_recursion : {A : Type 0} → (P : A → Type 0) (xs : List A) → ((i : ℕ) (x : A) → slice_get xs i ≡ Some x → P x) → AllByRecursion P xs
by_recursion P [] h = tt
by_recursion P (x ∷ xs) h = (h 0 x refl, by_recursion P xs (λ i y e. h (suc i) y e))

module _ {S : Type 0} (P : Programs S) (counts : Counts) (names : List (List ℕ)) where
  abbrev Idle : Racer S → Type 0
  Idle r = (a : ℕ) × (r.client ≡ idle_life a counts) × (r.answers.items ≡ [])

  stands_new : (r : Racer S) → Idle r → Stands P counts names [] [] r (no_story r.client.actor)
  stands_new r (a, life, none) = record {
    counts_are = ap (λ (w : ClientLife). w.counts) life;
    actor = refl;
    moments = sym (ap (λ (w : ClientLife). w.moments) life);
    silent = sym (ap (λ (w : ClientLife). w.silent) life);
    events = sym (ap events_in life);
    prompt = tt;
    does = (refl, ap (busy_in P) life);
    timely = All-nil (λ m. 0 < stamp_of m);
    below = All-nil (λ m. stamp_of m ≤ r.client.clock);
    floor = omega arith;
    answers = refl;
    told = none;
    parts = refl;
  }

  all_new : (rs : List (Racer S)) → AllByRecursion Idle rs → AllStand P counts names [] [] rs (map (λ r. no_story r.client.actor) rs)
  all_new [] h = tt
  all_new (r ∷ rs) h = (stands_new r h.0, all_new rs h.1)

  pub stood_new : (ls : List Line) (rs : List (Racer S)) → AreNew counts (length names) rs → IsScript P (length names) ls
      → Stood P counts names [] ls 0 rs []
  stood_new ls rs new script = record {
    all = new.count;
    ready = record {
      own = λ i r e. ap (λ (w : ClientLife). w.actor) (new.lives i r e);
      ready = λ i r e.
          let life = new.lives i r e in
          let number : (state_in P r.client).number ≡ 0 = ap (λ (w : ClientLife). (state_in P w).number) life in
          record {
            counts_are = ap (λ (w : ClientLife). w.counts) life;
            states = all_idle;
            in_turn = script.in_turn;
            state = (ap (λ (w : ClientLife). (state_in P w).running) life, ap (λ (w : ClientLife). (state_in P w).stopped) life);
            few = (let f = script.few in omega arith);
          };
    };
    stories = map (λ r. no_story r.client.actor) rs;
    stand = all_new rs (by_recursion Idle rs (λ i r e. (i + 1, new.lives i r e, new.answers i r e)));
    ended = tt;
    dumps = refl;
    clock_is = refl;
  }

-- ---- a dump

count_cons : (x : Line) (xs : List Line) → count_by is_dump (x ∷ xs) ≡ (if is_dump x then 1 else 0) + count_by is_dump xs
count_cons x xs = sum_by-cons (λ (y : Line). if is_dump y then 1 else 0) x xs

pub count-append : (xs ys : List Line) → count_by is_dump (xs ++ ys) ≡ count_by is_dump xs + count_by is_dump ys
count-append [] ys = omega arith
count-append (x ∷ xs) ys =
    let h = count-append xs ys in
    let a = count_cons x (xs ++ ys) in
    let b = count_cons x xs in
    omega arith

pub no_dumps : (n : ℕ) (ls : List Line) → AllByRecursion (IsOfClient n) ls → count_by is_dump ls ≡ 0
no_dumps n [] h = refl
no_dumps n (lines.Client client actor act ∷ ls) h =
    let first : count_by is_dump (lines.Client client actor act ∷ ls) ≡ 0 + count_by is_dump ls = count_cons (lines.Client client actor act)
    ls in
    let rest = no_dumps n ls h.1 in
    omega arith
no_dumps n (lines.Dump ∷ ls) h = absurd h.0
no_dumps n (lines.Store counts ∷ ls) h = absurd h.0
no_dumps n (lines.Sweep ∷ ls) h = absurd h.0
no_dumps n (lines.Lose disk ∷ ls) h = absurd h.0

same_actor : {S : Type 0} (P : Programs S) (k : ℕ) (r t : Racer S) → Closed P k r t → t.client.actor ≡ r.client.actor
same_actor P k r t closed = ap (λ (w : ClientLife). w.actor) closed.client

ready_closed : {S : Type 0} (P : Programs S) (counts : Counts) (ls : List Line) (k : ℕ) (r t : Racer S) → Closed P k r t
    → IsReady P counts (lines.Dump ∷ ls) r
    → IsReady P counts ls t
ready_closed P counts ls k r t closed ready = record {
  counts_are = ap (λ (w : ClientLife). w.counts) closed.client ∙ ready.counts_are;
  states = ready.states;
  in_turn = ready.in_turn;
  state = subst (λ (w : ClientLife). IsInState (ready.states w.actor) (state_in P w)) (sym closed.client) ready.state;
  few = (let f = ready.few in let n = ap (λ (w : ClientLife). (state_in P w).number) closed.client in omega arith);
}

ready_all : {S : Type 0} (P : Programs S) (counts : Counts) (ls : List Line) (k : ℕ) (rs ts : List (Racer S)) → AllClosed P k rs ts
    → AreRacers P counts (lines.Dump ∷ ls) rs
    → AreRacers P counts ls ts
ready_all P counts ls k rs ts closed racers = record {
  own = λ i t e.
      let r = also_at ts rs i t e (sym (zip_length (Closed P k) rs ts closed)) in
      ap (λ (w : ClientLife). w.actor) (zip_at (Closed P k) rs ts i r.0 t closed r.1 e).client ∙ racers.own i r.0 r.1;
  ready = λ i t e.
      let r = also_at ts rs i t e (sym (zip_length (Closed P k) rs ts closed)) in
      ready_closed P counts ls k r.0 t (zip_at (Closed P k) rs ts i r.0 t closed r.1 e) (racers.ready i r.0 r.1);
}

lengths_of : (n m : ℕ) (ss : List Story) → n ≡ m → AllByRecursion (λ s. length s.ended ≡ n) ss → AllByRecursion (λ s. length s.ended ≡ m) ss
lengths_of n m ss e l = subst (λ k. AllByRecursion (λ (s : Story). length s.ended ≡ k) ss) e l

module _ {S : Type 0} (P : Programs S) (counts : Counts) (names : List (List ℕ)) (ls : List Line) (clocks : List ℕ) (k : ℕ)
    (low : k < 2 ^ 63) where
  all_finished : (rs ts : List (Racer S)) (ps : List Pass) (ss : List Story) → AllStand P counts names ls clocks rs ss → AllClosed P k rs ts
      → AllByRecursion (λ r. r.client.clock ≤ k) rs → AllZip IsPassOf ts ps
      → AllZip (HasStory P counts names ls clocks) ps ss
  all_finished [] [] [] [] a r high of = tt
  all_finished [] (t ∷ ts) ps ss a r high of = absurd r
  all_finished (x ∷ rs) [] ps ss a r high of = absurd r
  all_finished rs [] (p ∷ ps) ss a r high of = absurd of
  all_finished rs (t ∷ ts) [] ss a r high of = absurd of
  all_finished [] ts ps (s ∷ ss) a r high of = absurd a
  all_finished (x ∷ rs) ts ps [] a r high of = absurd a
  all_finished (x ∷ rs) (t ∷ ts) (p ∷ ps) (s ∷ ss) a r high of =
      (finished P counts names ls clocks k x t s a.0 r.0 high.0 low p of.0, all_finished rs ts ps ss a.1 r.1 high.1 of.1)

module _ {S : Type 0} (P : Programs S) (counts : Counts) (names : List (List ℕ)) (done left part : List Line) (clock : ℕ)
    (rs ts us : List (Racer S)) (es : List EndedPart)
    (stood : Stood P counts names done left clock rs es) (ran : RacersRan P names part rs ts) where
  abbrev grown : (vs : List Story) × AllStand P counts names (done ++ part) (clocks_of es) ts vs
      × (map (λ s. s.ended) vs ≡ map (λ s. s.ended) stood.stories)
  grown = all_grown P counts names done part (clocks_of es) rs ts stood.stories stood.stand ran

  lengths : AllByRecursion (λ s. length s.ended ≡ length es) grown.0
  lengths = lengths_of (length (clocks_of es)) (length es) grown.0 (length_clocks es)
      (all_parts P counts names (done ++ part) (clocks_of es) ts grown.0 grown.1)

  ended_still : HaveEnded es (map (λ s. s.ended) grown.0)
  ended_still = subst (HaveEnded es) (sym grown.2) stood.ended

  pub as_many : length ts ≡ length names
  as_many = zip_length (Ran P names part) rs ts ran ∙ stood.all

  pub stood_on : (later : List Line) (e : EndedPart) → AreRacers P counts (lines.Dump ∷ later) ts
      → AllByRecursion (IsOfClient (length names)) part → All (λ r. r.client.clock ≤ e.clock) ts → AllClosed P e.clock ts us
      → e.answers.items ≡ flat_map (λ r. r.answers.items) ts
      → Stood P counts names ((done ++ part) ++ lines.Dump ∷ []) later e.clock us (es ++ e ∷ [])
  stood_on later e ready own high closed told = record {
    all = zip_length (Closed P e.clock) ts us closed ∙ as_many;
    ready = ready_all P counts later e.clock ts us closed ready;
    stories = map dumped grown.0;
    stand = subst (λ (ks : List ℕ). AllStand P counts names ((done ++ part) ++ lines.Dump ∷ []) ks us (map dumped grown.0))
        (sym (clocks-append es e))
        (all_dumped P counts names (done ++ part) (clocks_of es) e.clock ts us grown.0 grown.1
        (recursion_from_All (λ r. r.client.clock ≤ e.clock) ts high) closed);
    ended = ended_on es e grown.0 lengths ended_still (told ∙ all_told P counts names (done ++ part) (clocks_of es) ts grown.0 grown.1);
    dumps = (
        let a = count-append (done ++ part) (lines.Dump ∷ []) in
        let b = count-append done part in
        let n = no_dumps (length names) part own in
        let one : count_by is_dump (lines.Dump ∷ []) ≡ 1 = count_cons lines.Dump [] in
        let d = stood.dumps in
        let l = length-append es (e ∷ []) in
        omega arith);
    clock_is = ap (last_clock 0) (clocks-append es e) ∙ last_is 0 e.clock (clocks_of es);
  }

  pub run_ended : (later : List Line) (k : ℕ) (ps : List Pass) (last : List ReportLine) → HasPlaces counts
      → All (IsLineOf (length names)) (done ++ part) → AreRacers P counts later ts → AllByRecursion (IsOfClient (length names)) part
      → k < 2 ^ 63 → All (λ r. r.client.clock ≤ k) ts → AllClosed P k ts us → AllZip IsPassOf us ps
      → last ≡ flat_map (λ r. r.answers.items) ts → HaveRun P counts names (done ++ part) ps es last
  run_ended later k ps last places asked ready own low high closed taken told = record {
    places = places;
    asked = asked;
    dumps = (let b = count-append done part in let n = no_dumps (length names) part own in let d = stood.dumps in omega arith);
    number = zip_length IsPassOf us ps taken ∙ zip_length (Closed P k) ts us closed ∙ as_many;
    numbered = λ i p e.
        let u = also_at ps us i p e (sym (zip_length IsPassOf us ps taken)) in
        let r = also_at us ts i u.0 u.1 (sym (zip_length (Closed P k) ts us closed)) in
        (zip_at IsPassOf us ps i u.0 p taken u.1 e).actor ∙ same_actor P k r.0 u.0 (zip_at (Closed P k) ts us i r.0 u.0 closed r.1 u.1)
        ∙ ready.own i r.0 r.1;
    stories = grown.0;
    each = all_finished P counts names (done ++ part) (clocks_of es) k low ts us ps grown.0 grown.1 closed
        (recursion_from_All (λ r. r.client.clock ≤ k) ts high) taken;
    answers = have_answers es last grown.0 lengths ended_still
        (told ∙ all_told P counts names (done ++ part) (clocks_of es) ts grown.0 grown.1);
  }
