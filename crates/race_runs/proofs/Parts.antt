-- what each client did up to the next dump, and from then on
use Rattle.std.proofs.Common.{◌≡◌, ◌≢◌, ℕ, ◌+◌, true, Some, List, [], ◌∷◌, ◌++◌, refl, sym, ap, ◌∙◌, subst, zero, suc, arith}
use Rattle.std.proofs.lemmas.List.{append-nil}
use Rattle.std.specs.List.{AllByRecursion, filter, flat_map, slice_get}
use Rattle.entry_words.specs.declared.entry.Moment.{Moment}
use Rattle.entry_words.specs.Moments.{is_of}
use Rattle.world_runs.specs.declared.event.Event.{Event}
use Rattle.world_runs.specs.declared.event.Event.TheVariants.{Dumped}
use Rattle.world_runs.specs.Races.{is_own, concerns}
use Rattle.world_runs.specs.Events.{events_of, own}
use Rattle.whole_runs.proofs.Refusals.{AreQuiet, IsQuiet}
use Rattle.whole_runs.specs.Woven.{is_early, is_late}
use Rattle.world_runs.proofs.Actors.{own-append}
use Rattle.noted_runs.proofs.Shown.{IsNoDump, silent_no_dump}
use Rattle.noted_runs.proofs.Weaving.{filter-swap}
use Rattle.race_runs.specs.Stories.{Part, Story, Timely, Answers, part_events, all_moments, all_events, with_dumps}
use Rattle.race_runs.specs.Gathered.{part_of, rest_of}
use Rattle.race_runs.proofs.Lists.{every-append, every-front, every-rest, every_weaker}
use Rattle.race_runs.proofs.Owned.{AreOwn, AllConcern, own_of_own, others_own, moments_are_plain, concerned_own}
use Rattle.race_runs.proofs.Timing.{early_news, late_news}

-- a part's events are the actor's, and those that no moment notes are of refused ops
pub record OwnPart (actor : ℕ) (p : Part) : Type 0 where
  pub noted : AreOwn actor (events_of p.news)
  pub silent : AreOwn actor p.silent
  pub quiet : AreQuiet p.silent

abbrev pub AllPartsQuiet : List Part → Type 0
AllPartsQuiet ended = AllByRecursion (λ p. AreQuiet p.silent) ended

abbrev pub OwnParts : ℕ → List Part → Part → Type 0
OwnParts actor ended last = AllByRecursion (OwnPart actor) ended × OwnPart actor last

own_part : (a : ℕ) (p : Part) → AreQuiet p.silent → AllConcern a (part_events p) → OwnPart a p
own_part a p quiet all = record {
  noted = concerned_own a (events_of p.news) (moments_are_plain p.news)
      (every-front (λ e. concerns a e ≡ true) (events_of p.news) p.silent all);
  silent = concerned_own a p.silent (every_weaker IsQuiet IsNoDump silent_no_dump p.silent quiet)
      (every-rest (λ e. concerns a e ≡ true) (events_of p.news) p.silent all);
  quiet = quiet;
}

pub own_parts : (a : ℕ) (ended : List Part) (last : Part) → AllPartsQuiet ended
    → AreQuiet last.silent
    → AllConcern a (with_dumps ended last) → OwnParts a ended last
own_parts a [] last quiet q all = (tt, own_part a last q all)
own_parts a (p ∷ ps) last quiet q all =
    let others : AllConcern a (Dumped ∷ with_dumps ps last) = every-rest (λ e. concerns a e ≡ true) (part_events p)
    (Dumped ∷ with_dumps ps last) all in
    let rest : OwnParts a ps last = own_parts a ps last quiet.1 q others.1 in
    ((own_part a p quiet.0 (every-front (λ e. concerns a e ≡ true) (part_events p) (Dumped ∷ with_dumps ps last) all), rest.0), rest.1)

part_own : (a : ℕ) (p : Part) → OwnPart a p → own a (part_events p) ≡ part_events p
part_own a p h = own_of_own a (part_events p) (every-append (λ e. is_own a e ≡ true) (events_of p.news) p.silent h.noted h.silent)

-- the client's own events, without the dumps
pub own_with_dumps : (a : ℕ) (ended : List Part) (last : Part) → OwnParts a ended last
    → own a (with_dumps ended last) ≡ all_events ended last
own_with_dumps a [] last h = part_own a last h.1
own_with_dumps a (p ∷ ps) last h =
    own-append a (part_events p) (Dumped ∷ with_dumps ps last) ∙ rw (part_own a p h.0.0, own_with_dumps a ps last (h.0.1, h.1)) refl

-- ---- what one client does from a point on

-- Behind these events, and with these moments yet to come, the client goes on so.
pub record GoesOn (names : List (List ℕ)) (low : ℕ) (clocks : List ℕ) (before : List Event) (ms : List Moment) (s : Story)
    : Type 0 where
  pub timely : Timely low clocks s.ended s.last
  pub owned : OwnParts s.actor s.ended s.last
  pub trail : filter (is_of s.actor) ms ≡ all_moments s.ended s.last
  pub answers : Answers names s.actor (own s.actor before) s.ended s.last

ended_cases : (actor low k : ℕ) (ks : List ℕ) (ended : List Part) (last : Part) → Timely low (k ∷ ks) ended last
    → let s : Story = record { actor = actor; ended = ended; last = last } in ended ≡ part_of s ∷ (rest_of s).ended
ended_cases actor low k ks [] last t = absurd t
ended_cases actor low k ks (p ∷ ps) last t = refl

pub ended_is : (low k : ℕ) (ks : List ℕ) (s : Story) → Timely low (k ∷ ks) s.ended s.last → s.ended ≡ part_of s ∷ (rest_of s).ended
ended_is low k ks s t = ended_cases s.actor low k ks s.ended s.last t

pub none_ended : (low : ℕ) (ended : List Part) (last : Part) → Timely low [] ended last → ended ≡ []
none_ended low [] last t = refl
none_ended low (p ∷ ps) last t = absurd t

-- its moments in the order of all
pub news_now : (names : List (List ℕ)) (low k : ℕ) (ks : List ℕ) (before : List Event) (ms : List Moment) (s : Story)
    → GoesOn names low (k ∷ ks) before ms s → filter (is_of s.actor) (filter (is_early k) ms) ≡ (part_of s).news
news_now names low k ks before ms s g =
    let is : s.ended ≡ part_of s ∷ (rest_of s).ended = ended_is low k ks s g.timely in
    let t : Timely low (k ∷ ks) (part_of s ∷ (rest_of s).ended) s.last = subst (λ (ps : List Part). Timely low (k ∷ ks) ps s.last) is
    g.timely in
    filter-swap (is_of s.actor) (is_early k) ms ∙ ap (λ (ns : List Moment). filter (is_early k) ns) g.trail
    ∙ ap (λ (ps : List Part). filter (is_early k) (all_moments ps s.last)) is ∙ early_news low k ks (part_of s) (rest_of s).ended s.last t

pub goes_on : (names : List (List ℕ)) (low k : ℕ) (ks : List ℕ) (before part : List Event) (ms : List Moment) (s : Story)
    → GoesOn names low (k ∷ ks) before ms s → own s.actor part ≡ part_events (part_of s)
    → GoesOn names k ks ((before ++ part) ++ Dumped ∷ []) (filter (is_late k) ms) (rest_of s)
goes_on names low k ks before part ms s g own_is =
    let is : s.ended ≡ part_of s ∷ (rest_of s).ended = ended_is low k ks s g.timely in
    let t : Timely low (k ∷ ks) (part_of s ∷ (rest_of s).ended) s.last = subst (λ (ps : List Part). Timely low (k ∷ ks) ps s.last) is
    g.timely in
    let o : OwnParts s.actor (part_of s ∷ (rest_of s).ended) s.last = subst (λ (ps : List Part). OwnParts s.actor ps s.last) is g.owned in
    let a : Answers names s.actor (own s.actor before) (part_of s ∷ (rest_of s).ended) s.last =
    subst (λ (ps : List Part). Answers names s.actor (own s.actor before) ps s.last) is g.answers in
    let past : own s.actor ((before ++ part) ++ Dumped ∷ []) ≡ own s.actor before ++ part_events (part_of s) =
    own-append s.actor (before ++ part) (Dumped ∷ []) ∙ append-nil (own s.actor (before ++ part)) ∙ own-append s.actor before part
    ∙ ap (λ (es : List Event). own s.actor before ++ es) own_is in
    record {
      timely = t.2;
      owned = (o.0.1, o.1);
      trail = filter-swap (is_of s.actor) (is_late k) ms ∙ ap (λ (ns : List Moment). filter (is_late k) ns) g.trail
          ∙ ap (λ (ps : List Part). filter (is_late k) (all_moments ps s.last)) is ∙ late_news low k ks (part_of s) (rest_of s).ended s.last
          t;
      answers = subst (λ (es : List Event). Answers names s.actor es (rest_of s).ended s.last) (sym past) a.1;
    }

-- ---- one client's among those of all

-- what is said of each client, whose actors count up from a number, holds of its events here
abbrev pub EachHas : (Story → List Event) → ℕ → List Story → Type 0
EachHas f n ss = (i : ℕ) (s : Story) → slice_get ss i ≡ Some s → (s.actor ≡ n + i) × AreOwn s.actor (f s)

each_later : (f : Story → List Event) (n : ℕ) (s : Story) (ss : List Story) → EachHas f n (s ∷ ss) → EachHas f (n + 1) ss
each_later f n s ss h i t e = let k : (t.actor ≡ n + suc i) × AreOwn t.actor (f t) = h (suc i) t e in (omega (arith, k.0), k.1)

pub own_of_none : (f : Story → List Event) (n : ℕ) (ss : List Story) → EachHas f n ss → (b : ℕ)
    → ((i : ℕ) (s : Story) → slice_get ss i ≡ Some s → b ≢ s.actor)
    → own b (flat_map f ss) ≡ []
own_of_none f n [] h b d = refl
own_of_none f n (s ∷ ss) h b d =
    own-append b (f s) (flat_map f ss)
    ∙ rw (
      others_own s.actor b (f s) (d 0 s refl) (h 0 s refl).1,
      own_of_none f (n + 1) ss (each_later f n s ss h) b
          (λ i t e. d (suc i) t e),
    ) refl

pub own_of_one : (f : Story → List Event) (n : ℕ) (ss : List Story) → EachHas f n ss → (i : ℕ) (s : Story) → slice_get ss i ≡ Some s
    → own s.actor (flat_map f ss) ≡ f s
own_of_one f n [] h i s e = absurd (cc)
own_of_one f n (r ∷ ss) h zero s e =
    let same : r ≡ s = cc in
    let here : s.actor ≡ n + 0 = (h 0 s e).0 in
    let apart : (j : ℕ) (t : Story) → slice_get ss j ≡ Some t
    → s.actor ≢ t.actor = λ j t k d. absurd (let there : t.actor ≡ n + suc j = (h (suc j) t k).0 in omega (arith, here, there, d)) in
    own-append s.actor (f r) (flat_map f ss)
    ∙ rw (own_of_none f (n + 1) ss (each_later f n r ss h) s.actor apart, same, own_of_own s.actor (f s) (h 0 s e).1) (append-nil (f s))
own_of_one f n (r ∷ ss) h (suc i) s e =
    let first : r.actor ≡ n + 0 = (h 0 r refl).0 in
    let here : s.actor ≡ n + suc i = (h (suc i) s e).0 in
    let apart : s.actor ≢ r.actor = λ d. absurd (omega (arith, first, here, d)) in
    own-append s.actor (f r) (flat_map f ss)
    ∙ rw (others_own r.actor s.actor (f r) apart (h 0 r refl).1) (own_of_one f (n + 1) ss (each_later f n r ss h) i s e)
