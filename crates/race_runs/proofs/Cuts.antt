-- the events of all up to the next dump, and what of the whole history concerns one actor
use Rattle.std.proofs.Common.{◌≡◌, ◌≢◌, ℕ, ◌+◌, false, Option, Some, List, [], ◌∷◌, ◌++◌, map, refl, sym, ap, ◌∙◌, subst}
use Rattle.std.proofs.lemmas.List.Elements.{filter-append}
use Rattle.std.proofs.lemmas.Option.{slice_get-map}
use Rattle.std.specs.Option.{option_map}
use Rattle.std.specs.List.{AllByRecursion, filter, slice_get}
use Rattle.entry_words.specs.declared.entry.Moment.{Moment}
use Rattle.entry_words.specs.Moments.{is_of}
use Rattle.world_runs.specs.declared.event.Event.{Event}
use Rattle.world_runs.specs.declared.event.Event.TheVariants.{Dumped}
use Rattle.world_runs.specs.Races.{concerns}
use Rattle.world_runs.specs.Events.{events_of, own}
use Rattle.world_runs.specs.Events.{IsOwnNote}
use Rattle.whole_runs.proofs.Refusals.{AreQuiet, IsQuiet}
use Rattle.whole_runs.specs.Woven.{is_early, is_late, woven}
use Rattle.world_runs.proofs.Actors.{own-append}
use Rattle.noted_runs.proofs.Shown.{IsNoDump, silent_no_dump}
use Rattle.race_runs.specs.Stories.{Part, Story, part_events, all_moments, with_dumps}
use Rattle.race_runs.specs.Gathered.{part_of, rest_of, silent_now, silent_last, cuts_of, history_of_race}
use Rattle.race_runs.proofs.ClientLines.{dumps_at}
use Rattle.race_runs.proofs.Lists.{every-append, every-filter, every_weaker, every_piece, filter_none, mapped_at}
use Rattle.race_runs.proofs.Owned.{ArePlain, moments_are_plain, plain_own, own_moments}
use Rattle.race_runs.proofs.Parts.{OwnPart, OwnParts, GoesOn, EachHas, ended_is, none_ended, news_now, goes_on, own_of_one, own_of_none}

-- so each client goes on, and they are numbered from 1 on
abbrev pub AllGoOn : List (List ℕ) → ℕ → List ℕ → List Event → List Moment → List Story → Type 0
AllGoOn names low clocks before ms ss =
    (i : ℕ) (s : Story) → slice_get ss i ≡ Some s → (s.actor ≡ 1 + i) × GoesOn names low clocks before ms s

-- all that comes before the dump at that clock
abbrev pub part_now : ℕ → List Moment → List Story → List Event
part_now k ms ss = events_of (filter (is_early k) ms) ++ silent_now ss

abbrev pub part_last : List Moment → List Story → List Event
part_last ms ss = events_of ms ++ silent_last ss

now_own : (names : List (List ℕ)) (low k : ℕ) (ks : List ℕ) (before : List Event) (ms : List Moment) (s : Story)
    → GoesOn names low (k ∷ ks) before ms s → OwnPart s.actor (part_of s)
now_own names low k ks before ms s g =
    let o : OwnParts s.actor (part_of s ∷ (rest_of s).ended) s.last = subst (λ (ps : List Part). OwnParts s.actor ps s.last)
    (ended_is low k ks s g.timely) g.owned in
    o.0.0

now_silent : (names : List (List ℕ)) (low k : ℕ) (ks : List ℕ) (before : List Event) (ms : List Moment) (ss : List Story)
    → AllGoOn names low (k ∷ ks) before ms ss → EachHas (λ s. (part_of s).silent) 1 ss
now_silent names low k ks before ms ss go i s e = ((go i s e).0, (now_own names low k ks before ms s (go i s e).1).silent)

last_silent : (names : List (List ℕ)) (low : ℕ) (clocks : List ℕ) (before : List Event) (ms : List Moment)
    (ss : List Story)
    → AllGoOn names low clocks before ms ss → EachHas (λ s. s.last.silent) 1 ss
last_silent names low clocks before ms ss go i s e = ((go i s e).0, (go i s e).1.owned.1.silent)

pub quiet_now : (names : List (List ℕ)) (low k : ℕ) (ks : List ℕ) (before : List Event) (ms : List Moment)
    (ss : List Story)
    → AllGoOn names low (k ∷ ks) before ms ss → AreQuiet (silent_now ss)
quiet_now names low k ks before ms ss go = every_piece IsQuiet (λ s. (part_of s).silent) ss
    (λ i s e. (now_own names low k ks before ms s (go i s e).1).quiet)

pub quiet_last : (names : List (List ℕ)) (low : ℕ) (clocks : List ℕ) (before : List Event) (ms : List Moment)
    (ss : List Story)
    → AllGoOn names low clocks before ms ss → AreQuiet (silent_last ss)
quiet_last names low clocks before ms ss go = every_piece IsQuiet (λ s. s.last.silent) ss (λ i s e. (go i s e).1.owned.1.quiet)

with_silent : (ms : List Moment) (silent : List Event) → AreQuiet silent → ArePlain (events_of ms ++ silent)
with_silent ms silent q = every-append IsNoDump (events_of ms) silent (moments_are_plain ms)
    (every_weaker IsQuiet IsNoDump silent_no_dump silent q)

pub plain_now : (names : List (List ℕ)) (low k : ℕ) (ks : List ℕ) (before : List Event) (ms : List Moment)
    (ss : List Story)
    → AllGoOn names low (k ∷ ks) before ms ss → ArePlain (part_now k ms ss)
plain_now names low k ks before ms ss go = with_silent (filter (is_early k) ms) (silent_now ss)
    (quiet_now names low k ks before ms ss go)

pub plain_last : (names : List (List ℕ)) (low : ℕ) (clocks : List ℕ) (before : List Event) (ms : List Moment)
    (ss : List Story)
    → AllGoOn names low clocks before ms ss → ArePlain (part_last ms ss)
plain_last names low clocks before ms ss go = with_silent ms (silent_last ss) (quiet_last names low clocks before ms ss go)

-- ---- one client's own events of a part

pub own_now : (names : List (List ℕ)) (low k : ℕ) (ks : List ℕ) (before : List Event) (ms : List Moment) (ss : List Story)
    → AllGoOn names low (k ∷ ks) before ms ss → AllByRecursion IsOwnNote ms → (i : ℕ) (s : Story) → slice_get ss i ≡ Some s
    → own s.actor (part_now k ms ss) ≡ part_events (part_of s)
own_now names low k ks before ms ss go notes i s e =
    own-append s.actor (events_of (filter (is_early k) ms)) (silent_now ss)
    ∙ rw (
      own_moments s.actor (filter (is_early k) ms) (every-filter IsOwnNote (is_early k) ms notes),
      news_now names low k ks before ms s (go i s e).1,
      own_of_one (λ t. (part_of t).silent) 1 ss (now_silent names low k ks before ms ss go) i s e,
    ) refl

pub own_last : (names : List (List ℕ)) (low : ℕ) (before : List Event) (ms : List Moment) (ss : List Story)
    → AllGoOn names low [] before ms ss → AllByRecursion IsOwnNote ms → (i : ℕ) (s : Story) → slice_get ss i ≡ Some s
    → own s.actor (part_last ms ss) ≡ part_events s.last
own_last names low before ms ss go notes i s e =
    let g : GoesOn names low [] before ms s = (go i s e).1 in
    let trail : filter (is_of s.actor) ms ≡ s.last.news = g.trail ∙ ap (λ (ps : List Part). all_moments ps s.last)
    (none_ended low s.ended s.last g.timely) in
    own-append s.actor (events_of ms) (silent_last ss)
    ∙ rw (own_moments s.actor ms notes, trail, own_of_one (λ t. t.last.silent) 1 ss (last_silent names low [] before ms ss go) i s e)
    refl

-- ---- behind a dump

pub last_stays : (ss : List Story) → silent_last (map rest_of ss) ≡ silent_last ss
last_stays [] = refl
last_stays (s ∷ ss) = ap (λ (es : List Event). s.last.silent ++ es) (last_stays ss)

pub history_next : (k : ℕ) (ks : List ℕ) (ss : List Story) (ms : List Moment)
    → history_of_race (k ∷ ks) ss ms ≡ part_now k ms ss ++ Dumped ∷ history_of_race ks (map rest_of ss) (filter (is_late k) ms)
history_next k ks ss ms =
    ap (λ (es : List Event). part_now k ms ss ++ Dumped ∷ woven (cuts_of ks (map rest_of ss)) es (filter (is_late k) ms))
    (sym (last_stays ss))

pub all_go_on : (names : List (List ℕ)) (low k : ℕ) (ks : List ℕ) (before : List Event) (ms : List Moment)
    (ss : List Story)
    → AllGoOn names low (k ∷ ks) before ms ss → AllByRecursion IsOwnNote ms
    → AllGoOn names k ks ((before ++ part_now k ms ss) ++ Dumped ∷ []) (filter (is_late k) ms) (map rest_of ss)
all_go_on names low k ks before ms ss go notes i t e =
    let at : (s : Story) × (slice_get ss i ≡ Some s) × (t ≡ rest_of s) = mapped_at rest_of ss i t e in
    let s : Story = at.0 in
    let here : (s.actor ≡ 1 + i) × GoesOn names low (k ∷ ks) before ms s = go i s at.1 in
    let next : GoesOn names k ks ((before ++ part_now k ms ss) ++ Dumped ∷ []) (filter (is_late k) ms) (rest_of s) =
    goes_on names low k ks before (part_now k ms ss) ms s here.1 (own_now names low k ks before ms ss go notes i s at.1) in
    subst (λ (r : Story). (r.actor ≡ 1 + i)
    × GoesOn names k ks ((before ++ part_now k ms ss) ++ Dumped ∷ []) (filter (is_late k) ms) r) (sym at.2) (here.0, next)

-- ---- what concerns one actor

-- of an actor that is no client there are the dumps alone
abbrev pub IsStranger : ℕ → List Story → Type 0
IsStranger b ss = (i : ℕ) (s : Story) → slice_get ss i ≡ Some s → b ≢ s.actor

concerns_dump : (a : ℕ) (part es : List Event) → ArePlain part
    → filter (concerns a) (part ++ Dumped ∷ es) ≡ own a part ++ Dumped ∷ filter (concerns a) es
concerns_dump a part es plain = filter-append (concerns a) part (Dumped ∷ es) ∙ ap
    (λ (fs : List Event). fs ++ Dumped ∷ filter (concerns a) es) (plain_own a part plain)

mapped_here : (ss : List Story) (i : ℕ) (s : Story) → slice_get ss i ≡ Some s → slice_get (map rest_of ss) i ≡ Some (rest_of s)
mapped_here ss i s e = slice_get-map rest_of ss i ∙ ap (λ (o : Option Story). option_map rest_of o) e

stranger_stays : (b : ℕ) (ss : List Story) → IsStranger b ss → IsStranger b (map rest_of ss)
stranger_stays b ss h i t e =
    let at : (s : Story) × (slice_get ss i ≡ Some s) × (t ≡ rest_of s) = mapped_at rest_of ss i t e in
    let apart : b ≢ at.0.actor = h i at.0 at.1 in
    λ d. apart (d ∙ ap (λ (r : Story). r.actor) at.2)

-- a client's own events with the dumps
pub client_concerns : (names : List (List ℕ)) (low : ℕ) (clocks : List ℕ) (before : List Event) (ms : List Moment)
    (ss : List Story)
    → AllGoOn names low clocks before ms ss → AllByRecursion IsOwnNote ms → (i : ℕ) (s : Story) → slice_get ss i ≡ Some s
    → filter (concerns s.actor) (history_of_race clocks ss ms) ≡ with_dumps s.ended s.last
client_concerns names low [] before ms ss go notes i s e =
    plain_own s.actor (part_last ms ss) (plain_last names low [] before ms ss go) ∙ own_last names low before ms ss go notes i
    s e
    ∙ ap (λ (ps : List Part). with_dumps ps s.last) (sym (none_ended low s.ended s.last (go i s e).1.timely))
client_concerns names low (k ∷ ks) before ms ss go notes i s e =
    let next : AllGoOn names k ks ((before ++ part_now k ms ss) ++ Dumped ∷ []) (filter (is_late k) ms) (map rest_of ss) =
    all_go_on names low k ks before ms ss go notes in
    let rest : filter (concerns s.actor) (history_of_race ks (map rest_of ss) (filter (is_late k) ms)) ≡ with_dumps (rest_of s).ended s.last
    =
    client_concerns names k ks ((before ++ part_now k ms ss) ++ Dumped ∷ []) (filter (is_late k) ms) (map rest_of ss) next
    (every-filter IsOwnNote (is_late k) ms notes) i (rest_of s) (mapped_here ss i s e) in
    ap (λ (es : List Event). filter (concerns s.actor) es) (history_next k ks ss ms)
    ∙ concerns_dump s.actor (part_now k ms ss) (history_of_race ks (map rest_of ss) (filter (is_late k) ms))
    (plain_now names low k ks before ms ss go)
    ∙ rw (own_now names low k ks before ms ss go notes i s e, rest)
    (ap (λ (ps : List Part). with_dumps ps s.last) (sym (ended_is low k ks s (go i s e).1.timely)))

own_stranger : (b : ℕ) (ms : List Moment) (silent : List Event) → AllByRecursion IsOwnNote ms → AllByRecursion (λ m. is_of b m ≡ false) ms
    → own b silent ≡ []
    → own b (events_of ms ++ silent) ≡ []
own_stranger b ms silent notes others none = own-append b (events_of ms) silent ∙ rw
    (own_moments b ms notes, filter_none (is_of b) ms others, none) refl

pub stranger_concerns : (names : List (List ℕ)) (low : ℕ) (clocks : List ℕ) (before : List Event) (ms : List Moment)
    (ss : List Story)
    → AllGoOn names low clocks before ms ss → AllByRecursion IsOwnNote ms → (b : ℕ) → IsStranger b ss
    → AllByRecursion (λ m. is_of b m ≡ false) ms
    → filter (concerns b) (history_of_race clocks ss ms) ≡ dumps_at clocks
stranger_concerns names low [] before ms ss go notes b stranger others =
    plain_own b (part_last ms ss) (plain_last names low [] before ms ss go)
    ∙ own_stranger b ms (silent_last ss) notes others
    (own_of_none (λ t. t.last.silent) 1 ss (last_silent names low [] before ms ss go) b stranger)
stranger_concerns names low (k ∷ ks) before ms ss go notes b stranger others =
    let next : AllGoOn names k ks ((before ++ part_now k ms ss) ++ Dumped ∷ []) (filter (is_late k) ms) (map rest_of ss) =
    all_go_on names low k ks before ms ss go notes in
    let rest : filter (concerns b) (history_of_race ks (map rest_of ss) (filter (is_late k) ms)) ≡ dumps_at ks =
    stranger_concerns names k ks ((before ++ part_now k ms ss) ++ Dumped ∷ []) (filter (is_late k) ms) (map rest_of ss) next
    (every-filter IsOwnNote (is_late k) ms notes) b (stranger_stays b ss stranger)
    (every-filter (λ m. is_of b m ≡ false) (is_late k) ms others) in
    let none : own b (part_now k ms ss) ≡ [] =
    own_stranger b (filter (is_early k) ms) (silent_now ss) (every-filter IsOwnNote (is_early k) ms notes)
    (every-filter (λ m. is_of b m ≡ false) (is_early k) ms others)
    (own_of_none (λ t. (part_of t).silent) 1 ss (now_silent names low k ks before ms ss go) b stranger) in
    ap (λ (es : List Event). filter (concerns b) es) (history_next k ks ss ms)
    ∙ concerns_dump b (part_now k ms ss) (history_of_race ks (map rest_of ss) (filter (is_late k) ms))
    (plain_now names low k ks before ms ss go)
    ∙ rw (none, rest) refl
