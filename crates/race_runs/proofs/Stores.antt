-- the store behind the moments up to a dump's clock
use Rattle.std.proofs.Common.{◌≡◌, ℕ, ◌≤◌, List, [], ◌∷◌, ◌++◌, sym, ap, ◌∙◌, arith}
use Rattle.std.proofs.lemmas.List.Elements.{filter-append}
use Rattle.std.proofs.lemmas.List.{append_assoc, map-append}
use Rattle.std.specs.List.{AllByRecursion, filter}
use Rattle.store_rules.specs.Store.{Store, opening_store}
use Rattle.entry_words.specs.declared.entry.Moment.{Moment}
use Rattle.entry_words.specs.Moments.{stamp_of}
use Rattle.world_runs.specs.declared.event.Event.{Event}
use Rattle.world_runs.specs.declared.event.Event.TheVariants.{Dumped}
use Rattle.world_runs.specs.Events.{event_of, events_of}
use Rattle.world_runs.specs.Events.{StampsRise}
use Rattle.whole_runs.proofs.Refusals.{AreQuiet}
use Rattle.world_runs.specs.OwnRuns.{stored_after}
use Rattle.whole_runs.specs.Woven.{is_early, is_late}
use Rattle.whole_runs.proofs.Actors.{stored_after-append}
use Rattle.noted_runs.proofs.Weaving.{silent_replies, stamps_split}
use Rattle.race_runs.specs.Gathered.{store_at}
use Rattle.race_runs.specs.Stories.{Part, Timely}
use Rattle.race_runs.proofs.Timing.{AllUpTo, early_all, early_up_to}
use Rattle.race_runs.proofs.Lists.{every-append, every_always}

-- What was done before is what these moments say, all of which came up to the clock; then it is so of the part up to the clock too.
part_stores : (s : Store) (before : List Event) (past now : List Moment) (silent : List Event) → AreQuiet silent
    → stored_after s before ≡ stored_after s (events_of past)
    → stored_after s (before ++ (events_of now ++ silent)) ≡ stored_after s (events_of (past ++ now))
part_stores s before past now silent quiet e =
    stored_after-append s before (events_of now ++ silent) ∙ ap (λ (t : Store). stored_after t (events_of now ++ silent)) e
    ∙ stored_after-append (stored_after s (events_of past)) (events_of now) silent
    ∙ (silent_replies (stored_after (stored_after s (events_of past)) (events_of now)) silent quiet).1
    ∙ sym (stored_after-append s (events_of past) (events_of now))
    ∙ ap (λ (es : List Event). stored_after s es) (sym (map-append event_of past now))

pub part_store : (k : ℕ) (before : List Event) (past rest : List Moment) (silent : List Event) → AreQuiet silent
    → AllUpTo k past
    → stored_after opening_store before ≡ stored_after opening_store (events_of past)
    → stored_after opening_store (before ++ (events_of (filter (is_early k) rest) ++ silent)) ≡ store_at k (past ++ rest)
part_store k before past rest silent quiet up e =
    let early : filter (is_early k) (past ++ rest) ≡ past ++ filter (is_early k) rest =
    filter-append (is_early k) past rest ∙ ap (λ (ms : List Moment). ms ++ filter (is_early k) rest) (early_all k past up) in
    part_stores opening_store before past (filter (is_early k) rest) silent quiet e ∙ ap
    (λ (ms : List Moment). stored_after opening_store (events_of ms)) (sym early)

pub dumped_store : (k : ℕ) (before : List Event) (past rest : List Moment) (silent : List Event) → AreQuiet silent
    → stored_after opening_store before ≡ stored_after opening_store (events_of past)
    → stored_after opening_store ((before ++ (events_of (filter (is_early k) rest) ++ silent)) ++ Dumped ∷ [])
    ≡ stored_after opening_store (events_of (past ++ filter (is_early k) rest))
dumped_store k before past rest silent quiet e =
    stored_after-append opening_store (before ++ (events_of (filter (is_early k) rest) ++ silent)) (Dumped ∷ [])
    ∙ part_stores opening_store before past (filter (is_early k) rest) silent quiet e

-- ---- the moments before a dump, and those behind it

pub all_moments_stay : (k : ℕ) (past rest : List Moment) → StampsRise rest
    → (past ++ filter (is_early k) rest) ++ filter (is_late k) rest ≡ past ++ rest
all_moments_stay k past rest rise =
    append_assoc past (filter (is_early k) rest) (filter (is_late k) rest) ∙ ap (λ (ms : List Moment). past ++ ms)
    (stamps_split k rest rise)

pub past_up_to : (k : ℕ) (past rest : List Moment) → AllUpTo k past → AllUpTo k (past ++ filter (is_early k) rest)
past_up_to k past rest up = every-append (λ m. stamp_of m ≤ k) past (filter (is_early k) rest) up (early_up_to k rest)

-- the clocks do not fall, as far as these moments show it
abbrev pub ClocksRise : List Moment → ℕ → List ℕ → Type 0
ClocksRise ms low [] = Unit {0}
ClocksRise ms low (k ∷ ks) = AllByRecursion (λ m. stamp_of m ≤ low → stamp_of m ≤ k) ms × ClocksRise ms k ks

pub next_up_to : (low k : ℕ) (past rest : List Moment) → AllByRecursion (λ m. stamp_of m ≤ low → stamp_of m ≤ k) (past ++ rest)
    → AllUpTo low past → AllUpTo k past
next_up_to low k [] rest rises up = tt
next_up_to low k (m ∷ past) rest rises up = (rises.0 up.0, next_up_to low k past rest rises.1 up.1)

pub no_clocks_fall : (low : ℕ) (clocks : List ℕ) → ClocksRise [] low clocks
no_clocks_fall low [] = tt
no_clocks_fall low (k ∷ ks) = (tt, no_clocks_fall k ks)

pub timely_clocks_rise : (ms : List Moment) (low : ℕ) (clocks : List ℕ) (ended : List Part) (last : Part) → Timely low clocks ended last
    → ClocksRise ms low clocks
timely_clocks_rise ms low [] ended last t = tt
timely_clocks_rise ms low (k ∷ ks) [] last t = absurd t
timely_clocks_rise ms low (k ∷ ks) (p ∷ ps) last (rises, news, rest) =
    (every_always (λ m. stamp_of m ≤ low → stamp_of m ≤ k) (λ m h. omega arith) ms, timely_clocks_rise ms k ks ps last rest)
