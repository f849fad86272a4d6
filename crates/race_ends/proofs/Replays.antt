-- the store behind moments whose transactions are done again
use Rattle.std.proofs.Common.{◌≡◌, ℕ, zero, suc, ◌+◌, ◌<◌, ◌≤◌, List, [], ◌∷◌, ◌++◌, length, get_or, take, drop, refl, sym, ap, ◌∙◌, arith}
use Rattle.std.proofs.Common.{true, false, not, subst}
use Rattle.std.proofs.lemmas.List.{map-append, take_more}
use Rattle.std.proofs.lemmas.List.Elements.{filter-append, recursion_from_All}
use Rattle.std.specs.List.{AllByRecursion, All, filter}
use Rattle.all_shards.specs.Whole.{WholeStore}
use Rattle.tect_ids.specs.declared.ids.OpId.{OpId}
use Rattle.tect_ids.specs.declared.answer.Answer.{Answer}
use Rattle.tect_ids.specs.declared.answer.Answer.TheVariants as answers
use Rattle.store_rules.specs.Store.{Store, opening_store}
use Rattle.entry_words.specs.declared.entry.Moment.{Moment}
use Rattle.entry_words.specs.declared.entry.Moment.TheVariants.{Act, Local}
use Rattle.entry_words.specs.declared.entry.Note.TheVariants as notes
use Rattle.entry_words.specs.Moments.{stamp_of}
use Rattle.world_runs.specs.declared.event.Event.{Event}
use Rattle.world_runs.specs.Events.{event_of, events_of, end_event}
use Rattle.world_runs.specs.Events.{StampsRise}
use Rattle.world_runs.specs.OwnRuns.{stored_after}
use Rattle.whole_runs.specs.Woven.{is_early, is_late}
use Rattle.whole_runs.proofs.Actors.{stored_after-append}
use Rattle.race_runs.specs.Gathered.{store_at}
use Rattle.race_runs.proofs.Lists.{every-append, every_weaker, filter_all, filter_none}
use Rattle.race_runs.proofs.Stores.{all_moments_stay, next_up_to, past_up_to}
use Rattle.race_runs.proofs.Timing.{AllUpTo, AllAbove, early_all}
use Rattle.race_ends.specs.Told.{after_moment, stored_up_to}

-- ---- one moment more

after_end : (s : Store) (op : OpId) (a : Answer) → stored_after s (end_event op a ∷ []) ≡ s
after_end s op answers.NoMemory = refl
after_end s op (answers.HistoryFull p) = refl
after_end s op _ = refl

after_one : (s : Store) (m : Moment) → stored_after s (event_of m ∷ []) ≡ after_moment s m
after_one s (Act e h) = refl
after_one s (Local stamp actor (notes.Began op c)) = refl
after_one s (Local stamp actor (notes.Ended op a)) = after_end s op a
after_one s (Local stamp actor (notes.Stopped op)) = refl

pub one_more : (s : Store) (ms : List Moment) (m : Moment)
    → stored_after s (events_of (ms ++ m ∷ [])) ≡ after_moment (stored_after s (events_of ms)) m
one_more s ms m =
    ap (λ (es : List Event). stored_after s es) (map-append event_of ms (m ∷ [])) ∙ stored_after-append s (events_of ms) (event_of m ∷ [])
    ∙ after_one (stored_after s (events_of ms)) m

pub next_early : (k i : ℕ) (ms : List Moment) (m : Moment) → i < length ms → m ≡ get_or ms i m → AllUpTo k (take i ms) → stamp_of m ≤ k
    → AllUpTo k (take (i + 1) ms)
next_early k i ms m within here up early =
    let at : stamp_of (get_or ms i m) ≤ k = subst (λ (n : Moment). stamp_of n ≤ k) here early in
    subst (λ (ns : List Moment). AllUpTo k ns) (sym (take_more ms i m within))
    (every-append (λ n. stamp_of n ≤ k) (take i ms) (get_or ms i m ∷ []) up (at, tt))

-- the shards whose store is that after these moments
abbrev pub after_all : WholeStore → List Moment → WholeStore
after_all w ms = record w { store = stored_after w.store (events_of ms) }

pub next_shards : (w v u : WholeStore) (i : ℕ) (ms : List Moment) (m : Moment) → i < length ms → m ≡ get_or ms i m
    → v ≡ after_all w (take i ms)
    → u ≡ record v { store = after_moment v.store m } → u ≡ after_all w (take (i + 1) ms)
next_shards w v u i ms m within here so_far next =
    let whole : take (i + 1) ms ≡ take i ms ++ m ∷ [] = take_more ms i m within ∙ ap (λ (n : Moment). take i ms ++ n ∷ []) (sym here) in
    next ∙ ap (λ (x : WholeStore). record x { store = after_moment x.store m }) so_far
    ∙ ap (λ (t : Store). record w { store = t }) (sym (one_more w.store (take i ms) m)) ∙ ap (λ (ns : List Moment). after_all w ns)
    (sym whole)

-- ---- where the moments that are stamped up to a number end

early_is : (k : ℕ) (m : Moment) → stamp_of m ≤ k → is_early k m ≡ true
early_is k m h = grind arith

late_is : (k : ℕ) (m : Moment) → k < stamp_of m → is_early k m ≡ false
late_is k m h = grind arith

none_early : (k : ℕ) (ms : List Moment) → AllAbove k ms → filter (is_early k) ms ≡ []
none_early k ms h = filter_none (is_early k) ms (every_weaker (λ m. k < stamp_of m) (λ m. is_early k m ≡ false) (late_is k) ms h)

all_late : (k : ℕ) (ms : List Moment) → AllAbove k ms → filter (is_late k) ms ≡ ms
all_late k ms h = filter_all (is_late k) ms
    (every_weaker (λ m. k < stamp_of m) (λ m. is_late k m ≡ true) (λ m u. ap not (late_is k m u)) ms h)

none_late : (k : ℕ) (ms : List Moment) → AllUpTo k ms → filter (is_late k) ms ≡ []
none_late k ms h = filter_none (is_late k) ms
    (every_weaker (λ m. stamp_of m ≤ k) (λ m. is_late k m ≡ false) (λ m u. ap not (early_is k m u)) ms h)

above_from : (k : ℕ) (m : Moment) (ms : List Moment) → StampsRise (m ∷ ms) → k < stamp_of m → AllAbove k (m ∷ ms)
above_from k m ms rise h = (
  h,
  every_weaker (λ n. stamp_of m ≤ stamp_of n) (λ n. k < stamp_of n) (λ n l. omega arith) ms
      (recursion_from_All (λ n. stamp_of m ≤ stamp_of n) ms rise.0),
)

-- the first ones are stamped up to it, and the next one is not
pub early_are : (k i : ℕ) (ms : List Moment) (d : Moment) → StampsRise ms → AllUpTo k (take i ms) → i < length ms
    → k < stamp_of (get_or ms i d)
    → filter (is_early k) ms ≡ take i ms
early_are k i [] d rise up within late = absurd (omega arith)
early_are k zero (m ∷ ms) d rise up within late = none_early k (m ∷ ms) (above_from k m ms rise late)
early_are k (suc i) (m ∷ ms) d rise up within late =
    let here : is_early k m ≡ true = early_is k m up.0 in
    rw here (ap (λ (ns : List Moment). m ∷ ns) (early_are k i ms d rise.1 up.1 (omega arith) late))

pub late_are : (k i : ℕ) (ms : List Moment) (d : Moment) → StampsRise ms → AllUpTo k (take i ms) → i < length ms
    → k < stamp_of (get_or ms i d)
    → filter (is_late k) ms ≡ drop i ms
late_are k i [] d rise up within late = absurd (omega arith)
late_are k zero (m ∷ ms) d rise up within late = all_late k (m ∷ ms) (above_from k m ms rise late)
late_are k (suc i) (m ∷ ms) d rise up within late =
    let here : is_early k m ≡ true = early_is k m up.0 in
    rw here (late_are k i ms d rise.1 up.1 (omega arith) late)

pub none_is_late : (k : ℕ) (ms : List Moment) → AllUpTo k ms → filter (is_late k) ms ≡ []
none_is_late k ms up = none_late k ms up

pub all_are_early : (k : ℕ) (ms : List Moment) → AllUpTo k ms → filter (is_early k) ms ≡ ms
all_are_early k ms up = early_all k ms up

-- ---- from one dump to the next

rest_rises : (past later : List Moment) → StampsRise (past ++ later) → StampsRise later
rest_rises [] later r = r
rest_rises (m ∷ past) later r = rest_rises past later r.1

-- the store after the moments that are stamped up to a number, and those behind them
pub record Replayed (ms later : List Moment) (low : ℕ) (s : Store) : Type 0 where
  past : List Moment
  whole : past ++ later ≡ ms
  early : AllUpTo low past
  store : s ≡ stored_after opening_store (events_of past)

pub none_replayed : (ms : List Moment) → Replayed ms ms 0 opening_store
none_replayed ms = record { past = []; whole = refl; early = tt; store = refl }

pub later_rise : (ms later : List Moment) (low : ℕ) (s : Store) → Replayed ms later low s → StampsRise ms → StampsRise later
later_rise ms later low s r rise = rest_rises r.past later (subst (λ (ns : List Moment). StampsRise ns) (sym r.whole) rise)

module _ (ms later : List Moment) (low : ℕ) (s : Store) (r : Replayed ms later low s) (rise : StampsRise ms) (k : ℕ)
    (rises : All (λ m. stamp_of m ≤ low → stamp_of m ≤ k) ms) where
  up : AllUpTo k r.past
  up = next_up_to low k r.past later
      (subst (λ (ns : List Moment). AllByRecursion (λ m. stamp_of m ≤ low → stamp_of m ≤ k) ns) (sym r.whole)
      (recursion_from_All (λ m. stamp_of m ≤ low → stamp_of m ≤ k) ms rises))
      r.early

  store_is : stored_up_to k s later ≡ stored_after opening_store (events_of (r.past ++ filter (is_early k) later))
  store_is =
      ap (λ (t : Store). stored_up_to k t later) r.store ∙ sym
      (stored_after-append opening_store (events_of r.past) (events_of (filter (is_early k) later)))
      ∙ ap (λ (es : List Event). stored_after opening_store es) (sym (map-append event_of r.past (filter (is_early k) later)))

  pub next_replayed : Replayed ms (filter (is_late k) later) k (stored_up_to k s later)
  next_replayed = record {
    past = r.past ++ filter (is_early k) later;
    whole = all_moments_stay k r.past later (later_rise ms later low s r rise) ∙ r.whole;
    early = past_up_to k r.past later up;
    store = store_is;
  }

  pub next_store : stored_up_to k s later ≡ store_at k ms
  next_store =
      let early_are_those : filter (is_early k) ms ≡ r.past ++ filter (is_early k) later =
      ap (λ (ns : List Moment). filter (is_early k) ns) (sym r.whole) ∙ filter-append (is_early k) r.past later
      ∙ ap (λ (ns : List Moment). ns ++ filter (is_early k) later) (early_all k r.past up) in
      store_is ∙ ap (λ (ns : List Moment). stored_after opening_store (events_of ns)) (sym early_are_those)
