-- a story that goes on: its last part has more in it, and a dump ends that part
use Rattle.std.proofs.Common.{◌≡◌, ℕ, ◌<◌, ◌≤◌, List, [], ◌∷◌, ◌++◌, refl, sym, ap, ◌∙◌, subst, append_assoc}
use Rattle.std.proofs.lemmas.List.{append-nil}
use Rattle.std.proofs.lemmas.List.Elements.{All-nil, recursion_from_All, All-from_recursion}
use Rattle.std.specs.List.{AllByRecursion, All}
use Rattle.tect_ids.specs.declared.ids.Counts.{Counts}
use Rattle.entry_words.specs.declared.entry.Moment.{Moment}
use Rattle.entry_words.specs.Moments.{stamp_of}
use Rattle.world_runs.specs.declared.event.Event.{Event}
use Rattle.world_runs.specs.declared.event.Event.TheVariants.{Dumped}
use Rattle.program_forms.specs.Kinds.{Programs}
use Rattle.world_runs.specs.Actors.{Actor}
use Rattle.world_runs.specs.OwnRuns.{own_state}
use Rattle.world_runs.specs.Refusals.{AreOfRefused}
use Rattle.world_runs.specs.Smooth.{OwnEndsAtOnce}
use Rattle.world_runs.proofs.Actors.{own_state-append}
use Rattle.world_runs.proofs.Prompt.{ends_at_once-append}
use Rattle.whole_runs.proofs.Refusals.{of_refused-front, of_refused-rest}
use Rattle.race_runs.specs.Stories.{Part, Story, SilentAfter, Timely, Answers, part_events, all_moments, all_events, with_dumps}

abbrev pub no_part : Part
no_part = record { news = []; silent = []; answers = [] }

-- the client before its lines
abbrev pub no_story : ℕ → Story
no_story actor = record { actor = actor; ended = []; last = no_part }

-- the story with this as its last part, of which nothing was done before
abbrev pub with_part : Story → Part → Story
with_part s p = record s { last = p }

-- the story behind a dump
abbrev pub dumped : Story → Story
dumped s = record s { ended = s.ended ++ s.last ∷ []; last = no_part }

-- the clock at the last dump
abbrev pub last_clock : ℕ → List ℕ → ℕ
last_clock low [] = low
last_clock low (k ∷ ks) = last_clock k ks

-- ---- moments and events

pub moments_dumped : (ended : List Part) (p : Part) → all_moments (ended ++ p ∷ []) no_part ≡ all_moments ended p
moments_dumped [] p = append-nil p.news
moments_dumped (q ∷ qs) p = ap (λ (ms : List Moment). q.news ++ ms) (moments_dumped qs p)

pub events_dumped : (ended : List Part) (p : Part) → all_events (ended ++ p ∷ []) no_part ≡ all_events ended p
events_dumped [] p = append-nil (part_events p)
events_dumped (q ∷ qs) p = ap (λ (es : List Event). part_events q ++ es) (events_dumped qs p)

pub dumps_with : (ended : List Part) (p : Part) → with_dumps ended p ≡ with_dumps ended no_part ++ part_events p
dumps_with [] p = refl
dumps_with (q ∷ qs) p =
    ap (λ (es : List Event). part_events q ++ Dumped ∷ es) (dumps_with qs p) ∙ sym
    (append_assoc (part_events q) (Dumped ∷ with_dumps qs no_part) (part_events p))

pub dumps_dumped : (ended : List Part) (p : Part) → with_dumps (ended ++ p ∷ []) no_part ≡ with_dumps ended p ++ Dumped ∷ []
dumps_dumped [] p = refl
dumps_dumped (q ∷ qs) p =
    ap (λ (es : List Event). part_events q ++ Dumped ∷ es) (dumps_dumped qs p) ∙ sym
    (append_assoc (part_events q) (Dumped ∷ with_dumps qs p) (Dumped ∷ []))

-- ---- clocks

between : (low k : ℕ) (ms : List Moment) → AllByRecursion (λ m. low < stamp_of m) ms → AllByRecursion (λ m. stamp_of m ≤ k) ms
    → AllByRecursion (λ m. (low < stamp_of m) × (stamp_of m ≤ k)) ms
between low k [] above up = tt
between low k (m ∷ ms) above up = ((above.0, up.0), between low k ms above.1 up.1)

pub timely_dumped : (low : ℕ) (clocks : List ℕ) (k : ℕ) (ended : List Part) (p : Part) → Timely low clocks ended p
    → last_clock low clocks ≤ k → All (λ m. stamp_of m ≤ k) p.news
    → Timely low (clocks ++ k ∷ []) (ended ++ p ∷ []) no_part
timely_dumped low [] k [] p t rise up = (
  rise,
  All-from_recursion (λ m. (low < stamp_of m) × (stamp_of m ≤ k)) p.news
      (between low k p.news (recursion_from_All (λ m. low < stamp_of m) p.news t) (recursion_from_All (λ m. stamp_of m ≤ k) p.news up)),
  All-nil (λ m. k < stamp_of m),
)
timely_dumped low (j ∷ js) k (q ∷ qs) p t rise up = (t.0, t.1, timely_dumped j js k qs p t.2 rise up)
timely_dumped low [] k (q ∷ qs) p t rise up = absurd t
timely_dumped low (j ∷ js) k [] p t rise up = absurd t

-- ---- answers

pub answers_dumped : (names : List (List ℕ)) (actor : ℕ) (before : List Event) (ended : List Part) (p : Part)
    → Answers names actor before ended p
    → Answers names actor before (ended ++ p ∷ []) no_part
answers_dumped names actor before [] p a = (a, refl)
answers_dumped names actor before (q ∷ qs) p a = (a.0, answers_dumped names actor (before ++ part_events q) qs p a.1)

-- ---- commands that end at once

-- dumps leave an actor's state
pub state_with_dumps : {S : Type 0} (P : Programs S) (c : Counts) (s : Actor S) (ended : List Part) (last : Part)
    → own_state P c s (with_dumps ended last) ≡ own_state P c s (all_events ended last)
state_with_dumps P c s [] last = refl
state_with_dumps P c s (p ∷ ps) last =
    own_state-append P c s (part_events p) (Dumped ∷ with_dumps ps last)
    ∙ state_with_dumps P c (own_state P c s (part_events p)) ps last
    ∙ sym (own_state-append P c s (part_events p) (all_events ps last))

pub prompt_with : {S : Type 0} (P : Programs S) (c : Counts) (s : Actor S) (ended : List Part) (p : Part)
    → OwnEndsAtOnce P c s (with_dumps ended no_part)
    → OwnEndsAtOnce P c (own_state P c s (all_events ended no_part)) (part_events p) → OwnEndsAtOnce P c s (with_dumps ended p)
prompt_with P c s ended p before now =
    subst (λ (es : List Event). OwnEndsAtOnce P c s es) (sym (dumps_with ended p))
    (ends_at_once-append P c s (with_dumps ended no_part) (part_events p) before
    (subst (λ t. OwnEndsAtOnce P c t (part_events p)) (sym (state_with_dumps P c s ended no_part)) now))

pub prompt_dumped : {S : Type 0} (P : Programs S) (c : Counts) (s : Actor S) (ended : List Part) (p : Part)
    → OwnEndsAtOnce P c s (with_dumps ended p) → OwnEndsAtOnce P c s (with_dumps (ended ++ p ∷ []) no_part)
prompt_dumped P c s ended p before =
    subst (λ (es : List Event). OwnEndsAtOnce P c s es) (sym (dumps_dumped ended p))
    (ends_at_once-append P c s (with_dumps ended p) (Dumped ∷ []) before (tt, tt))

-- ---- events of refused ops

-- all events of the client that no moment notes
abbrev pub silent_events : List Part → Part → List Event
silent_events [] last = last.silent
silent_events (p ∷ ps) last = p.silent ++ silent_events ps last

pub silent_by_parts : (before : List Event) (ended : List Part) (last : Part) → AreOfRefused before (silent_events ended last)
    → SilentAfter before ended last
silent_by_parts before [] last all = all
silent_by_parts before (p ∷ ps) last all = (
  of_refused-front before p.silent (silent_events ps last) all,
  silent_by_parts (before ++ p.silent) ps last (of_refused-rest before p.silent (silent_events ps last) all),
)
