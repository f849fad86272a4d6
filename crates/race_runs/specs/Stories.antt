-- What one client did in a race, part by part. A dump ends each part but the last.
use Rattle.std.specs.Prelude.{◌≡◌, ℕ, ◌<◌, ◌≤◌, None, Option, List, [], ◌∷◌, ◌++◌, filter}
use Rattle.std.specs.List.{All}
use Rattle.tect_ids.specs.declared.ids.Counts.{Counts}
use Rattle.tect_ids.specs.declared.ids.OpId.{OpId}
use Rattle.tect_ids.specs.declared.script.Line.{Line}
use Rattle.tect_ids.specs.declared.script.ReportLine.{ReportLine}
use Rattle.entry_words.specs.declared.entry.Moment.{Moment}
use Rattle.entry_words.specs.Moments.{stamp_of}
use Rattle.world_runs.specs.declared.event.Event.{Event}
use Rattle.world_runs.specs.declared.event.Event.TheVariants.{Dumped}
use Rattle.program_forms.specs.Kinds.{Programs}
use Rattle.world_runs.specs.Actors.{idle_actor}
use Rattle.world_runs.specs.Races.{line_concerns, own_lines}
use Rattle.world_runs.specs.Events.{events_of}
use Rattle.world_runs.specs.OwnRuns.{OwnRun}
use Rattle.world_runs.specs.Limits.{OwnLimits}
use Rattle.whole_runs.specs.ClientLines.{DoesLines}
use Rattle.world_runs.specs.Events.{IsPlaced, IsOwnNote}
use Rattle.world_runs.specs.Refusals.{AreOfRefused}
use Rattle.world_runs.specs.Smooth.{OwnEndsAtOnce}

-- the moments that were noted in a part; the events of the ops that were refused in it, which come last; and the lines of its answers
pub record Part : Type 0 where
  pub news : List Moment
  pub silent : List Event
  pub answers : List ReportLine

pub record Story : Type 0 where
  pub actor : ℕ
  pub ended : List Part
  pub last : Part

abbrev pub part_events : Part → List Event
part_events p = events_of p.news ++ p.silent

-- all that was noted
abbrev pub all_moments : List Part → Part → List Moment
all_moments [] last = last.news
all_moments (p ∷ ps) last = p.news ++ all_moments ps last

-- all events of the client
abbrev pub all_events : List Part → Part → List Event
all_events [] last = part_events last
all_events (p ∷ ps) last = part_events p ++ all_events ps last

-- the same with the dumps
abbrev pub with_dumps : List Part → Part → List Event
with_dumps [] last = part_events last
with_dumps (p ∷ ps) last = part_events p ++ Dumped ∷ with_dumps ps last

-- the clock stood at these numbers when the dumps came: each part's moments are stamped above that of the dump before it, and
-- none above that of its own
abbrev pub Timely : ℕ → List ℕ → List Part → Part → Type 0
Timely low [] [] last = All (λ m. low < stamp_of m) last.news
Timely low (k ∷ ks) (p ∷ ps) last = (low ≤ k) × All (λ m. (low < stamp_of m) × (stamp_of m ≤ k)) p.news × Timely k ks ps last
Timely low [] (p ∷ ps) last = ⊥
Timely low (k ∷ ks) [] last = ⊥

-- each part's answers are the lines that its events show, after the client's own events before it
abbrev pub Answers : List (List ℕ) → ℕ → List Event → List Part → Part → Type 0
Answers names actor before [] last = last.answers ≡ own_lines names actor before (part_events last)
Answers names actor before (p ∷ ps) last =
    (p.answers ≡ own_lines names actor before (part_events p)) × Answers names actor (before ++ part_events p) ps last

-- the silent events, part after part, are of refused ops, whose refusal is one of them or of those before
abbrev pub SilentAfter : List Event → List Part → Part → Type 0
SilentAfter before [] last = AreOfRefused before last.silent
SilentAfter before (p ∷ ps) last = AreOfRefused before p.silent × SilentAfter (before ++ p.silent) ps last

-- The client's own events are a run of its programs which keeps its limits, and each of its commands ends at once when its last reply gave
-- the answer; with the dumps they follow its lines and those of the dumps; the dumps came at these clocks.
pub record IsStory {S : Type 0} (P : Programs S) (counts : Counts) (names : List (List ℕ)) (lines : List Line) (clocks : List ℕ)
    (s : Story) : Type 0 where
  pub own : OwnRun P counts idle_actor (all_events s.ended s.last)
  pub limits : OwnLimits P counts [] idle_actor (all_events s.ended s.last)
  pub prompt : OwnEndsAtOnce P counts idle_actor (with_dumps s.ended s.last)
  pub busy : Option OpId
  pub does : DoesLines s.actor None (filter (line_concerns s.actor) lines) (with_dumps s.ended s.last) busy
  pub timely : Timely 0 clocks s.ended s.last
  pub answers : Answers names s.actor [] s.ended s.last
  pub placed : All (IsPlaced counts) (all_moments s.ended s.last)
  pub noted : All IsOwnNote (all_moments s.ended s.last)
  pub silent : SilentAfter [] s.ended s.last
