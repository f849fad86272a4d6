-- How far the clients of a race have come, each with its story so far.
use Rattle.std.specs.Prelude.{◌≡◌, ℕ, ◌≤◌, None, List, [], ◌∷◌, ◌++◌, filter, length}
use Rattle.std.specs.List.{All, AllZip}
use Rattle.tect_ids.specs.declared.ids.Counts.{Counts}
use Rattle.tect_ids.specs.declared.script.Line.{Line}
use Rattle.entry_words.specs.Moments.{stamp_of}
use Rattle.world_runs.specs.declared.event.Event.{Event}
use Rattle.program_forms.specs.Kinds.{Programs}
use Rattle.world_runs.specs.Actors.{idle_actor}
use Rattle.world_runs.specs.Races.{line_concerns}
use Rattle.whole_runs.specs.ClientLines.{DoesLines}
use Rattle.world_runs.specs.Smooth.{OwnEndsAtOnce}
use Rattle.clients.specs.Lives.{events_in}
use Rattle.race_runs.specs.Stories.{Part, Story, Timely, Answers, all_moments, all_events, with_dumps}
use Rattle.racers.specs.declared.racer.Racer.{Racer}
use Rattle.racers.specs.Lives.{busy_in}

-- the events of the ops that were refused
abbrev pub all_silent : List Part → Part → List Event
all_silent [] last = last.silent
all_silent (p ∷ ps) last = p.silent ++ all_silent ps last

abbrev pub last_clock : ℕ → List ℕ → ℕ
last_clock low [] = low
last_clock low (k ∷ ks) = last_clock k ks

-- The story tells what the client noted and was refused in these lines, where each command ended at once when its last reply gave its
-- answer; and the racer has the answers of the story's last part.
pub record Stands {S : Type 0} (P : Programs S) (counts : Counts) (names : List (List ℕ)) (done : List Line) (clocks : List ℕ) (r : Racer S)
    (s : Story) : Type 0 where
  pub counts_are : r.client.counts ≡ counts
  pub actor : s.actor ≡ r.client.actor
  pub moments : all_moments s.ended s.last ≡ r.client.moments
  pub silent : all_silent s.ended s.last ≡ r.client.silent
  pub events : all_events s.ended s.last ≡ events_in r.client
  pub prompt : OwnEndsAtOnce P counts idle_actor (with_dumps s.ended s.last)
  pub does : DoesLines s.actor None (filter (line_concerns s.actor) done) (with_dumps s.ended s.last) (busy_in P r.client)
  pub timely : Timely 0 clocks s.ended s.last
  pub below : All (λ m. stamp_of m ≤ r.client.clock) s.last.news
  pub floor : last_clock 0 clocks ≤ r.client.clock
  pub answers : Answers names s.actor [] s.ended s.last
  pub told : r.answers.items ≡ s.last.answers
  pub parts : length s.ended ≡ length clocks

abbrev pub AllStand : {S : Type 0} → Programs S → Counts → List (List ℕ) → List Line → List ℕ → List (Racer S) → List Story → Type 0
AllStand P counts names done clocks = AllZip (Stands P counts names done clocks)
