-- How the lines of a script are played, one after another.
use Rattle.std.specs.Prelude.{◌≡◌, ℕ, ◌+◌, ◌<◌, ◌≤◌, ◌^◌, List, [], ◌∷◌}
use Rattle.tect_ids.specs.declared.script.Act.{Act}
use Rattle.tect_ids.specs.declared.script.Line.{Line}
use Rattle.tect_ids.specs.declared.script.Line.TheVariants as lines
use Rattle.tect_ids.specs.declared.script.ReportLine.{ReportLine}
use Rattle.program_forms.specs.Kinds.{Programs}
use Rattle.world_runs.specs.declared.event.Event.{Event}
use Rattle.world_runs.specs.Actors.{Actor}
use Rattle.world_runs.specs.Moments.{IsWorldRun}
use Rattle.world_runs.specs.Limits.{KeepsLimits}
use Rattle.world_runs.specs.Follows.{FollowsFrom}
use Rattle.world_runs.specs.Report.{report_after}
use Rattle.whole_runs.specs.Standing.{IsInState, busy_at}
use Rattle.world_runs.specs.Smooth.{EndsAtOnce}
use Rattle.whole_runs.specs.ClientStates.{ClientState, TakesAct}
use Rattle.world_lives.specs.Life.{Life, present, grown}

-- what an act needs of its actor: it began few commands, and its turn takes the act
pub record CanDo {S : Type 0} (P : Programs S) (a : Actor S) (act : Act) : Type 0 where
  pub few : a.number + 1 < 2 ^ 31
  pub turn : ClientState
  pub stands : IsInState turn a
  pub takes : TakesAct P turn act

-- what a line needs: its client is one of so many, and may do what the line asks
abbrev pub CanPlay : {S : Type 0} → Programs S → ℕ → Life → Line → Type 0
CanPlay P clients w (lines.Client client actor act) =
    (1 ≤ actor) × (actor ≤ 64) × (actor ≤ clients) × CanDo P ((present P w).actors actor) act
CanPlay P clients w lines.Dump = Unit {0}
CanPlay P clients w line = ⊥

-- the world's history is a run of it, within the limits of its actors' own histories
pub record IsKeptRun {S : Type 0} (P : Programs S) (w : Life) : Type 0 where
  pub run : IsWorldRun P w.counts w.history
  pub limits : KeepsLimits P w.counts w.history

-- The line was played: the events that came are those that it asks for, and the report of them is what is shown.
pub record PlaysLine {S : Type 0} (P : Programs S) (clients : List (List ℕ)) (line : Line) (old new : Life) (ls : List ReportLine)
    : Type 0 where
  pub part : List Event
  pub grew : new ≡ grown old part
  pub run : IsKeptRun P new
  pub follows : FollowsFrom (busy_at (present P old)) (line ∷ []) part
  pub at_once : EndsAtOnce P (present P old) part
  pub shows : report_after clients old.history part ≡ ls
