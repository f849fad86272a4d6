-- What is so of the runs that follow a script, whatever the programs.
use Rattle.std.specs.Prelude.{◌≡◌, ℕ, ◌<◌, ◌≤◌, ◌^◌, Bool, List, ◌++◌, length}
use Rattle.tect_ids.specs.declared.ids.Counts.{Counts}
use Rattle.tect_ids.specs.declared.script.Line.{Line}
use Rattle.program_forms.specs.Kinds.{Programs}
use Rattle.world_runs.specs.declared.event.Event.{Event}
use Rattle.world_runs.specs.Actors.{Actor}
use Rattle.world_runs.specs.Moments.{opening, IsWorldRun, moment}
use Rattle.world_runs.specs.Limits.{KeepsLimits}
use Rattle.world_runs.specs.Follows.{FollowsFrom, Follows, AllFindMemory}
use Rattle.whole_runs.specs.ClientStates.{ClientState, all_idle, states_after, FitStates}
use Rattle.whole_runs.specs.Standing.{busy_at, IsInState}
use Rattle.world_runs.specs.Smooth.{EndsAtOnce, IsSmoothRun, AllStepOn, NoneSteps}
use Rattle.script_runs.specs.InTime.{FollowsInTime, LooksTellNoAnswer}
use Rattle.script_runs.specs.RunningOut.{RefusesAsFull}

-- what follows the next lines from the ops that are busy by then follows on
abbrev pub RunFollowsOn : {S : Type 0} → Programs S → Type 0
RunFollowsOn P =
    (counts : Counts) (front back : List Line) (history more : List Event) → IsWorldRun P counts (history ++ more) → Follows front history
    → FollowsFrom (busy_at (moment P counts history)) back more → Follows (front ++ back) (history ++ more)

-- the actor stands as its client's state tells, and began at most one command for each line
pub record Stands {S : Type 0} (state : ClientState) (lines : ℕ) (a : Actor S) : Type 0 where
  pub stands : IsInState state a
  pub began : a.number ≤ lines

-- so does each actor after a run that follows a script in turn
abbrev pub StandsByState : {S : Type 0} → Programs S → Type 0
StandsByState P =
    (counts : Counts) (lines : List Line) (history : List Event) → FitStates P lines → IsWorldRun P counts history → Follows lines history
    → (actor : ℕ) → Stands (states_after all_idle lines actor) (length lines) ((moment P counts history).actors actor)

-- A run that follows the front of a script in turn can be brought to the script's end without a further transaction: each
-- command that is still to end fails for want of memory, or ends with the answer that it has; and a begin is refused exactly
-- where this test of the events so far and the actor says so.
abbrev pub EachScriptCanBeRunOut : {S : Type 0} → Programs S → Type 0
EachScriptCanBeRunOut P =
    (full : List Event → ℕ → Bool) (counts : Counts) (front back : List Line) (history : List Event) → FitStates P (front ++ back)
    → length (front ++ back) < 2 ^ 31 → IsWorldRun P counts history → Follows front history
    → (more : List Event) × IsWorldRun P counts (history ++ more) × Follows (front ++ back) (history ++ more)
    × EndsAtOnce P (moment P counts history) more
    × RefusesAsFull full history more

-- The same of a run that stopped within a line: some further events, which need not be such as may happen, would have it
-- follow the front, and each command end at once.
abbrev pub EachCutLineCanBeRunOut : {S : Type 0} → Programs S → Type 0
EachCutLineCanBeRunOut P =
    (full : List Event → ℕ → Bool) (counts : Counts) (front back : List Line) (history rest : List Event) → FitStates P (front ++ back)
    → length (front ++ back) < 2 ^ 31 → IsWorldRun P counts history → Follows front (history ++ rest)
    → EndsAtOnce P (opening counts) (history ++ rest)
    → (more : List Event) × IsWorldRun P counts (history ++ more) × Follows (front ++ back) (history ++ more)
    × EndsAtOnce P (opening counts) (history ++ more)
    × RefusesAsFull full history more

-- The script fixes its run wherever no memory is wanting, if no end that a look-up gives counts as within a step whose transactions
-- are all done.
abbrev pub ScriptFixesRun : {S : Type 0} → Programs S → Type 0
ScriptFixesRun P =
    (counts : Counts) (lines : List Line) (one other : List Event) → AllStepOn lines → IsSmoothRun P counts one
    → IsSmoothRun P counts other
    → FollowsInTime P (opening counts) lines one → FollowsInTime P (opening counts) lines other → one ≡ other

-- So no more is needed of the runs where the programs come to no answer by a look-up.
abbrev pub ScriptFixesRunWithoutLooks : {S : Type 0} → Programs S → Type 0
ScriptFixesRunWithoutLooks P =
    LooksTellNoAnswer P → (counts : Counts) (lines : List Line) (one other : List Event) → AllStepOn lines → IsSmoothRun P counts one
    → IsSmoothRun P counts other
    → Follows lines one → Follows lines other → one ≡ other

-- and where the script has no steps, nor need its commands end at once
abbrev pub ScriptWithoutStepsFixesRun : {S : Type 0} → Programs S → Type 0
ScriptWithoutStepsFixesRun P =
    (counts : Counts) (lines : List Line) (one other : List Event) → NoneSteps lines → IsWorldRun P counts one → IsWorldRun P counts other
    → KeepsLimits P counts one → KeepsLimits P counts other → AllFindMemory one → AllFindMemory other
    → Follows lines one → Follows lines other → one ≡ other
