-- What is so of the history that a replay shows.
use Rattle.std.specs.Prelude.{◌≡◌, ℕ, Option, List}
use Rattle.std.specs.Io.KnownBytes.{Appends}
use Rattle.tect_ids.specs.declared.script.Plan.{Plan}
use Rattle.tect_edge.specs.Prefixes.{AppendsProperPrefix}
use Rattle.program_forms.specs.Kinds.{Programs}
use Rattle.world_runs.specs.declared.event.Event.{Event}
use Rattle.world_runs.specs.Moments.{opening, IsWorldRun}
use Rattle.world_runs.specs.Limits.{KeepsLimits}
use Rattle.world_runs.specs.Follows.{Follows, AllFindMemory}
use Rattle.world_runs.specs.Smooth.{EndsAtOnce, IsSmoothRun}
use Rattle.script_runs.specs.InTime.{LooksTellNoAnswer}
use Rattle.replay_stories.specs.Output.{output_text}

-- Where no memory was wanting in it, it is the only run of the world that follows the script within the limits of its actors' own
-- histories, in which no memory is wanting, and each command ends at once: of programs that come to no answer by a look-up.
abbrev pub IsOnlyRun : {S : Type 0} → Programs S → Plan → List Event → Type 0
IsOnlyRun P plan history =
    LooksTellNoAnswer P → AllFindMemory history → (other : List Event) → IsSmoothRun P plan.counts other → Follows plan.lines other
    → other ≡ history

-- The history is a run of the world within the limits of its actors' own histories. It follows the script's lines, and each
-- command ends as soon as it has its answer.
pub record IsRunOf {S : Type 0} (P : Programs S) (plan : Plan) (history : List Event) : Type 0 where
  pub run : IsWorldRun P plan.counts history
  pub limits : KeepsLimits P plan.counts history
  pub follows : Follows plan.lines history
  pub at_once : EndsAtOnce P (opening plan.counts) history
  pub fixed : IsOnlyRun P plan history

-- the script was played to its end, and the whole output of its history was written
pub record IsReplayed {S : Type 0} (P : Programs S) (plan : Plan) (old new : Option (List ℕ)) : Type 0 where
  pub history : List Event
  pub of_plan : IsRunOf P plan history
  pub written : Appends old new (output_text plan history)

-- a front of the output of such a history was written, and not all
pub record IsCutReplay {S : Type 0} (P : Programs S) (plan : Plan) (old new : Option (List ℕ)) : Type 0 where
  pub history : List Event
  pub of_plan : IsRunOf P plan history
  pub written : AppendsProperPrefix old new (output_text plan history)
