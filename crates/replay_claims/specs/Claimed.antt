-- What is claimed of a replay's history, and what the program writes of it.
use Rattle.std.specs.Prelude.{◌≡◌, ◌≢◌, ℕ, Option, List}
use Rattle.std.specs.Io.KnownBytes.{Appends}
use Rattle.std.specs.List.{AllByRecursion}
use Rattle.tect_ids.specs.declared.ids.Place.{Place}
use Rattle.tect_ids.specs.declared.answer.Answer.TheVariants as answers
use Rattle.tect_ids.specs.declared.command.Command.{Command}
use Rattle.tect_ids.specs.declared.script.Plan.{Plan}
use Rattle.tect_ids.specs.declared.script.ReportLine.{ReportLine}
use Rattle.tect_ids.specs.declared.script.ReportLine.TheVariants as report_lines
use Rattle.tect_edge.specs.Prefixes.{AppendsProperPrefix}
use Rattle.tree_model.specs.Tree.{opening_tree}
use Rattle.program_rules.specs.Served.{programs}
use Rattle.world_runs.specs.declared.event.Event.{Event}
use Rattle.world_runs.specs.Moments.{opening}
use Rattle.world_runs.specs.Follows.{Follows, AllFindMemory}
use Rattle.session_runs.specs.Session.{IsPlayed, session_lines, session_script}
use Rattle.session_runs.specs.Well.{NoneFails}
use Rattle.run_claims.specs.Claims.{IsHistory}
use Rattle.world_runs.specs.Smooth.{EndsAtOnce, IsSmoothRun}
use Rattle.replay_stories.specs.Output.{plan_report, output_text}

-- the line does not say that a reply was odd
abbrev pub IsNotOdd : ReportLine → Type 0
IsNotOdd line = (name : List ℕ) (op steps : ℕ) (place : Place) → line ≢ report_lines.Client name op steps (answers.Odd place)

-- Where the script is a session of one client, which creates files in the root and looks them up, the report is what the
-- small machine alone gives.
abbrev pub IsToldByTree : Plan → List Event → Type 0
IsToldByTree plan history =
    (client : List ℕ) (cs : List Command) → plan.lines ≡ session_script client cs → AllByRecursion IsPlayed cs → NoneFails history
    → plan_report plan history ≡ session_lines plan.clients opening_tree 1 0 cs

-- Where no memory was wanting, it is the only one of the runs within the limits that follow the script, in which no memory is wanting
-- and each command ends as soon as it has its answer.
abbrev pub IsOnlyRun : Plan → List Event → Type 0
IsOnlyRun plan history = AllFindMemory history → (other : List Event) → IsSmoothRun programs plan.counts other → Follows plan.lines other
    → other ≡ history

-- The history is one that the world has under the script: a run of the world within the limits of its actors' histories, of which
-- all is so that is claimed of such a run. It follows the script's lines, each command ends as soon as it has its answer, and no
-- line of its report says that a reply was odd.
pub record IsHistoryOf (plan : Plan) (history : List Event) : Type 0 where
  pub claim : IsHistory plan.counts history
  pub follows : Follows plan.lines history
  pub at_once : EndsAtOnce programs (opening plan.counts) history
  pub none_odd : AllByRecursion IsNotOdd (plan_report plan history)
  pub alone : IsToldByTree plan history
  pub fixed : IsOnlyRun plan history

-- the script was played to its end, and the whole output of its history was written
pub record IsReplayShown (plan : Plan) (old new : Option (List ℕ)) : Type 0 where
  pub history : List Event
  pub of_plan : IsHistoryOf plan history
  pub written : Appends old new (output_text plan history)

-- a front of the output of such a history was written, and not all
pub record IsReplayCut (plan : Plan) (old new : Option (List ℕ)) : Type 0 where
  pub history : List Event
  pub of_plan : IsHistoryOf plan history
  pub written : AppendsProperPrefix old new (output_text plan history)
