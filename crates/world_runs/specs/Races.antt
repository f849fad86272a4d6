-- Scripts whose clients run side by side: when a history follows one, and what a report then shows.
use Rattle.std.specs.Prelude.{ℕ, ◌+◌, Bool, true, false, eqb, if◌then◌else◌, List, [], ◌∷◌, ◌++◌, map, filter}
use Rattle.tect_ids.specs.declared.script.Line.{Line}
use Rattle.tect_ids.specs.declared.script.Line.TheVariants as lines
use Rattle.tect_ids.specs.declared.script.ReportLine.{ReportLine}
use Rattle.tect_ids.specs.declared.script.ReportLine.TheVariants as report_lines
use Rattle.store_rules.specs.Dumps.{store_dump}
use Rattle.store_rules.specs.Store.{opening_store}
use Rattle.world_runs.specs.declared.event.Event.{Event}
use Rattle.world_runs.specs.declared.event.Event.TheVariants.{Own, Dumped}
use Rattle.world_runs.specs.OwnRuns.{stored_after}
use Rattle.world_runs.specs.Follows.{none_busy, FollowsFrom}
use Rattle.world_runs.specs.Report.{answer_lines}

-- the event is the actor's own
abbrev pub is_own : ℕ → Event → Bool
is_own actor (Own op h) = eqb op.actor actor
is_own actor Dumped = false

-- the same, or a dump, which is of the whole world
abbrev pub concerns : ℕ → Event → Bool
concerns actor (Own op h) = eqb op.actor actor
concerns actor Dumped = true

-- the line is that client's, or one of the whole world
abbrev pub line_concerns : ℕ → Line → Bool
line_concerns actor (lines.Client client other act) = eqb other actor
line_concerns actor (lines.Store counts) = true
line_concerns actor lines.Sweep = true
line_concerns actor (lines.Lose disk) = true
line_concerns actor lines.Dump = true

-- Each client's events are those that its lines ask for, in the order of its lines; and a line of the whole world comes after
-- all events of the lines before it, and before those of the lines after it. No more is said of the order of two clients.
abbrev pub FollowsByClient : List Line → List Event → Type 0
FollowsByClient ls history = (actor : ℕ) → FollowsFrom none_busy (filter (line_concerns actor) ls) (filter (concerns actor) history)

-- the lines that an actor's own events of a part show, after those before the part
abbrev pub own_lines : List (List ℕ) → ℕ → List Event → List Event → List ReportLine
own_lines clients actor before [] = []
own_lines clients actor before (e ∷ es) =
    (if is_own actor e then answer_lines clients before e else []) ++ own_lines clients actor (before ++ e ∷ []) es

-- the lines of a part, client by client: of those from this actor on
abbrev pub lines_from : List (List ℕ) → List (List ℕ) → ℕ → List Event → List Event → List ReportLine
lines_from clients [] actor before part = []
lines_from clients (name ∷ names) actor before part =
    own_lines clients actor before part ++ lines_from clients names (actor + 1) before part

abbrev pub part_lines : List (List ℕ) → List Event → List Event → List ReportLine
part_lines clients before part = lines_from clients clients 1 before part

-- a part ends where a dump stands, whose lines come behind those of the part
abbrev pub race_report_after : List (List ℕ) → List Event → List Event → List Event → List ReportLine
race_report_after clients before part [] = part_lines clients before part
race_report_after clients before part (Dumped ∷ es) =
    part_lines clients before part ++ map report_lines.Dump (store_dump (stored_after opening_store (before ++ part)))
    ++ race_report_after clients ((before ++ part) ++ Dumped ∷ []) [] es
race_report_after clients before part (Own op h ∷ es) = race_report_after clients before (part ++ Own op h ∷ []) es

-- Between two dumps the answers stand by client, each client's in its own order.
abbrev pub race_report : List (List ℕ) → List Event → List ReportLine
race_report clients history = race_report_after clients [] [] history
