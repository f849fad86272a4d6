-- What a report shows of a woven history, told by each actor's own events and by the store at each dump.
use Rattle.std.specs.Prelude.{ℕ, ◌+◌, List, [], ◌∷◌, ◌++◌, map, filter}
use Rattle.tect_ids.specs.declared.script.ReportLine.{ReportLine}
use Rattle.tect_ids.specs.declared.script.ReportLine.TheVariants as report_lines
use Rattle.store_rules.specs.Dumps.{store_dump}
use Rattle.store_rules.specs.Store.{Store}
use Rattle.entry_words.specs.declared.entry.Moment.{Moment}
use Rattle.entry_words.specs.Moments.{is_of}
use Rattle.world_runs.specs.declared.event.Event.{Event}
use Rattle.world_runs.specs.Races.{own_lines}
use Rattle.world_runs.specs.Events.{events_of, own}
use Rattle.world_runs.specs.OwnRuns.{stored_after}
use Rattle.whole_runs.specs.Woven.{Cut, is_early, is_late}

-- the lines of these clients one after another, the first of whom is this actor
abbrev pub by_client : List (List ℕ) → ℕ → (ℕ → List ReportLine) → List ReportLine
by_client [] actor lines = []
by_client (name ∷ names) actor lines = lines actor ++ by_client names (actor + 1) lines

-- an actor's own events of a part, which has these moments and then these events of refused ops
abbrev pub own_part : ℕ → List Moment → List Event → List Event
own_part actor ms silent = events_of (filter (is_of actor) ms) ++ own actor silent

-- what the actors' own events of a part show, after those before the part
abbrev pub part_report : List (List ℕ) → (ℕ → List Event) → List Moment → List Event → List ReportLine
part_report clients before ms silent =
    by_client clients 1 (λ actor. own_lines clients actor (before actor) (own_part actor ms silent))

-- the parts, each that a dump ends with the lines of that dump
abbrev pub parts_report : List (List ℕ) → (ℕ → List Event) → Store → List Cut → List Event → List Moment → List ReportLine
parts_report clients before store [] last ms = part_report clients before ms last
parts_report clients before store (c ∷ cs) last ms =
    part_report clients before (filter (is_early c.stamp) ms) c.silent
    ++ map report_lines.Dump (store_dump (stored_after store (events_of (filter (is_early c.stamp) ms))))
    ++ parts_report clients (λ actor. before actor ++ own_part actor (filter (is_early c.stamp) ms) c.silent)
    (stored_after store (events_of (filter (is_early c.stamp) ms))) cs last (filter (is_late c.stamp) ms)
