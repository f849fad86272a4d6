-- What a report shows of a history: a line for each answer, with the number of the op's transactions, one for each command
-- that was stopped or that found no memory or no room, and the lines of each dump.
use Rattle.std.specs.Prelude.{ℕ, ◌-◌, Bool, true, false, ◌&&◌, List, [], ◌∷◌, ◌++◌, map, count_by, slice_index_or}
use Rattle.tect_ids.specs.declared.ids.OpId.{OpId}
use Rattle.tect_ids.specs.declared.answer.Answer.{Answer}
use Rattle.tect_ids.specs.declared.answer.Answer.TheVariants as answers
use Rattle.tect_ids.specs.declared.script.ReportLine.{ReportLine}
use Rattle.tect_ids.specs.declared.script.ReportLine.TheVariants as lines
use Rattle.tect_ids.specs.Keys.{op_eq}
use Rattle.store_rules.specs.Dumps.{store_dump}
use Rattle.store_rules.specs.Store.{opening_store}
use Rattle.world_runs.specs.declared.event.Event.{Event}
use Rattle.world_runs.specs.declared.event.Event.TheVariants.{Own, Dumped}
use Rattle.world_runs.specs.declared.event.Happening.{Happening}
use Rattle.world_runs.specs.declared.event.Happening.TheVariants.{Began, NotBegun, Acted, Ended, Stopped, Failed}
use Rattle.world_runs.specs.OwnRuns.{stored_after}

abbrev pub is_act : Happening → Bool
is_act (Acted q x h) = true
is_act (Began c) = false
is_act (NotBegun c) = false
is_act (Ended a) = false
is_act Stopped = false
is_act (Failed a) = false

-- a transaction of the op
abbrev pub is_act_of : OpId → Event → Bool
is_act_of op (Own other h) = op_eq other op && is_act h
is_act_of op Dumped = false

abbrev pub transactions : List Event → OpId → ℕ
transactions before op = count_by (is_act_of op) before

-- the name of a client, which is actor number 1 and so on
abbrev pub client_name : List (List ℕ) → ℕ → List ℕ
client_name clients actor = slice_index_or clients (actor - 1) []

abbrev pub answer_line : List (List ℕ) → List Event → OpId → Answer → ReportLine
answer_line clients before op a = lines.Client (client_name clients op.actor) op.number (transactions before op) a

-- the line of an answer, after the events before it
abbrev pub happening_lines : List (List ℕ) → List Event → OpId → Happening → List ReportLine
happening_lines clients before op (Ended a) = answer_line clients before op a ∷ []
happening_lines clients before op Stopped = answer_line clients before op answers.Stopped ∷ []
happening_lines clients before op (Failed a) = answer_line clients before op a ∷ []
happening_lines clients before op (Began c) = []
happening_lines clients before op (NotBegun c) = []
happening_lines clients before op (Acted q x h) = []

abbrev pub answer_lines : List (List ℕ) → List Event → Event → List ReportLine
answer_lines clients before (Own op h) = happening_lines clients before op h
answer_lines clients before Dumped = []

-- the lines of an event, after those before it
abbrev pub lines_at : List (List ℕ) → List Event → Event → List ReportLine
lines_at clients before (Own op h) = happening_lines clients before op h
lines_at clients before Dumped = map lines.Dump (store_dump (stored_after opening_store before))

abbrev pub report_after : List (List ℕ) → List Event → List Event → List ReportLine
report_after clients before [] = []
report_after clients before (e ∷ es) = lines_at clients before e ++ report_after clients (before ++ e ∷ []) es

abbrev pub report : List (List ℕ) → List Event → List ReportLine
report clients history = report_after clients [] history
