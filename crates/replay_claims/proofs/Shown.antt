-- What is claimed of the run that a replay shows.
use Rattle.std.proofs.Common.{◌≡◌, true, ℕ, Some, Option, List, [], ◌∷◌, ◌++◌, length, map, sym, ap, subst, ◌∙◌}
use Rattle.std.specs.List.{AllByRecursion}
use Rattle.tect_ids.specs.declared.answer.Answer.{Answer}
use Rattle.tect_ids.specs.declared.answer.Answer.TheVariants as answers
use Rattle.tect_ids.specs.declared.dump.DumpLine.{DumpLine}
use Rattle.tect_ids.specs.declared.ids.Counts.{Counts}
use Rattle.tect_ids.specs.declared.ids.OpId.{OpId}
use Rattle.tect_ids.specs.declared.script.Act.TheVariants as acts
use Rattle.tect_ids.specs.declared.script.Line.{Line}
use Rattle.tect_ids.specs.declared.script.Line.TheVariants as lines
use Rattle.tect_ids.specs.declared.script.Plan.{Plan}
use Rattle.tect_ids.specs.declared.script.ReportLine.TheVariants as report_lines
use Rattle.store_rules.specs.Dumps.{store_dump}
use Rattle.store_rules.specs.Store.{opening_store}
use Rattle.program_forms.specs.Kinds.{Does}
use Rattle.program_rules.specs.Served.{programs}
use Rattle.world_runs.specs.Actors.{is_said}
use Rattle.program_forms.specs.Lacks.{IsLack}
use Rattle.world_runs.specs.declared.event.Event.{Event}
use Rattle.world_runs.specs.declared.event.Event.TheVariants.{Own, Dumped}
use Rattle.world_runs.specs.declared.event.Happening.{Happening}
use Rattle.world_runs.specs.declared.event.Happening.TheVariants.{Began, NotBegun, Acted, Ended, Stopped, Failed}
use Rattle.world_runs.specs.OwnRuns.{stored_after}
use Rattle.world_runs.specs.Follows.{Follows}
use Rattle.world_runs.specs.Limits.{KeepsLimits}
use Rattle.world_runs.specs.Moments.{after, opening, moment, RunFrom, IsWorldRun}
use Rattle.whole_runs.specs.Playable.{IsWithin, IsPlayable}
use Rattle.world_runs.specs.Report.{happening_lines, lines_at, report_after}
use Rattle.world_runs.specs.Smooth.{EndsAtOnce, StepsOn, AllStepOn}
use Rattle.run_claims.proofs.Claims.{every_run_is_claimed}
use Rattle.script_runs.specs.InTime.{LooksTellNoAnswer}
use Rattle.script_runs.proofs.Fixed.{script_fixes_run_without_looks}
use Rattle.run_claims.proofs.RunsKeep.{no_run_answers_odd}
use Rattle.session_runs.proofs.Standings.{next_same}
use Rattle.whole_runs.proofs.Actors.{after_all-append}
use Rattle.script_runs.proofs.Histories.{run-append}
use Rattle.session_runs.proofs.Scripts.{session_reported}
use Rattle.replay_stories.specs.Replays.{IsReplayed, IsCutReplay}
use Rattle.replay_claims.specs.Claimed.{IsNotOdd, IsHistoryOf, IsReplayShown, IsReplayCut}

-- ---- no answer is odd

all-append : {X : Type 0} (P : X → Type 0) (xs ys : List X) → AllByRecursion P xs → AllByRecursion P ys → AllByRecursion P (xs ++ ys)
all-append P [] ys a b = b
all-append P (x ∷ xs) ys a b = (a.0, all-append P xs ys a.1 b)

dump_not_odd : (ls : List DumpLine) → AllByRecursion IsNotOdd (map report_lines.Dump ls)
dump_not_odd [] = tt
dump_not_odd (l ∷ ls) = (λ name number steps place is. absurd cc, dump_not_odd ls)

happening_not_odd : (counts : Counts) (clients : List (List ℕ)) (before : List Event) (op : OpId) (h : Happening)
    → IsWorldRun programs counts before → RunFrom programs (moment programs counts before) (Own op h ∷ [])
    → AllByRecursion IsNotOdd (happening_lines clients before op h)
happening_not_odd counts clients before op (Ended a) run may = (
  λ name number steps place is. no_run_answers_odd counts before run op place
      ((may.0).0 ∙ (let same : a ≡ answers.Odd place = cc in ap Some same)),
  tt,
)
happening_not_odd counts clients before op (Failed a) run may =
    (λ name number steps place is. (let same : a ≡ answers.Odd place = cc in subst IsLack same ((may.0).0).0), tt)
happening_not_odd counts clients before op Stopped run may = (λ name number steps place is. absurd cc, tt)
happening_not_odd counts clients before op (Began c) run may = tt
happening_not_odd counts clients before op (NotBegun c) run may = tt
happening_not_odd counts clients before op (Acted q x h) run may = tt

event_not_odd : (counts : Counts) (clients : List (List ℕ)) (before : List Event) (e : Event) → IsWorldRun programs counts before
    → RunFrom programs (moment programs counts before) (e ∷ [])
    → AllByRecursion IsNotOdd (lines_at clients before e)
event_not_odd counts clients before (Own op h) run may = happening_not_odd counts clients before op h run may
event_not_odd counts clients before Dumped run may = dump_not_odd (store_dump (stored_after opening_store before))

none_odd_after : (counts : Counts) (clients : List (List ℕ)) (before es : List Event) → IsWorldRun programs counts before
    → RunFrom programs (moment programs counts before) es
    → AllByRecursion IsNotOdd (report_after clients before es)
none_odd_after counts clients before [] run rest = tt
none_odd_after counts clients before (e ∷ es) run rest =
    let first : RunFrom programs (moment programs counts before) (e ∷ []) = (rest.0, tt) in
    let next : moment programs counts (before ++ e ∷ []) ≡ after programs (moment programs counts before) e =
    after_all-append programs (opening counts) before (e ∷ []) in
    all-append IsNotOdd (lines_at clients before e) (report_after clients (before ++ e ∷ []) es)
    (event_not_odd counts clients before e run first)
    (none_odd_after counts clients (before ++ e ∷ []) es (run-append programs (opening counts) before (e ∷ []) run first)
    (subst (λ m. RunFrom programs m es) (sym next) rest.1))

-- ---- look-ups

-- the commands look nothing up
looks_tell_no_answer : LooksTellNoAnswer programs
looks_tell_no_answer c m op s said = subst (λ (d : Does Answer). is_said d ≡ true) (next_same c m op s) said

-- ---- what is claimed of a history

step_on : (clients : ℕ) (l : Line) → IsWithin clients l → StepsOn l
step_on clients (lines.Client client actor (acts.Step n)) w = w.1
step_on clients (lines.Client client actor (acts.Do c)) w = tt
step_on clients (lines.Client client actor (acts.Begin c)) w = tt
step_on clients (lines.Client client actor acts.Run) w = tt
step_on clients (lines.Client client actor acts.Stop) w = tt
step_on clients lines.Dump w = tt
step_on clients (lines.Store counts) w = tt
step_on clients lines.Sweep w = tt
step_on clients (lines.Lose disk) w = tt

all_step_on : (clients : ℕ) (ls : List Line) → AllByRecursion (IsWithin clients) ls → AllStepOn ls
all_step_on clients [] all = tt
all_step_on clients (l ∷ ls) all = (step_on clients l all.0, all_step_on clients ls all.1)

history_of : (plan : Plan) (history : List Event) → IsPlayable programs plan → IsWorldRun programs plan.counts history → KeepsLimits programs plan.counts history
    → Follows plan.lines history → EndsAtOnce programs (opening plan.counts) history → IsHistoryOf plan history
history_of plan history is run limits follows at_once = record {
  claim = every_run_is_claimed plan.counts history run limits;
  follows = follows;
  at_once = at_once;
  none_odd = none_odd_after plan.counts plan.clients [] history tt run;
  alone = λ client cs same played none. session_reported plan.counts plan.clients client cs history played run none
      (subst (λ ls. Follows ls history) same follows);
  fixed = λ none other smooth follows'.
      script_fixes_run_without_looks programs looks_tell_no_answer plan.counts plan.lines other history (all_step_on (length plan.clients) plan.lines is.within) smooth
      (record { run = run; limits = limits; memory = none; at_once = at_once }) follows' follows;
}

-- ---- what was written

pub replay_shown : (plan : Plan) (old new : Option (List ℕ)) → IsPlayable programs plan → IsReplayed programs plan old new → IsReplayShown plan old new
replay_shown plan old new is r = record {
  history = r.history;
  of_plan = history_of plan r.history is r.of_plan.run r.of_plan.limits r.of_plan.follows r.of_plan.at_once;
  written = r.written;
}

pub replay_cut : (plan : Plan) (old new : Option (List ℕ)) → IsPlayable programs plan → IsCutReplay programs plan old new → IsReplayCut plan old new
replay_cut plan old new is r = record {
  history = r.history;
  of_plan = history_of plan r.history is r.of_plan.run r.of_plan.limits r.of_plan.follows r.of_plan.at_once;
  written = r.written;
}
