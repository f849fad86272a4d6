-- How far a replay has come.
use Rattle.std.proofs.Common.{◌≡◌, Bool, true, false, ℕ, zero, suc, ◌+◌, ◌<◌, ◌≤◌, Option, List, [], ◌∷◌, ◌++◌, length, get_or, take, drop}
use Rattle.std.proofs.Common.{length-take, refl, sym, ap, subst, ◌∙◌, append_assoc, arith}
use Rattle.std.specs.List.{AllByRecursion}
use Rattle.std.proofs.lemmas.List.{take_all, take_more, take-append-drop, append-nil}
use Rattle.tect_ids.specs.declared.ids.Counts.{Counts}
use Rattle.tect_ids.specs.declared.ids.OpId.{OpId}
use Rattle.tect_ids.specs.declared.script.Act.{Act}
use Rattle.tect_ids.specs.declared.script.Line.{Line}
use Rattle.tect_ids.specs.declared.script.Line.TheVariants as lines
use Rattle.tect_ids.specs.declared.script.Plan.{Plan}
use Rattle.tect_ids.specs.declared.script.ReportLine.{ReportLine}
use Rattle.world_runs.specs.declared.event.Event.{Event}
use Rattle.world_runs.specs.declared.event.Event.TheVariants.{Own, Dumped}
use Rattle.world_runs.specs.declared.event.Happening.{Happening}
use Rattle.world_runs.specs.declared.event.Happening.TheVariants.{Began, NotBegun, Acted, Ended, Stopped, Failed}
use Rattle.program_forms.specs.Kinds.{Programs}
use Rattle.world_runs.specs.Actors.{Actor}
use Rattle.world_runs.specs.Moments.{opening, moment, IsWorldRun}
use Rattle.world_runs.specs.Follows.{Follows, FollowsFrom}
use Rattle.tect_ids.specs.declared.script.Act.TheVariants as acts
use Rattle.whole_runs.specs.ClientStates.{ClientStates, TakesAct, state_left_at, with_state, all_idle, states_after, FitStates}
use Rattle.whole_runs.specs.ClientStates.{FitStatesFrom}
use Rattle.world_runs.specs.Report.{report_after}
use Rattle.script_runs.proofs.Histories.{report-append}
use Rattle.whole_runs.specs.Standing.{busy_at}
use Rattle.world_runs.specs.Smooth.{EndsAtOnce, StepsOn, AllStepOn}
use Rattle.script_runs.proofs.AtOnce.{at_once-append}
use Rattle.script_runs.proofs.FollowOn.{run_follows_on, stands_by_state}
use Rattle.script_runs.specs.RunningOut.{DoneAsFull, RefusesAsFull}
use Rattle.script_runs.proofs.Fixed.{script_fixes_run_without_looks}
use Rattle.script_runs.proofs.RunOut.{each_script_can_be_run_out}
use Rattle.world_runs.specs.Limits.{KeepsLimits, KeepsLimitsAfter, EndsFull, FindsRoom, used}
use Rattle.std.specs.Prelude.{nat_le}
use Rattle.std.proofs.lemmas.Bool.Decides.{nat_tests}
use Rattle.world_lives.specs.Life.{Life, present}
use Rattle.replay_stories.specs.Output.{lines_text, end_text, plan_report, AppendsPrefix}
use Rattle.whole_runs.specs.Playable.{IsWithin, IsPlayable}
use Rattle.replay_stories.specs.Replays.{IsOnlyRun, IsRunOf, IsCutReplay}
use Rattle.replay_stories.specs.Plays.{CanDo, CanPlay, PlaysLine}
use Rattle.replay_stories.proofs.Texts.{prefix_longer, prefix_less, lines-append}

-- ---- turns

module _ {S : Type 0} (P : Programs S) where
  turn_behind : (turns : ClientStates) (front back : List Line) → FitStatesFrom P turns (front ++ back)
      → FitStatesFrom P (states_after turns front) back
  turn_behind turns [] back is = is
  turn_behind turns (lines.Client client actor act ∷ ls) back is = turn_behind (with_state turns actor (state_left_at act)) ls back is.3
  turn_behind turns (lines.Dump ∷ ls) back is = turn_behind turns ls back is
  turn_behind turns (lines.Store counts ∷ ls) back is = absurd is
  turn_behind turns (lines.Sweep ∷ ls) back is = absurd is
  turn_behind turns (lines.Lose disk ∷ ls) back is = absurd is

  turn_front : (turns : ClientStates) (front back : List Line) → FitStatesFrom P turns (front ++ back) → FitStatesFrom P turns front
  turn_front turns [] back is = tt
  turn_front turns (lines.Client client actor act ∷ ls) back is =
      (is.0, is.1, is.2, turn_front (with_state turns actor (state_left_at act)) ls back is.3)
  turn_front turns (lines.Dump ∷ ls) back is = turn_front turns ls back is
  turn_front turns (lines.Store counts ∷ ls) back is = absurd is
  turn_front turns (lines.Sweep ∷ ls) back is = absurd is
  turn_front turns (lines.Lose disk ∷ ls) back is = absurd is

-- ---- the lines that were played

-- the history is a run that follows these lines
pub record HasPlayed {S : Type 0} (P : Programs S) (plan : Plan) (front : List Line) (world : Life) : Type 0 where
  pub counts : world.counts ≡ plan.counts
  pub run : IsWorldRun P plan.counts world.history
  pub limits : KeepsLimits P plan.counts world.history
  pub follows : Follows front world.history
  pub at_once : EndsAtOnce P (opening plan.counts) world.history

pub played_none : {S : Type 0} (P : Programs S) (plan : Plan) (world : Life) → world ≡ record { counts = plan.counts; history = [] }
    → HasPlayed P plan [] world
played_none P plan world is = subst (λ (w : Life). HasPlayed P plan [] w) (sym is)
    (record { counts = refl; run = tt; limits = tt; follows = refl; at_once = tt })

all_at : {X : Type 0} (Q : X → Type 0) (xs : List X) (i : ℕ) (x : X) → i < length xs → AllByRecursion Q xs → Q (get_or xs i x)
all_at Q [] i x lt all = absurd (omega (arith, lt))
all_at Q (y ∷ ys) zero x lt all = all.0
all_at Q (y ∷ ys) (suc i) x lt all = all_at Q ys i x (omega (arith, lt)) all.1

split_at : {X : Type 0} (xs : List X) (i : ℕ) (x : X) → i < length xs → x ≡ get_or xs i x → xs ≡ take i xs ++ x ∷ drop (i + 1) xs
split_at xs i x lt at =
    sym (take-append-drop (i + 1) xs) ∙ ap (λ l. l ++ drop (i + 1) xs) (take_more xs i x lt ∙ ap (λ d. take i xs ++ d ∷ []) (sym at)) ∙
    append_assoc (take i xs) (x ∷ []) (drop (i + 1) xs)

module _ {S : Type 0} (P : Programs S) (plan : Plan) (i : ℕ) (world : Life) (line : Line) (is : IsPlayable P plan) (lt : i < length plan.lines)
    (at : line ≡ get_or plan.lines i line)
    (r : HasPlayed P plan (take i plan.lines) world) where
  split : plan.lines ≡ take i plan.lines ++ line ∷ drop (i + 1) plan.lines
  split = split_at plan.lines i line lt at

  in_turn : FitStates P (take i plan.lines ++ line ∷ drop (i + 1) plan.lines)
  in_turn = subst (FitStates P) split is.in_turn

  within : IsWithin (length plan.clients) line
  within = subst (IsWithin (length plan.clients)) (sym at) (all_at (IsWithin (length plan.clients)) plan.lines i line lt is.within)

  can_do : (actor : ℕ) (act : Act) → TakesAct P (states_after all_idle (take i plan.lines) actor) act
      → CanDo P ((present P world).actors actor) act
  can_do actor act takes =
      let s = stands_by_state P plan.counts (take i plan.lines) world.history
      (turn_front P all_idle (take i plan.lines) (line ∷ drop (i + 1) plan.lines) in_turn) r.run r.follows actor in
      rw r.counts (record {
        few = omega (arith, s.began, is.few, lt, length-take i plan.lines);
        turn = states_after all_idle (take i plan.lines) actor;
        stands = s.stands;
        takes = takes;
      })

  can_play_by : (l : Line) → FitStatesFrom P (states_after all_idle (take i plan.lines)) (l ∷ drop (i + 1) plan.lines)
      → IsWithin (length plan.clients) l → CanPlay P (length plan.clients) world l
  can_play_by (lines.Client client actor act) t w = (t.0, t.1, w.0, can_do actor act t.2)
  can_play_by lines.Dump t w = tt
  can_play_by (lines.Store counts) t w = absurd t
  can_play_by lines.Sweep t w = absurd t
  can_play_by (lines.Lose disk) t w = absurd t

  pub can_play : CanPlay P (length plan.clients) world line
  can_play = can_play_by line (turn_behind P all_idle (take i plan.lines) (line ∷ drop (i + 1) plan.lines) in_turn) within

  module _ (new : Life) (ls : List ReportLine) (plays : PlaysLine P plan.clients line world new ls) where
    more : take (i + 1) plan.lines ≡ take i plan.lines ++ line ∷ []
    more = take_more plan.lines i line lt ∙ ap (λ (d : Line). take i plan.lines ++ d ∷ []) (sym at)

    new_counts : new.counts ≡ plan.counts
    new_counts = ap (λ (w : Life). w.counts) plays.grew ∙ r.counts

    new_history : new.history ≡ world.history ++ plays.part
    new_history = ap (λ (w : Life). w.history) plays.grew

    new_run : IsWorldRun P plan.counts new.history
    new_run = subst (λ (k : Counts). IsWorldRun P k new.history) new_counts plays.run.run

    follows_now : Follows (take i plan.lines ++ line ∷ []) (world.history ++ plays.part)
    follows_now = run_follows_on P plan.counts (take i plan.lines) (line ∷ []) world.history plays.part
        (subst (IsWorldRun P plan.counts) new_history new_run) r.follows
        (subst (λ (k : Counts). FollowsFrom (busy_at (moment P k world.history)) (line ∷ []) plays.part) r.counts plays.follows)

    pub played_next : HasPlayed P plan (take (i + 1) plan.lines) new
    played_next = record {
      counts = new_counts;
      run = new_run;
      limits = subst (λ (k : Counts). KeepsLimits P k new.history) new_counts plays.run.limits;
      follows = rw (more, new_history) follows_now;
      at_once = rw new_history
          (at_once-append P (opening plan.counts) world.history plays.part r.at_once
          (subst (λ (k : Counts). EndsAtOnce P (moment P k world.history) plays.part) r.counts plays.at_once));
    }

    pub text_next : lines_text (plan_report plan new.history) ≡ lines_text (plan_report plan world.history) ++ lines_text ls
    text_next =
        ap (λ (es : List Event). lines_text (plan_report plan es)) new_history
        ∙ ap lines_text (report-append plan.clients [] world.history plays.part)
        ∙ lines-append (plan_report plan world.history) (report_after plan.clients world.history plays.part)
        ∙ ap (λ (l : List ReportLine). lines_text (plan_report plan world.history) ++ lines_text l) plays.shows

-- ---- a report that was cut off, and a whole one

not_full : (n : ℕ) → nat_le 65536 n ≡ false → ¬ (65536 ≤ n)
not_full n is = λ le. grind (arith, nat_tests, is, le)

now_full : (n : ℕ) → nat_le 65536 n ≡ true → 65536 ≤ n
now_full n is = grind (arith, nat_tests, is)

-- the actor's own history has not room for an op
abbrev is_full : List Event → ℕ → Bool
is_full es actor = nat_le 65536 (used es actor + 1)

limits-append : {S : Type 0} (P : Programs S) (counts : Counts) (before es fs : List Event) → KeepsLimitsAfter P counts before es
    → KeepsLimitsAfter P counts (before ++ es) fs → KeepsLimitsAfter P counts before (es ++ fs)
limits-append P counts before [] fs first rest = rw append-nil at rest
limits-append P counts before (e ∷ es) fs first rest =
    (first.0, limits-append P counts (before ++ e ∷ []) es fs first.1 (rw append_assoc rest))

-- what is refused just as this test says keeps the limits
refused_so : {S : Type 0} (P : Programs S) (counts : Counts) (before : List Event) (s : Actor S) (op : OpId) (h : Happening)
    → DoneAsFull (is_full before op.actor) h → FindsRoom P counts before s op h
refused_so P counts before s op (Began c) is = not_full (used before op.actor + 1) is
refused_so P counts before s op (NotBegun c) is = now_full (used before op.actor + 1) is
refused_so P counts before s op (Acted q x h) is = absurd is
refused_so P counts before s op (Ended a) is = tt
refused_so P counts before s op Stopped is = tt
refused_so P counts before s op (Failed a) is = subst (EndsFull P counts before s op) (sym is) tt

refuses_so : {S : Type 0} (P : Programs S) (counts : Counts) (before es : List Event) → RefusesAsFull is_full before es
    → KeepsLimitsAfter P counts before es
refuses_so P counts before [] is = tt
refuses_so P counts before (Own op h ∷ es) is = (
  refused_so P counts before ((moment P counts before).actors op.actor) op h is.0,
  refuses_so P counts (before ++ Own op h ∷ []) es is.1,
)
refuses_so P counts before (Dumped ∷ es) is = (tt, refuses_so P counts (before ++ Dumped ∷ []) es is.1)

-- ---- the only run

step_on : (clients : ℕ) (l : Line) → IsWithin clients l → StepsOn l
step_on clients (lines.Client client actor (acts.Step n)) w = w.1
step_on clients (lines.Client client actor (acts.Do c)) w = tt
step_on clients (lines.Client client actor (acts.Begin c)) w = tt
step_on clients (lines.Client client actor acts.Run) w = tt
step_on clients (lines.Client client actor acts.Stop) w = tt
step_on clients lines.Dump w = tt
step_on clients (lines.Store counts) w = tt
step_on clients lines.Sweep w = tt
step_on clients (lines.Lose disk) w = tt

all_step_on : (clients : ℕ) (ls : List Line) → AllByRecursion (IsWithin clients) ls → AllStepOn ls
all_step_on clients [] all = tt
all_step_on clients (l ∷ ls) all = (step_on clients l all.0, all_step_on clients ls all.1)

only_run : {S : Type 0} (P : Programs S) (plan : Plan) (history : List Event) → IsPlayable P plan → IsWorldRun P plan.counts history
    → KeepsLimits P plan.counts history → Follows plan.lines history → EndsAtOnce P (opening plan.counts) history → IsOnlyRun P plan history
only_run P plan history is run limits follows at_once looks memory other smooth follows_too =
    script_fixes_run_without_looks P looks plan.counts plan.lines other history
    (all_step_on (length plan.clients) plan.lines is.within) smooth
    (record { run = run; limits = limits; memory = memory; at_once = at_once }) follows_too follows

pub cut_by : {S : Type 0} (P : Programs S) (plan : Plan) (n : ℕ) (world : Life) (old new : Option (List ℕ)) → IsPlayable P plan
    → HasPlayed P plan (take n plan.lines) world
    → AppendsPrefix old new (lines_text (plan_report plan world.history)) → IsCutReplay P plan old new
cut_by P plan n world old new is r part =
    let all : take n plan.lines ++ drop n plan.lines ≡ plan.lines = take-append-drop n plan.lines in
    let on = each_script_can_be_run_out P is_full plan.counts (take n plan.lines) (drop n plan.lines) world.history (rw all is.in_turn)
    (rw all is.few) r.run r.follows in
    let whole : List Event = world.history ++ on.0 in
    let shown : plan_report plan whole ≡ plan_report plan world.history ++ report_after plan.clients world.history on.0 =
    report-append plan.clients [] world.history on.0 in
    let text : lines_text (plan_report plan whole) ≡ lines_text (plan_report plan world.history) ++ lines_text
    (report_after plan.clients world.history on.0) =
    ap lines_text shown ∙ lines-append (plan_report plan world.history) (report_after plan.clients world.history on.0) in
    let limits : KeepsLimits P plan.counts whole =
    limits-append P plan.counts [] world.history on.0 r.limits (refuses_so P plan.counts world.history on.0 on.4) in
    let follows : Follows plan.lines whole = subst (λ ls. Follows ls whole) all on.2 in
    let at_once : EndsAtOnce P (opening plan.counts) whole =
    at_once-append P (opening plan.counts) world.history on.0 r.at_once on.3 in
    record {
      history = whole;
      of_plan = record {
        run = on.1;
        limits = limits;
        follows = follows;
        at_once = at_once;
        fixed = only_run P plan whole is on.1 limits follows at_once;
      };
      written = prefix_less old new (lines_text (plan_report plan whole)) end_text (rw text (prefix_longer old new _ _ part)) (omega arith);
    }

pub run_of_all : {S : Type 0} (P : Programs S) (plan : Plan) (n : ℕ) (world : Life) → IsPlayable P plan → length plan.lines ≤ n
    → HasPlayed P plan (take n plan.lines) world
    → IsRunOf P plan world.history
run_of_all P plan n world is le r =
    let follows : Follows plan.lines world.history = subst (λ ls. Follows ls world.history) (take_all n plan.lines le) r.follows in
    record {
      run = r.run;
      limits = r.limits;
      follows = follows;
      at_once = r.at_once;
      fixed = only_run P plan world.history is r.run r.limits follows r.at_once;
    }
