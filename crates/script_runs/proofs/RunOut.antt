-- each script in turn can be brought to its end without a further transaction
use Rattle.std.proofs.Common.{◌≡◌, ◌<◌, ◌≤◌, ◌+◌, ◌^◌, ℕ, inr, Bool, true, false, Option, Some, None, List, [], ◌∷◌, ◌++◌, length, refl}
use Rattle.std.proofs.Common.{sym, ap, subst, arith, append_assoc, length-append}
use Rattle.std.proofs.lemmas.List.{append-nil}
use Rattle.tect_ids.specs.declared.ids.OpId.{OpId}
use Rattle.tect_ids.specs.declared.answer.Answer.{Answer}
use Rattle.tect_ids.specs.declared.answer.Answer.TheVariants as answers
use Rattle.tect_ids.specs.declared.command.Command.{Command}
use Rattle.tect_ids.specs.declared.script.Act.{Act}
use Rattle.tect_ids.specs.declared.script.Act.TheVariants as acts
use Rattle.tect_ids.specs.declared.script.Line.{Line}
use Rattle.tect_ids.specs.declared.script.Line.TheVariants as lines
use Rattle.program_forms.specs.declared.standing.Standing.TheVariants.{Goes, NoRoom}
use Rattle.program_forms.specs.Kinds.{Programs}
use Rattle.world_runs.specs.declared.event.Event.{Event}
use Rattle.world_runs.specs.declared.event.Event.TheVariants.{Own, Dumped}
use Rattle.world_runs.specs.declared.event.Happening.TheVariants.{Began, NotBegun, Acted, Ended, Stopped, Failed}
use Rattle.world_runs.specs.Actors.{Actor, Running, CanBegin, running_op, program_of, begun, not_begun}
use Rattle.world_runs.specs.Moments.{WorldState, May, opening, after, after_all, RunFrom, IsWorldRun, moment, running, answered}
use Rattle.world_runs.specs.Follows.{IsEndOf, IsBeginOf, tries, DoesLine, Busy, FollowsFrom}
use Rattle.whole_runs.specs.ClientStates.{ClientState, ClientStates, all_idle, with_state, state_left_at, states_after, TakesAct}
use Rattle.whole_runs.specs.ClientStates.{FitStatesFrom}
use Rattle.whole_runs.specs.ClientStates as states
use Rattle.whole_runs.specs.Standing.{busy_at, IsInState}
use Rattle.world_runs.specs.Smooth.{IsPrompt, EndsAtOnce}
use Rattle.whole_runs.proofs.Actors.{changed_there}
use Rattle.script_runs.specs.RunningOut.{HappensAsFull, RefusesAsFull}
use Rattle.script_runs.specs.Laws.{EachScriptCanBeRunOut}
use Rattle.script_runs.proofs.Histories.{run-append}
use Rattle.script_runs.proofs.Running.{AllWell, opening_well, run_well, all_well}
use Rattle.script_runs.proofs.Lines.{IsBusy, busy_is, busy_runs, runs_as_its_op, IsDone, line_does, busy_after}
use Rattle.script_runs.proofs.FollowOn.{turn_front, turn_back, AllStand, stand_after, stand_by_turn, opening_stand, run_follows_on}

-- ---- one list of such events after another

pub refuses-append : (full : List Event → ℕ → Bool) (before es fs : List Event) → RefusesAsFull full before es
    → RefusesAsFull full (before ++ es) fs → RefusesAsFull full before (es ++ fs)
refuses-append full before [] fs first then = rw append-nil at then
refuses-append full before (e ∷ es) fs first then = (
  first.0,
  refuses-append full (before ++ e ∷ []) es fs first.1
      (subst (λ (l : List Event). RefusesAsFull full l fs) (sym (append_assoc before (e ∷ []) es)) then),
)

module _ {S : Type 0} (P : Programs S) (full : List Event → ℕ → Bool) where
  -- none of them is a transaction
  full_prompt : (before : List Event) (m : WorldState S) (e : Event) (es : List Event) → HappensAsFull full before e → IsPrompt P m e es
  full_prompt before m (Own op (Began c)) es r = tt
  full_prompt before m (Own op (NotBegun c)) es r = tt
  full_prompt before m (Own op (Acted q x h)) es r = absurd r
  full_prompt before m (Own op (Ended a)) es r = tt
  full_prompt before m (Own op Stopped) es r = tt
  full_prompt before m (Own op (Failed a)) es r = tt
  full_prompt before m Dumped es r = tt

  pub refuses_at_once : (before : List Event) (m : WorldState S) (es : List Event) → RefusesAsFull full before es → EndsAtOnce P m es
  refuses_at_once before m [] r = tt
  refuses_at_once before m (e ∷ es) r =
      (full_prompt before (after P m e) e es r.0, refuses_at_once (before ++ e ∷ []) (after P m e) es r.1)

  -- ---- an op that runs

  -- its end: with its answer, if it has one, or for want of memory
  pub record EndsNow (m : WorldState S) (op : OpId) : Type 0 where
    pub end : Event
    pub may : May P m end
    pub ends : IsEndOf op end
    pub no_try : tries end ≡ 0
    pub refuses : (before : List Event) → RefusesAsFull full before (end ∷ [])

  pub ends_now : (m : WorldState S) (op : OpId) (r : Running S) → running m op ≡ Some r → EndsNow m op
  ends_now m op r runs = at (answered P m op) refl
    where
      at : (o : Option Answer) → answered P m op ≡ o → EndsNow m op
      at (Some a) says = record {
        end = Own op (Ended a);
        may = (says, tt);
        ends = (refl, tt);
        no_try = refl;
        refuses = λ before. (tt, tt);
      }
      at None says = record {
        end = Own op (Failed answers.NoMemory);
        may = ((tt, (r, runs)), tt);
        ends = (refl, tt);
        no_try = refl;
        refuses = λ before. (refl, tt);
      }

  -- the end of the op that an actor is busy with
  pub busy_ends : (m : WorldState S) → AllWell m → (a : ℕ) (op : OpId) → busy_at m a ≡ Some op → EndsNow m op
  busy_ends m s a op is = let busy : IsBusy m a op = busy_is m s a op is in ends_now m op busy.program (busy_runs m a op busy)

  -- ---- a line

  -- events that do the line
  record CanDo (before : List Event) (m : WorldState S) (a : ℕ) (busy : Option OpId) (act : Act) : Type 0 where
    events : List Event
    next : Option OpId
    run : RunFrom P m events
    does : DoesLine a busy act events next
    refuses : RefusesAsFull full before events

  nothing : (before : List Event) (m : WorldState S) (a : ℕ) (busy next : Option OpId) (act : Act) → DoesLine a busy act [] next
      → CanDo before m a busy act
  nothing before m a busy next act does = record { events = []; next = next; run = tt; does = does; refuses = tt }

  -- an idle actor
  module _ (before : List Event) (m : WorldState S) (a : ℕ) (c : Command) (from : 1 ≤ a) (upto : a ≤ 64) (served : P.serves c ≡ true)
      (stood : IsInState states.Idle (m.actors a))
      (few : (m.actors a).number + 1 < 2 ^ 31) where
    -- its next op
    abbrev op : OpId
    op = record { actor = a; number = (m.actors a).number + 1 }

    can_begin : CanBegin (m.actors a) op
    can_begin = record { idle = stood.0; goes_on = stood.1; next = refl; few = few; is_actor = (from, omega (arith, upto)) }

    -- it begins the command, or is refused
    record Begins : Type 0 where
      begin : Event
      may : May P m begin
      is : IsBeginOf op c begin
      program : Running S
      runs : running (after P m begin) op ≡ Some program
      refuses : RefusesAsFull full before (begin ∷ [])

    abbrev starting : Running S
    starting = record { op = op; at = Goes (P.starts m.counts (m.actors a).memory c) }

    abbrev declined : Running S
    declined = record { op = op; at = NoRoom }

    begins_as : (b : Bool) → full before a ≡ b → Begins
    begins_as false is = record {
      begin = Own op (Began c);
      may = ((can_begin, served), tt);
      is = (refl, refl);
      program = starting;
      runs = changed_there (λ (s : Actor S). program_of s.running op ≡ Some starting) m.actors a (begun P m.counts (m.actors a) op c)
          (runs_as_its_op (Some starting) starting op refl refl);
      refuses = (is, tt);
    }
    begins_as true is = record {
      begin = Own op (NotBegun c);
      may = ((can_begin, served), tt);
      is = (refl, refl);
      program = declined;
      runs = changed_there (λ (s : Actor S). program_of s.running op ≡ Some declined) m.actors a (not_begun (m.actors a) op)
          (runs_as_its_op (Some declined) declined op refl refl);
      refuses = (is, tt);
    }

    begins : Begins
    begins = begins_as (full before a) refl

    begin_can : CanDo before m a None (acts.Begin c)
    begin_can = record {
      events = begins.begin ∷ [];
      next = Some op;
      run = (begins.may, tt);
      does = (op, begins.begin, refl, refl, begins.is, refl);
      refuses = begins.refuses;
    }

    ends : EndsNow (after P m begins.begin) op
    ends = ends_now (after P m begins.begin) op begins.program begins.runs

    do_can : CanDo before m a None (acts.Do c)
    do_can = record {
      events = begins.begin ∷ ends.end ∷ [];
      next = None;
      run = (begins.may, (ends.may, tt));
      does = ((op, begins.begin, ends.end ∷ [], refl, refl, begins.is, (0, ([], ends.end, refl, refl, ends.ends))), refl);
      refuses = refuses-append full before (begins.begin ∷ []) (ends.end ∷ []) begins.refuses (ends.refuses (before ++ begins.begin ∷ []));
    }

  module _ (before : List Event) (m : WorldState S) (s : AllWell m) (a : ℕ) where
    step_can : (n : ℕ) (busy : Option OpId) → busy_at m a ≡ busy → CanDo before m a busy (acts.Step n)
    step_can n None is = nothing before m a None None (acts.Step n) (refl, refl)
    step_can n (Some op) is =
        let e : EndsNow m op = busy_ends m s a op is in
        record {
          events = e.end ∷ [];
          next = None;
          run = (e.may, tt);
          does = inr ((0, [], e.end, refl, refl, e.ends, omega (arith, e.no_try)), refl);
          refuses = e.refuses before;
        }

    run_can : (busy : Option OpId) → busy_at m a ≡ busy → CanDo before m a busy acts.Run
    run_can None is = nothing before m a None None acts.Run (refl, refl)
    run_can (Some op) is =
        let e : EndsNow m op = busy_ends m s a op is in
        record {
          events = e.end ∷ [];
          next = None;
          run = (e.may, tt);
          does = ((0, ([], e.end, refl, refl, e.ends)), refl);
          refuses = e.refuses before;
        }

    stop_can : (busy : Option OpId) → busy_at m a ≡ busy → CanDo before m a busy acts.Stop
    stop_can None is = nothing before m a None None acts.Stop (refl, refl)
    stop_can (Some op) is =
        let busy : IsBusy m a op = busy_is m s a op is in
        record {
          events = Own op Stopped ∷ [];
          next = None;
          run = (((busy.program, busy_runs m a op busy), tt), tt);
          does = (refl, refl);
          refuses = (tt, tt);
        }

    -- any line in turn
    line_can : (state : ClientState) (act : Act) → 1 ≤ a → a ≤ 64 → TakesAct P state act → IsInState state (m.actors a)
        → (m.actors a).number + 1 < 2 ^ 31 → CanDo before m a (busy_at m a) act
    line_can states.Idle (acts.Do c) from upto takes stood few =
        subst (λ (o : Option OpId). CanDo before m a o (acts.Do c)) (sym (ap running_op stood.0))
        (do_can before m a c from upto takes stood few)
    line_can states.Idle (acts.Begin c) from upto takes stood few =
        subst (λ (o : Option OpId). CanDo before m a o (acts.Begin c)) (sym (ap running_op stood.0))
        (begin_can before m a c from upto takes stood few)
    line_can states.Idle (acts.Step n) from upto takes stood few = absurd takes
    line_can states.Idle acts.Run from upto takes stood few = absurd takes
    line_can states.Idle acts.Stop from upto takes stood few = absurd takes
    line_can states.Busy (acts.Do c) from upto takes stood few = absurd takes
    line_can states.Busy (acts.Begin c) from upto takes stood few = absurd takes
    line_can states.Busy (acts.Step n) from upto takes stood few = step_can n (busy_at m a) refl
    line_can states.Busy acts.Run from upto takes stood few = run_can (busy_at m a) refl
    line_can states.Busy acts.Stop from upto takes stood few = stop_can (busy_at m a) refl
    line_can states.Gone act from upto takes stood few = absurd takes

  -- ---- lines

  -- events that follow the lines
  pub record CanRunOut (before : List Event) (m : WorldState S) (ls : List Line) : Type 0 where
    pub events : List Event
    pub run : RunFrom P m events
    pub follows : FollowsFrom (busy_at m) ls events
    pub refuses : RefusesAsFull full before events

  pub lines_run_out : (ls : List Line) (before : List Event) (m : WorldState S) (states : ClientStates) (k : ℕ) → AllWell m
      → FitStatesFrom P states ls
      → AllStand m states k → k + length ls < 2 ^ 31
      → CanRunOut before m ls
  lines_run_out [] before m states k s in_turn all few = record { events = []; run = tt; follows = refl; refuses = tt }
  lines_run_out (lines.Client client a act ∷ ls) before m states k s in_turn all few =
      let d : CanDo before m a (busy_at m a) act = line_can before m s a (states a) act in_turn.0 in_turn.1 in_turn.2 (all a).stands
      (omega (arith, (all a).began, few)) in
      let n : WorldState S = after_all P m d.events in
      let done : IsDone m n a act d.next = line_does P m s a act d.events d.next d.run d.does in
      let rest : CanRunOut (before ++ d.events) n ls =
      lines_run_out ls (before ++ d.events) n (with_state states a (state_left_at act)) (k + 1) (run_well P d.events m s d.run) in_turn.3
      (stand_after P m n states k a act d.events d.next done d.does in_turn.2 all) (omega (arith, few)) in
      record {
        events = d.events ++ rest.events;
        run = run-append P m d.events rest.events d.run rest.run;
        follows = (
          d.events,
          rest.events,
          d.next,
          refl {a = d.events ++ rest.events},
          d.does,
          subst (λ (b : Busy). FollowsFrom b ls rest.events)
              (sym (busy_after m n a act d.next done)) rest.follows,
        );
        refuses = refuses-append full before d.events rest.events d.refuses rest.refuses;
      }
  lines_run_out (lines.Dump ∷ ls) before m states k s in_turn all few =
      let rest : CanRunOut (before ++ Dumped ∷ []) m ls = lines_run_out ls (before ++ Dumped ∷ []) m states k s in_turn all
      (omega (arith, few)) in
      record {
        events = Dumped ∷ rest.events;
        run = (tt, rest.run);
        follows = (rest.events, refl, rest.follows);
        refuses = (tt, rest.refuses);
      }
  lines_run_out (lines.Store counts ∷ ls) before m states k s in_turn all few = absurd in_turn
  lines_run_out (lines.Sweep ∷ ls) before m states k s in_turn all few = absurd in_turn
  lines_run_out (lines.Lose disk ∷ ls) before m states k s in_turn all few = absurd in_turn

pub each_script_can_be_run_out : {S : Type 0} (P : Programs S) → EachScriptCanBeRunOut P
each_script_can_be_run_out P full counts front back history in_turn few run f =
    let all : AllStand (moment P counts history) (states_after all_idle front) (0 + length front) =
    stand_by_turn P front (opening counts) all_idle 0 history (opening_well counts) (turn_front P front back all_idle in_turn) run f
    (opening_stand counts) in
    let rest : CanRunOut P full history (moment P counts history) back =
    lines_run_out P full back history (moment P counts history) (states_after all_idle front) (0 + length front)
    (all_well P counts history run)
    (turn_back P front back all_idle in_turn) all
    (omega (arith, few, length-append front back)) in
    let whole : IsWorldRun P counts (history ++ rest.events) = run-append P (opening counts) history rest.events run rest.run in (
      rest.events,
      whole,
      run_follows_on P counts front back history rest.events whole f rest.follows,
      refuses_at_once P full history
          (moment P counts history) rest.events rest.refuses,
      rest.refuses,
    )
