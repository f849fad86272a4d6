-- each script in turn can be run on
use Rattle.std.proofs.Common.{◌≡◌, ◌<◌, ◌≤◌, ◌+◌, ◌^◌, ℕ, true, inl, inr, ◌⊎◌, Option, Some, None, List, [], ◌∷◌, ◌++◌, length, refl, sym}
use Rattle.std.proofs.Common.{ap}
use Rattle.std.proofs.Common.{subst, arith, take, length-append}
use Rattle.tect_ids.specs.declared.ids.OpId.{OpId}
use Rattle.tect_ids.specs.declared.command.Command.{Command}
use Rattle.tect_ids.specs.declared.script.Act.{Act}
use Rattle.tect_ids.specs.declared.script.Act.TheVariants as acts
use Rattle.tect_ids.specs.declared.script.Line.{Line}
use Rattle.tect_ids.specs.declared.script.Line.TheVariants as lines
use Rattle.world_runs.specs.declared.event.Event.{Event}
use Rattle.program_forms.specs.declared.standing.Standing.TheVariants.{Goes}
use Rattle.program_rules.specs.Served.{Program, begun as begin_of, started, is_served, programs}
use Rattle.world_runs.specs.declared.event.Event.TheVariants.{Own, Dumped}
use Rattle.world_runs.specs.declared.event.Happening.TheVariants.{Began, Ended, Stopped}
use Rattle.world_runs.specs.Actors.{Running, program_of, begun, running_op}
use Rattle.world_runs.specs.Moments.{WorldState, May, opening, after, after_all, RunFrom, IsWorldRun, moment, running}
use Rattle.world_runs.specs.Follows.{Acts, DoesLine, Busy, FollowsFrom, AllFindMemory}
use Rattle.whole_runs.specs.ClientStates.{ClientState, ClientStates, all_idle, with_state, state_left_at, states_after, TakesAct}
use Rattle.whole_runs.specs.ClientStates.{FitStatesFrom}
use Rattle.whole_runs.specs.ClientStates as states
use Rattle.script_runs.proofs.Running.{AllWell, all_well, event_well, opening_well, run_well}
use Rattle.whole_runs.proofs.Fronts.{front_runs}
use Rattle.script_runs.proofs.Histories.{run-front, run-append, find_memory-append}
use Rattle.whole_runs.specs.Standing.{busy_at, IsInState}
use Rattle.world_runs.specs.Smooth.{EndsAtOnce}
use Rattle.session_runs.specs.RunningOn.{AllHaveHeard, EachScriptCanBeRunOn}
use Rattle.session_runs.specs.Well.{NoneFails}
use Rattle.session_runs.proofs.Well.{none_fails-append, acts_go_well}
use Rattle.session_runs.proofs.Hearing.{event_heard, run_heard}
use Rattle.whole_runs.proofs.Actors.{changed_there}
use Rattle.script_runs.proofs.Lines.{IsBusy, busy_is, busy_runs, runs_as_its_op, IsDone, line_does, busy_after}
use Rattle.script_runs.proofs.FollowOn.{turn_front, turn_back, AllStand, stand_after, stand_by_turn, opening_stand, run_follows_on}
use Rattle.session_runs.proofs.CanEnd.{CanEnd, running_ends, to_end, end_follows, end_none_fails, end_finds, acts_take, finds_take}
use Rattle.script_runs.proofs.AtOnce.{at_once-append, end_at_once, take_at_once}

-- ---- a line

-- events that do the line
record CanDo (m : WorldState Program) (a : ℕ) (busy : Option OpId) (act : Act) : Type 0 where
  events : List Event
  next : Option OpId
  run : RunFrom programs m events
  does : DoesLine a busy act events next
  none_fails : NoneFails events
  finds : AllFindMemory events
  at_once : EndsAtOnce programs m events

nothing : (m : WorldState Program) (a : ℕ) (busy next : Option OpId) (act : Act) → DoesLine a busy act [] next → CanDo m a busy act
nothing m a busy next act does = record { events = []; next = next; run = tt; does = does; none_fails = tt; finds = tt; at_once = tt }

-- an idle actor
module _ (m : WorldState Program) (s : AllWell m) (heard : AllHaveHeard m) (a : ℕ) (c : Command) (from : 1 ≤ a) (upto : a ≤ 64)
    (served : is_served c ≡ true)
    (stood : IsInState states.Idle (m.actors a))
    (few : (m.actors a).number + 1 < 2 ^ 31) where
  -- its next op
  abbrev op : OpId
  op = record { actor = a; number = (m.actors a).number + 1 }

  -- it begins the command
  abbrev began : Event
  began = Own op (Began c)

  may : May programs m began
  may = ((record { idle = stood.0; goes_on = stood.1; next = refl; few = few; is_actor = (from, omega (arith, upto)) }, served), tt)

  -- it runs then
  abbrev first : Running Program
  first = record { op = op; at = Goes (started m.counts (m.actors a).memory (begin_of c)) }

  runs : running (after programs m began) op ≡ Some first
  runs = changed_there (λ st. program_of st.running op ≡ Some first) m.actors a (begun programs m.counts (m.actors a) op c)
      (runs_as_its_op (Some first) first op refl refl)

  can : CanEnd (after programs m began) op
  can = running_ends (after programs m began) (event_well programs m began s may) (event_heard m began may tt heard) op first runs

  can_begin : CanDo m a None (acts.Begin c)
  can_begin = record {
    events = began ∷ [];
    next = Some op;
    run = (may, tt);
    does = (op, began, refl, refl, (refl, refl), refl);
    none_fails = (tt, tt);
    finds = (tt, tt);
    at_once = (tt, tt);
  }

  can_do : CanDo m a None (acts.Do c)
  can_do = record {
    events = began ∷ to_end (after programs m began) op can;
    next = None;
    run = (may, can.run);
    does = (
      (
        op,
        began,
        to_end (after programs m began) op can,
        refl,
        refl,
        (refl, refl),
        (can.count, end_follows (after programs m began) op can),
      ),
      refl,
    );
    none_fails = (tt, end_none_fails (after programs m began) op can);
    finds = (tt, end_finds (after programs m began) op can);
    at_once = (
      tt,
      end_at_once programs op (after programs m began) can.count can.front (Own op (Ended can.answer)) (refl, tt) can.acts
          can.run,
    );
  }

-- a busy actor
module _ (m : WorldState Program) (s : AllWell m) (heard : AllHaveHeard m) (a : ℕ) (op : OpId) (is : busy_at m a ≡ Some op) where
  busy : IsBusy m a op
  busy = busy_is m s a op is

  runs_on : running m op ≡ Some busy.program
  runs_on = busy_runs m a op busy

  ends : CanEnd m op
  ends = running_ends m s heard op busy.program runs_on

  can_run : CanDo m a (Some op) acts.Run
  can_run = record {
    events = to_end m op ends;
    next = None;
    run = ends.run;
    does = ((ends.count, end_follows m op ends), refl);
    none_fails = end_none_fails m op ends;
    finds = end_finds m op ends;
    at_once = end_at_once programs op m ends.count ends.front (Own op (Ended ends.answer)) (refl, tt) ends.acts ends.run;
  }

  can_stop : CanDo m a (Some op) acts.Stop
  can_stop = record {
    events = Own op Stopped ∷ [];
    next = None;
    run = (((busy.program, runs_on), tt), tt);
    does = (refl, refl);
    none_fails = (tt, tt);
    finds = (tt, tt);
    at_once = (tt, tt);
  }

  -- it ends by then, or there are more transactions to come
  can_step : (n : ℕ) → (ends.count ≤ n) ⊎ (n + 1 ≤ ends.count) → CanDo m a (Some op) (acts.Step n)
  can_step n (inl short) = record {
    events = to_end m op ends;
    next = None;
    run = ends.run;
    does = inr ((ends.count, ends.front, Own op (Ended ends.answer), refl, ends.acts, (refl, tt), omega (arith, short)), refl);
    none_fails = end_none_fails m op ends;
    finds = end_finds m op ends;
    at_once = end_at_once programs op m ends.count ends.front (Own op (Ended ends.answer)) (refl, tt) ends.acts ends.run;
  }
  can_step n (inr long) =
      let these : Acts op n (take n ends.front) = acts_take op n ends.count ends.front (omega (arith, long)) ends.acts in
      record {
        events = take n ends.front;
        next = Some op;
        run = front_runs programs n ends.front m (run-front programs m ends.front (Own op (Ended ends.answer) ∷ []) ends.run);
        does = inl (these, refl);
        none_fails = acts_go_well op n (take n ends.front) these;
        finds = finds_take n ends.front ends.finds;
        at_once = take_at_once programs op m n ends.count ends.front (Own op (Ended ends.answer) ∷ []) long ends.acts ends.run;
      }

either : (n k : ℕ) → (n ≤ k) ⊎ (k + 1 ≤ n)
either n k = grind arith

module _ (m : WorldState Program) (s : AllWell m) (heard : AllHaveHeard m) (a : ℕ) where
  step_can : (n : ℕ) (busy : Option OpId) → busy_at m a ≡ busy → CanDo m a busy (acts.Step n)
  step_can n None is = nothing m a None None (acts.Step n) (refl, refl)
  step_can n (Some op) is = can_step m s heard a op is n (either _ n)

  run_can : (busy : Option OpId) → busy_at m a ≡ busy → CanDo m a busy acts.Run
  run_can None is = nothing m a None None acts.Run (refl, refl)
  run_can (Some op) is = can_run m s heard a op is

  stop_can : (busy : Option OpId) → busy_at m a ≡ busy → CanDo m a busy acts.Stop
  stop_can None is = nothing m a None None acts.Stop (refl, refl)
  stop_can (Some op) is = can_stop m s heard a op is

  -- any line in turn
  line_can : (state : ClientState) (act : Act) → 1 ≤ a → a ≤ 64 → TakesAct programs state act → IsInState state (m.actors a)
      → (m.actors a).number + 1 < 2 ^ 31 → CanDo m a (busy_at m a) act
  line_can states.Idle (acts.Do c) from upto takes stood few =
      subst (λ (o : Option OpId). CanDo m a o (acts.Do c)) (sym (ap running_op stood.0)) (can_do m s heard a c from upto takes stood few)
  line_can states.Idle (acts.Begin c) from upto takes stood few =
      subst (λ (o : Option OpId). CanDo m a o (acts.Begin c)) (sym (ap running_op stood.0))
      (can_begin m s heard a c from upto takes stood few)
  line_can states.Idle (acts.Step n) from upto takes stood few = absurd takes
  line_can states.Idle acts.Run from upto takes stood few = absurd takes
  line_can states.Idle acts.Stop from upto takes stood few = absurd takes
  line_can states.Busy (acts.Do c) from upto takes stood few = absurd takes
  line_can states.Busy (acts.Begin c) from upto takes stood few = absurd takes
  line_can states.Busy (acts.Step n) from upto takes stood few = step_can n (busy_at m a) refl
  line_can states.Busy acts.Run from upto takes stood few = run_can (busy_at m a) refl
  line_can states.Busy acts.Stop from upto takes stood few = stop_can (busy_at m a) refl
  line_can states.Gone act from upto takes stood few = absurd takes

-- ---- lines

-- events that follow the lines
record CanFollow (m : WorldState Program) (ls : List Line) : Type 0 where
  events : List Event
  run : RunFrom programs m events
  follows : FollowsFrom (busy_at m) ls events
  none_fails : NoneFails events
  finds : AllFindMemory events
  at_once : EndsAtOnce programs m events

lines_can : (ls : List Line) (m : WorldState Program) (states : ClientStates) (k : ℕ) → AllWell m → AllHaveHeard m
    → FitStatesFrom programs states ls → AllStand m states k → k + length ls < 2 ^ 31 → CanFollow m ls
lines_can [] m states k s heard in_turn all few = record
    { events = []; run = tt; follows = refl; none_fails = tt; finds = tt; at_once = tt }
lines_can (lines.Client client a act ∷ ls) m states k s heard in_turn all few =
    let d : CanDo m a (busy_at m a) act = line_can m s heard a (states a) act in_turn.0 in_turn.1 in_turn.2 (all a).stands
    (omega (arith, (all a).began, few)) in
    let n : WorldState Program = after_all programs m d.events in
    let done : IsDone m n a act d.next = line_does programs m s a act d.events d.next d.run d.does in
    let rest : CanFollow n ls =
    lines_can ls n (with_state states a (state_left_at act)) (k + 1) (run_well programs d.events m s d.run)
    (run_heard m d.events d.run d.finds heard) in_turn.3
    (stand_after programs m n states k a act d.events d.next done d.does in_turn.2 all) (omega (arith, few)) in
    record {
      events = d.events ++ rest.events;
      run = run-append programs m d.events rest.events d.run rest.run;
      follows = (
        d.events,
        rest.events,
        d.next,
        refl,
        d.does,
        subst (λ (b : Busy). FollowsFrom b ls rest.events)
            (sym (busy_after m n a act d.next done)) rest.follows,
      );
      none_fails = none_fails-append d.events rest.events d.none_fails rest.none_fails;
      finds = find_memory-append d.events rest.events d.finds rest.finds;
      at_once = at_once-append programs m d.events rest.events d.at_once rest.at_once;
    }
lines_can (lines.Dump ∷ ls) m states k s heard in_turn all few =
    let rest : CanFollow m ls = lines_can ls m states k s heard in_turn all (omega (arith, few)) in
    record {
      events = Dumped ∷ rest.events;
      run = (tt, rest.run);
      follows = (rest.events, refl, rest.follows);
      none_fails = (tt, rest.none_fails);
      finds = (tt, rest.finds);
      at_once = (tt, rest.at_once);
    }
lines_can (lines.Store counts ∷ ls) m states k s heard in_turn all few = absurd in_turn
lines_can (lines.Sweep ∷ ls) m states k s heard in_turn all few = absurd in_turn
lines_can (lines.Lose disk ∷ ls) m states k s heard in_turn all few = absurd in_turn

-- ---- a script of two parts

pub each_script_can_be_run_on : EachScriptCanBeRunOn
each_script_can_be_run_on counts front back history in_turn few run f heard =
    let all : AllStand (moment programs counts history) (states_after all_idle front) (0 + length front) =
    stand_by_turn programs front (opening counts) all_idle 0 history (opening_well counts)
    (turn_front programs front back all_idle in_turn) run
    f (opening_stand counts) in
    let rest : CanFollow (moment programs counts history) back =
    lines_can back (moment programs counts history) (states_after all_idle front) (0 + length front) (all_well programs counts history run)
    heard (turn_back programs front back all_idle in_turn) all (omega (arith, few, length-append front back)) in
    let whole : IsWorldRun programs counts (history ++ rest.events) =
    run-append programs (opening counts) history rest.events run rest.run in (
      rest.events,
      whole,
      run_follows_on programs counts front back history rest.events whole f rest.follows,
      rest.none_fails,
      rest.finds,
      rest.at_once,
    )
