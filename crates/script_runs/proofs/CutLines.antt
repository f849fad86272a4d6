-- a run that stopped within a line can be brought to the end of its script without a further transaction
use Rattle.std.proofs.Common.{◌≡◌, ◌<◌, ◌≤◌, ◌+◌, ◌^◌, inl, inr, ℕ, Bool, Option, Some, None, List, [], ◌∷◌, ◌++◌, length, refl, sym}
use Rattle.std.proofs.Common.{ap, subst, ◌∙◌, arith, append_assoc}
use Rattle.std.proofs.lemmas.List.{append-nil}
use Rattle.tect_ids.specs.declared.ids.OpId.{OpId}
use Rattle.tect_ids.specs.declared.command.Command.{Command}
use Rattle.tect_ids.specs.declared.script.Act.{Act}
use Rattle.tect_ids.specs.declared.script.Act.TheVariants as acts
use Rattle.tect_ids.specs.declared.script.Line.{Line}
use Rattle.tect_ids.specs.declared.script.Line.TheVariants as lines
use Rattle.program_forms.specs.Kinds.{Programs}
use Rattle.world_runs.specs.declared.event.Event.{Event}
use Rattle.world_runs.specs.declared.event.Event.TheVariants.{Own, Dumped}
use Rattle.world_runs.specs.declared.event.Happening.TheVariants.{Stopped}
use Rattle.world_runs.specs.Moments.{WorldState, opening, after, after_all, RunFrom}
use Rattle.world_runs.specs.Follows.{Acts, IsEndOf, EndsAfter, EndsWithin, tries, IsBeginOf, DoesLine, Busy, with_busy, FollowsFrom}
use Rattle.whole_runs.specs.ClientStates.{ClientStates, all_idle, with_state, state_left_at, FitStatesFrom}
use Rattle.whole_runs.specs.Standing.{busy_at}
use Rattle.world_runs.specs.Smooth.{EndsAtOnce}
use Rattle.script_runs.specs.RunningOut.{RefusesAsFull}
use Rattle.script_runs.specs.Laws.{EachCutLineCanBeRunOut}
use Rattle.script_runs.proofs.Histories.{run-front, run-rest, run-append}
use Rattle.script_runs.proofs.Running.{AllWell, opening_well, run_well, event_well}
use Rattle.script_runs.proofs.Moves.{Keeps, acts_move, begin_moves}
use Rattle.script_runs.proofs.Lines.{busy_is, IsDone, line_does, busy_after, within_after}
use Rattle.script_runs.proofs.FollowOn.{AllStand, stand_after, opening_stand}
use Rattle.script_runs.proofs.AtOnce.{at_once-append, at_once-swap, at_once-rest, end_at_once, begin_once}
use Rattle.script_runs.proofs.Fronts.{fronts, both_none, ActsSome, acts_front, ends_front, within_front}
use Rattle.script_runs.proofs.RunOut.{EndsNow, busy_ends, CanRunOut, lines_run_out, refuses-append, refuses_at_once}

module _ {S : Type 0} (P : Programs S) (full : List Event → ℕ → Bool) where
  ends_once : (m : WorldState S) (op : OpId) (n : ℕ) (es : List Event) → EndsAfter op n es → RunFrom P m es → EndsAtOnce P m es
  ends_once m op n es e run = rw e.2 (end_at_once P op m n e.0 e.1 e.4 e.3 (rw e.2 at run))

  -- ---- a line that began

  -- with at most an end behind them, these events do the line
  record Completes (m : WorldState S) (a : ℕ) (busy : Option OpId) (act : Act) (h : List Event) : Type 0 where
    tail : List Event
    next : Option OpId
    run : RunFrom P m (h ++ tail)
    does : DoesLine a busy act (h ++ tail) next
    at_once : EndsAtOnce P m (h ++ tail)
    refuses : (before : List Event) → RefusesAsFull full before tail

  -- they did it
  whole : (m : WorldState S) (a : ℕ) (busy : Option OpId) (act : Act) (h : List Event) (next : Option OpId) → RunFrom P m h
      → DoesLine a busy act h next → EndsAtOnce P m h → Completes m a busy act h
  whole m a busy act h next run does at_once = record {
    tail = [];
    next = next;
    run = rw append-nil run;
    does = rw append-nil does;
    at_once = rw append-nil at_once;
    refuses = λ before. tt;
  }

  -- what an op that runs comes to: transactions, and an end
  record ToEnd (m : WorldState S) (op : OpId) (n : ℕ) (h : List Event) : Type 0 where
    end : Event
    is_end : IsEndOf op end
    no_try : tries end ≡ 0
    run : RunFrom P m (h ++ end ∷ [])
    ends : EndsAfter op n (h ++ end ∷ [])
    refuses : (before : List Event) → RefusesAsFull full before (end ∷ [])

  to_end : (m : WorldState S) → AllWell m → (op : OpId) (n : ℕ) (h : List Event) → busy_at m op.actor ≡ Some op → RunFrom P m h
      → Acts op n h → ToEnd m op n h
  to_end m s op n h busy run acts =
      let k : WorldState S = after_all P m h in
      let moved : Keeps m k op.actor (busy_at m op.actor) = acts_move P m op n h acts in
      let e : EndsNow P full k op = busy_ends P full k (run_well P h m s run) op.actor op (moved.busy ∙ busy) in
      record {
        end = e.end;
        is_end = e.ends;
        no_try = e.no_try;
        run = run-append P m h (e.end ∷ []) run (e.may, tt);
        ends = (h, e.end, refl, acts, e.ends);
        refuses = e.refuses;
      }

  module _ (m : WorldState S) (s : AllWell m) (a : ℕ) where
    -- a command that began
    module _ (c : Command) (op : OpId) (begin : Event) (own : op.actor ≡ a) (is : IsBeginOf op c begin) where
      does_whole : (n : ℕ) (h : List Event) → RunFrom P m (begin ∷ h) → EndsAfter op n h → Completes m a None (acts.Do c) (begin ∷ h)
      does_whole n h run ends = whole m a None (acts.Do c) (begin ∷ h) None run ((op, begin, h, own, refl, is, (n, ends)), refl)
          (begin_once P m op c begin h is (ends_once (after P m begin) op n h ends run.1))

      does_rest : (n : ℕ) (h : List Event) → RunFrom P m (begin ∷ h) → Acts op n h → Completes m a None (acts.Do c) (begin ∷ h)
      does_rest n h run acts =
          let e : ToEnd (after P m begin) op n h = to_end (after P m begin) (event_well P m begin s run.0) op n h
          (begin_moves P m op c begin is run.0).busy run.1 acts in
          record {
            tail = e.end ∷ [];
            next = None;
            run = (run.0, e.run);
            does = ((op, begin, h ++ e.end ∷ [], own, refl, is, (n, e.ends)), refl);
            at_once = begin_once P m op c begin (h ++ e.end ∷ []) is (ends_once (after P m begin) op n (h ++ e.end ∷ []) e.ends e.run);
            refuses = e.refuses;
          }

      does_on : (n : ℕ) (h tail : List Event) → RunFrom P m (begin ∷ h) → EndsAfter op n (h ++ tail)
          → Completes m a None (acts.Do c) (begin ∷ h)
      does_on n h tail run ends =
          elim (ends_front op n h tail ends) [
            | inl all ↦ does_whole n h run all
            | inr some ↦ does_rest some.count h run some.acts
          ]

    -- a command that goes on
    module _ (op : OpId) (own : op.actor ≡ a) (busy : busy_at m a ≡ Some op) where
      own_busy : busy_at m op.actor ≡ Some op
      own_busy = subst (λ (i : ℕ). busy_at m i ≡ Some op) (sym own) busy

      steps_rest : (n k : ℕ) (h : List Event) → RunFrom P m h → k ≤ n → Acts op k h → Completes m a (Some op) (acts.Step n) h
      steps_rest n k h run few acts =
          let e : ToEnd m op k h = to_end m s op k h own_busy run acts in
          record {
            tail = e.end ∷ [];
            next = None;
            run = e.run;
            does = inr ((k, h, e.end, refl, acts, e.is_end, omega (arith, few, e.no_try)), refl);
            at_once = ends_once m op k (h ++ e.end ∷ []) e.ends e.run;
            refuses = e.refuses;
          }

      steps_on : (n : ℕ) (h tail : List Event) → RunFrom P m h → EndsWithin op n (h ++ tail) → Completes m a (Some op) (acts.Step n) h
      steps_on n h tail run ends =
          elim (within_front op n h tail ends) [
            | inl all ↦
                let e : (k : ℕ) × EndsAfter op k h = within_after op n h all in
                whole m a (Some op) (acts.Step n) h None run (inr (all, refl)) (ends_once m op e.0 h e.1 run)
            | inr some ↦ steps_rest n some.count h run some.few some.acts
          ]

      runs_on : (n : ℕ) (h tail : List Event) → RunFrom P m h → EndsAfter op n (h ++ tail) → Completes m a (Some op) acts.Run h
      runs_on n h tail run ends =
          elim (ends_front op n h tail ends) [
            | inl all ↦ whole m a (Some op) acts.Run h None run ((n, all), refl) (ends_once m op n h all run)
            | inr some ↦
                let e : ToEnd m op some.count h = to_end m s op some.count h own_busy run some.acts in
                record {
                  tail = e.end ∷ [];
                  next = None;
                  run = e.run;
                  does = ((some.count, e.ends), refl);
                  at_once = ends_once m op some.count (h ++ e.end ∷ []) e.ends e.run;
                  refuses = e.refuses;
                }
          ]

    -- any line
    module _ (d : Event) (h tail : List Event) (run : RunFrom P m (d ∷ h)) where
      one_alone : (e : Event) → d ∷ h ++ tail ≡ e ∷ [] → (d ≡ e) × (h ≡ [])
      one_alone e is =
          let same : d ≡ e = cc in
          let others : h ++ tail ≡ [] = cc in
          (same, both_none h tail others)

      do_on : (c : Command) (op : OpId) (begin : Event) (rest : List Event) (n : ℕ) → op.actor ≡ a → d ∷ h ++ tail ≡ begin ∷ rest
          → IsBeginOf op c begin → EndsAfter op n rest → Completes m a None (acts.Do c) (d ∷ h)
      do_on c op begin rest n own is begins ends =
          let same : d ≡ begin = cc in
          let others : h ++ tail ≡ rest = cc in
          does_on c op d own (subst (λ (e : Event). IsBeginOf op c e) (sym same) begins) n h tail run
          (subst (λ (l : List Event). EndsAfter op n l) (sym others) ends)

      begin_on : (c : Command) (op : OpId) (begin : Event) → op.actor ≡ a → d ∷ h ++ tail ≡ begin ∷ [] → IsBeginOf op c begin
          → Completes m a None (acts.Begin c) (d ∷ h)
      begin_on c op begin own is begins =
          let one : (d ≡ begin) × (h ≡ []) = one_alone begin is in
          let here : IsBeginOf op c d = subst (λ (e : Event). IsBeginOf op c e) (sym one.0) begins in
          whole m a None (acts.Begin c) (d ∷ h) (Some op) run (op, d, own, ap (λ (l : List Event). d ∷ l) one.1, here, refl)
          (subst (λ (l : List Event). EndsAtOnce P m (d ∷ l)) (sym one.1) (begin_once P m op c d [] here tt))

      stop_on : (op : OpId) → d ∷ h ++ tail ≡ Own op Stopped ∷ [] → Completes m a (Some op) acts.Stop (d ∷ h)
      stop_on op is =
          let one : (d ≡ Own op Stopped) × (h ≡ []) = one_alone (Own op Stopped) is in
          let all : d ∷ h ≡ Own op Stopped ∷ [] = λ i. (one.0) i ∷ (one.1) i in
          whole m a (Some op) acts.Stop (d ∷ h) None run (all, refl) (subst (λ (l : List Event). EndsAtOnce P m l) (sym all) (tt, tt))

      line_on : (busy : Option OpId) (act : Act) (next : Option OpId) → busy_at m a ≡ busy → ((op : OpId) → busy ≡ Some op → op.actor ≡ a)
          → DoesLine a busy act (d ∷ h ++ tail) next
          → Completes m a busy act (d ∷ h)
      line_on None (acts.Do c) next is own f = do_on c (f.0).0 (f.0).1 (f.0).2 ((f.0).6).0 (f.0).3 (f.0).4 (f.0).5 ((f.0).6).1
      line_on None (acts.Begin c) next is own f = begin_on c f.0 f.1 f.2 f.3 f.4
      line_on None (acts.Step n) next is own f = absurd (let k : d ∷ h ++ tail ≡ [] = f.0 in cc)
      line_on None acts.Run next is own f = absurd (let k : d ∷ h ++ tail ≡ [] = f.0 in cc)
      line_on None acts.Stop next is own f = absurd (let k : d ∷ h ++ tail ≡ [] = f.0 in cc)
      line_on (Some op) (acts.Do c) next is own f = absurd f
      line_on (Some op) (acts.Begin c) next is own f = absurd f
      line_on (Some op) (acts.Step n) next is own (inl f) =
          let some : ActsSome op n (d ∷ h) = acts_front op n (d ∷ h) tail f.0 in
          steps_rest op (own op refl) is n some.count (d ∷ h) run some.few some.acts
      line_on (Some op) (acts.Step n) next is own (inr f) = steps_on op (own op refl) is n (d ∷ h) tail run f.0
      line_on (Some op) acts.Run next is own f = runs_on op (own op refl) is (f.0).0 (d ∷ h) tail run (f.0).1
      line_on (Some op) acts.Stop next is own f = stop_on op f.0

  -- ---- lines

  -- with these events behind it the front follows the lines
  record CanFinish (before h : List Event) (m : WorldState S) (ls : List Line) : Type 0 where
    events : List Event
    run : RunFrom P m (h ++ events)
    follows : FollowsFrom (busy_at m) ls (h ++ events)
    at_once : EndsAtOnce P m (h ++ events)
    refuses : RefusesAsFull full before events

  -- none of the lines began
  from_here : (before : List Event) (m : WorldState S) (ls : List Line) → CanRunOut P full before m ls → CanFinish before [] m ls
  from_here before m ls c = record {
    events = c.events;
    run = c.run;
    follows = c.follows;
    at_once = refuses_at_once P full before m c.events c.refuses;
    refuses = c.refuses;
  }

  module _ (client : List ℕ) (a : ℕ) (act : Act) (ls : List Line) (before : List Event) (m : WorldState S) (states : ClientStates) (k : ℕ)
      (s : AllWell m)
      (in_turn : FitStatesFrom P states (lines.Client client a act ∷ ls)) (all : AllStand m states k) where
    -- the first line began, and the others did not
    line_then : (h : List Event) → k + 1 + length ls < 2 ^ 31 → Completes m a (busy_at m a) act h
        → CanFinish before h m (lines.Client client a act ∷ ls)
    line_then h few c =
        let part : List Event = h ++ c.tail in
        let n : WorldState S = after_all P m part in
        let done : IsDone m n a act c.next = line_does P m s a act part c.next c.run c.does in
        let rest : CanRunOut P full (before ++ c.tail) n ls =
        lines_run_out P full ls (before ++ c.tail) n (with_state states a (state_left_at act)) (k + 1) (run_well P part m s c.run) in_turn.3
        (stand_after P m n states k a act part c.next done c.does in_turn.2 all) few in
        let one : part ++ rest.events ≡ h ++ (c.tail ++ rest.events) = append_assoc h c.tail rest.events in
        record {
          events = c.tail ++ rest.events;
          run = subst (λ (l : List Event). RunFrom P m l) one (run-append P m part rest.events c.run rest.run);
          follows = (
            part,
            rest.events,
            c.next,
            sym one,
            c.does,
            subst (λ (b : Busy). FollowsFrom b ls rest.events)
                (sym (busy_after m n a act c.next done)) rest.follows,
          );
          at_once = subst (λ (l : List Event). EndsAtOnce P m l) one
              (at_once-append P m part rest.events c.at_once (refuses_at_once P full (before ++ c.tail) n rest.events rest.refuses));
          refuses = refuses-append full before c.tail rest.events (c.refuses before) rest.refuses;
        }

    -- the first line was done, and these events come behind it
    line_done_then : (h rest part : List Event) (next : Option OpId) (d : Event) (tail : List Event) → h ≡ part ++ d ∷ tail
        → RunFrom P m part → DoesLine a (busy_at m a) act part next
        → EndsAtOnce P m (h ++ rest) → CanFinish before (d ∷ tail) (after_all P m part) ls
        → CanFinish before h m (lines.Client client a act ∷ ls)
    line_done_then h rest part next d tail parts mine does at_once f =
        let n : WorldState S = after_all P m part in
        let done : IsDone m n a act next = line_does P m s a act part next mine does in
        let behind : (es : List Event)
        → h ++ es ≡ part ++ (d ∷ tail ++ es) = λ es. ap (λ (l : List Event). l ++ es) parts ∙ append_assoc part (d ∷ tail) es in
        let so_far : EndsAtOnce P m (part ++ (d ∷ tail ++ rest)) = subst (λ (l : List Event). EndsAtOnce P m l) (behind rest) at_once in
        record {
          events = f.events;
          run = subst (λ (l : List Event). RunFrom P m l) (sym (behind f.events)) (run-append P m part (d ∷ tail ++ f.events) mine f.run);
          follows = (
            part,
            d ∷ tail ++ f.events,
            next,
            behind f.events,
            does,
            subst (λ (b : Busy). FollowsFrom b ls (d ∷ tail ++ f.events))
                (sym (busy_after m n a act next done)) f.follows,
          );
          at_once = subst (λ (l : List Event). EndsAtOnce P m l) (sym (behind f.events))
              (at_once-swap P m part d (tail ++ rest) (tail ++ f.events) so_far f.at_once);
          refuses = f.refuses;
        }

  cut_run_out : (front back : List Line) (before h rest : List Event) (m : WorldState S) (states : ClientStates) (k : ℕ) → AllWell m
      → FitStatesFrom P states (front ++ back) → AllStand m states k
      → k + length (front ++ back) < 2 ^ 31 → RunFrom P m h → FollowsFrom (busy_at m) front (h ++ rest) → EndsAtOnce P m (h ++ rest)
      → CanFinish before h m (front ++ back)
  cut_run_out front back before [] rest m states k s in_turn all few run f at_once = from_here before m (front ++ back)
      (lines_run_out P full (front ++ back) before m states k s in_turn all few)
  cut_run_out [] back before (d ∷ h) rest m states k s in_turn all few run f at_once = absurd (let z : d ∷ h ++ rest ≡ [] = f in cc)
  cut_run_out (lines.Client client a act ∷ ls) back before (d ∷ h) rest m states k s in_turn all few run f at_once =
      elim (fronts (d ∷ h) rest f.0 f.1 f.3) [
        | inl w ↦
            line_then client a act (ls ++ back) before m states k s in_turn all (d ∷ h) (omega (arith, few))
            (line_on m s a d h w.tail run (busy_at m a) act f.2 refl (λ op is. (busy_is m s a op is).own)
            (subst (λ (l : List Event). DoesLine a (busy_at m a) act l f.2) w.parts f.4))
        | inr b ↦
            let part : List Event = f.0 in
            let n : WorldState S = after_all P m part in
            let both : RunFrom P m (part ++ b.first ∷ b.tail) = subst (λ (l : List Event). RunFrom P m l) b.parts run in
            let mine : RunFrom P m part = run-front P m part (b.first ∷ b.tail) both in
            let done : IsDone m n a act f.2 = line_does P m s a act part f.2 mine f.4 in
            let on : FollowsFrom (busy_at n) ls (b.first ∷ b.tail ++ rest) =
            subst (λ (z : Busy). FollowsFrom z ls (b.first ∷ b.tail ++ rest)) (busy_after m n a act f.2 done)
            (subst (λ (l : List Event). FollowsFrom (with_busy (busy_at m) a f.2) ls l) b.laters f.5) in
            let parts : d ∷ h ++ rest ≡ part ++ (b.first ∷ b.tail ++ rest) = ap (λ (l : List Event). l ++ rest) b.parts ∙ append_assoc part
            (b.first ∷ b.tail) rest in
            let later : EndsAtOnce P n (b.first ∷ b.tail ++ rest) = at_once-rest P m part (b.first ∷ b.tail ++ rest)
            (subst (λ (l : List Event). EndsAtOnce P m l) parts at_once) in
            line_done_then client a act (ls ++ back) before m states k s in_turn all (d ∷ h) rest part f.2 b.first b.tail b.parts mine f.4
            at_once
            (cut_run_out ls back before (b.first ∷ b.tail) rest n (with_state states a (state_left_at act)) (k + 1)
            (run_well P part m s mine)
            in_turn.3
            (stand_after P m n states k a act part f.2 done f.4 in_turn.2 all) (omega (arith, few))
            (run-rest P m part (b.first ∷ b.tail) both)
            on later)
      ]
  cut_run_out (lines.Dump ∷ ls) back before (d ∷ h) rest m states k s in_turn all few run f at_once =
      let same : d ≡ Dumped = (let z : d ∷ h ++ rest ≡ Dumped ∷ f.0 = f.1 in cc) in
      let others : f.0 ≡ h ++ rest = (let z : d ∷ h ++ rest ≡ Dumped ∷ f.0 = f.1 in cc) in
      let ran : RunFrom P m (Dumped ∷ h) = subst (λ (e : Event). RunFrom P m (e ∷ h)) same run in
      let once : EndsAtOnce P m (Dumped ∷ h ++ rest) = subst (λ (e : Event). EndsAtOnce P m (e ∷ h ++ rest)) same at_once in
      let c : CanFinish before h m (ls ++ back) = cut_run_out ls back before h rest m states k s in_turn all (omega (arith, few)) ran.1
      (subst (λ (l : List Event). FollowsFrom (busy_at m) ls l) others f.2) once.1 in
      record {
        events = c.events;
        run = subst (λ (e : Event). RunFrom P m (e ∷ h ++ c.events)) (sym same) (tt, c.run);
        follows = (h ++ c.events, ap (λ (e : Event). e ∷ h ++ c.events) same, c.follows);
        at_once = subst (λ (e : Event). EndsAtOnce P m (e ∷ h ++ c.events)) (sym same) (tt, c.at_once);
        refuses = c.refuses;
      }
  cut_run_out (lines.Store counts ∷ ls) back before (d ∷ h) rest m states k s in_turn all few run f at_once = absurd f
  cut_run_out (lines.Sweep ∷ ls) back before (d ∷ h) rest m states k s in_turn all few run f at_once = absurd f
  cut_run_out (lines.Lose disk ∷ ls) back before (d ∷ h) rest m states k s in_turn all few run f at_once = absurd f

pub each_cut_line_can_be_run_out : {S : Type 0} (P : Programs S) → EachCutLineCanBeRunOut P
each_cut_line_can_be_run_out P full counts front back history rest in_turn few run f at_once =
    let c : CanFinish P full history history (opening counts) (front ++ back) =
    cut_run_out P full front back history history rest (opening counts) all_idle 0 (opening_well counts) in_turn (opening_stand counts)
    (omega (arith, few)) run f at_once in
    (c.events, c.run, c.follows, c.at_once, c.refuses)
