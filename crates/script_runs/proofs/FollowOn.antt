-- a run follows on, and its actors stand by their clients' states
use Rattle.std.proofs.Common.{◌≡◌, ◌≢◌, ℕ, ◌+◌, List, [], ◌∷◌, ◌++◌, length, Option, refl, sym, ap, subst, ◌∙◌, arith, append_assoc}
use Rattle.tect_ids.specs.declared.ids.Counts.{Counts}
use Rattle.tect_ids.specs.declared.ids.OpId.{OpId}
use Rattle.tect_ids.specs.declared.script.Act.{Act}
use Rattle.tect_ids.specs.declared.script.Line.{Line}
use Rattle.tect_ids.specs.declared.script.Line.TheVariants as lines
use Rattle.program_forms.specs.Kinds.{Programs}
use Rattle.world_runs.specs.declared.event.Event.{Event}
use Rattle.world_runs.specs.declared.event.Event.TheVariants.{Dumped}
use Rattle.world_runs.specs.Moments.{WorldState, opening, after_all, RunFrom, moment}
use Rattle.world_runs.specs.Follows.{DoesLine, Busy, with_busy, FollowsFrom}
use Rattle.whole_runs.specs.ClientStates.{ClientStates, all_idle, with_state, state_left_at, states_after, TakesAct, FitStatesFrom}
use Rattle.whole_runs.specs.Standing.{busy_at}
use Rattle.whole_runs.proofs.Actors.{after_all-append, changed}
use Rattle.script_runs.specs.Laws.{RunFollowsOn, Stands, StandsByState}
use Rattle.script_runs.proofs.Histories.{run-front, run-rest}
use Rattle.script_runs.proofs.Running.{AllWell, opening_well, run_well}
use Rattle.script_runs.proofs.Lines.{IsDone, line_does, busy_after, turn_stands}

-- each actor stands so, and began at most that many commands
abbrev pub AllStand : {S : Type 0} → WorldState S → ClientStates → ℕ → Type 0
AllStand m states n = (a : ℕ) → Stands (states a) n (m.actors a)

-- before any line
pub opening_stand : {S : Type 0} (counts : Counts) → AllStand {S = S} (opening counts) all_idle 0
opening_stand counts a = record { stands = (refl, refl); began = omega arith }

module _ {S : Type 0} (P : Programs S) where
  -- ---- following on

  -- no event came first
  none_first : (m : WorldState S) (back : List Line) (history more : List Event) → history ≡ []
      → FollowsFrom (busy_at (after_all P m history)) back more → FollowsFrom (busy_at m) back (history ++ more)
  none_first m back history more none =
      subst (λ (h : List Event). FollowsFrom (busy_at (after_all P m h)) back more → FollowsFrom (busy_at m) back (h ++ more)) (sym none)
      (λ f. f)

  -- the moment after the events of a line and of further lines
  pub moment_by : (m : WorldState S) (history part rest : List Event) → history ≡ part ++ rest
      → after_all P m history ≡ after_all P (after_all P m part) rest
  moment_by m history part rest parts = ap (after_all P m) parts ∙ after_all-append P m part rest

  -- one line, and then the others
  pub follows_on : (front back : List Line) (m : WorldState S) (history more : List Event) → AllWell m → RunFrom P m history
      → FollowsFrom (busy_at m) front history
      → FollowsFrom (busy_at (after_all P m history)) back more → FollowsFrom (busy_at m) (front ++ back) (history ++ more)
  follows_on [] back m history more s run f then = none_first m back history more f then
  follows_on (lines.Client client a act ∷ ls) back m history more s run f then =
      let part : List Event = f.0 in
      let rest : List Event = f.1 in
      let whole : RunFrom P m (part ++ rest) = rw f.3 at run in
      let mine : RunFrom P m part = run-front P m part rest whole in
      let n : WorldState S = after_all P m part in
      let done : IsDone m n a act f.2 = line_does P m s a act part f.2 mine f.4 in
      let busy : with_busy (busy_at m) a f.2 ≡ busy_at n = busy_after m n a act f.2 done in
      let on : FollowsFrom (busy_at n) ls rest = subst (λ (b : Busy). FollowsFrom b ls rest) busy f.5 in
      let last : FollowsFrom (busy_at (after_all P n rest)) back more = subst (λ (z : WorldState S). FollowsFrom (busy_at z) back more)
      (moment_by m history part rest f.3) then in
      let more_lines : FollowsFrom (busy_at n) (ls ++ back) (rest ++ more) =
      follows_on ls back n rest more (run_well P part m s mine) (run-rest P m part rest whole) on last in (
        part,
        rest ++ more,
        f.2,
        ap (λ h. h ++ more) f.3 ∙ append_assoc part rest more,
        f.4,
        subst
            (λ (b : Busy). FollowsFrom b (ls ++ back) (rest ++ more)) (sym busy) more_lines,
      )
  follows_on (lines.Dump ∷ ls) back m history more s run f then =
      let rest : List Event = f.0 in
      let whole : RunFrom P m (Dumped ∷ rest) = rw f.1 at run in
      let last : FollowsFrom (busy_at (after_all P m rest)) back more = subst
      (λ (h : List Event). FollowsFrom (busy_at (after_all P m h)) back more) f.1 then in
      (rest ++ more, ap (λ h. h ++ more) f.1, follows_on ls back m rest more s whole.1 f.2 last)
  follows_on (lines.Store counts ∷ ls) back m history more s run f then = absurd f
  follows_on (lines.Sweep ∷ ls) back m history more s run f then = absurd f
  follows_on (lines.Lose disk ∷ ls) back m history more s run f then = absurd f

  pub run_follows_on : RunFollowsOn P
  run_follows_on counts front back history more run f then =
      follows_on front back (opening counts) history more (opening_well counts) (run-front P (opening counts) history more run) f then

  -- ---- states

  pub turn_front : (front back : List Line) (states : ClientStates) → FitStatesFrom P states (front ++ back) → FitStatesFrom P states front
  turn_front [] back states t = tt
  turn_front (lines.Client client a act ∷ ls) back states t =
      (t.0, t.1, t.2, turn_front ls back (with_state states a (state_left_at act)) t.3)
  turn_front (lines.Dump ∷ ls) back states t = turn_front ls back states t
  turn_front (lines.Store counts ∷ ls) back states t = absurd t
  turn_front (lines.Sweep ∷ ls) back states t = absurd t
  turn_front (lines.Lose disk ∷ ls) back states t = absurd t

  pub turn_back : (front back : List Line) (states : ClientStates) → FitStatesFrom P states (front ++ back)
      → FitStatesFrom P (states_after states front) back
  turn_back [] back states t = t
  turn_back (lines.Client client a act ∷ ls) back states t = turn_back ls back (with_state states a (state_left_at act)) t.3
  turn_back (lines.Dump ∷ ls) back states t = turn_back ls back states t
  turn_back (lines.Store counts ∷ ls) back states t = absurd t
  turn_back (lines.Sweep ∷ ls) back states t = absurd t
  turn_back (lines.Lose disk ∷ ls) back states t = absurd t

  -- they stand by the states after a line
  pub stand_after : (m n : WorldState S) (states : ClientStates) (k a : ℕ) (act : Act) (part : List Event) (next : Option OpId)
      → IsDone m n a act next
      → DoesLine a (busy_at m a) act part next
      → TakesAct P (states a) act → AllStand m states k → AllStand n (with_state states a (state_left_at act)) (k + 1)
  stand_after m n states k a act part next done does takes all b =
      changed (λ t. Stands t (k + 1) (n.actors b)) states a (state_left_at act) b (λ e. rw e own) other
    where
      own : Stands (state_left_at act) (k + 1) (n.actors a)
      own = record {
        stands = turn_stands P m n a (busy_at m a) (states a) act part next done does takes (all a).stands;
        began = omega (arith, done.number, (all a).began);
      }

      other : b ≢ a → Stands (states b) (k + 1) (n.actors b)
      other d = rw (done.others b d) record { stands = (all b).stands; began = omega (arith, (all b).began) }

  -- so they do after all lines
  pub stand_by_turn : (ls : List Line) (m : WorldState S) (states : ClientStates) (k : ℕ) (history : List Event) → AllWell m
      → FitStatesFrom P states ls
      → RunFrom P m history → FollowsFrom (busy_at m) ls history
      → AllStand m states k → AllStand (after_all P m history) (states_after states ls) (k + length ls)
  stand_by_turn [] m states k history s in_turn run f all = rw f
      (λ a. record { stands = (all a).stands; began = omega (arith, (all a).began) })
  stand_by_turn (lines.Client client a act ∷ ls) m states k history s in_turn run f all =
      let part : List Event = f.0 in
      let rest : List Event = f.1 in
      let whole : RunFrom P m (part ++ rest) = rw f.3 at run in
      let mine : RunFrom P m part = run-front P m part rest whole in
      let n : WorldState S = after_all P m part in
      let done : IsDone m n a act f.2 = line_does P m s a act part f.2 mine f.4 in
      let on : FollowsFrom (busy_at n) ls rest = subst (λ (b : Busy). FollowsFrom b ls rest) (busy_after m n a act f.2 done) f.5 in
      let now : AllStand n (with_state states a (state_left_at act)) (k + 1) =
      stand_after m n states k a act part f.2 done f.4 in_turn.2 all in
      let last : AllStand (after_all P n rest) (states_after (with_state states a (state_left_at act)) ls) (k + 1 + length ls) =
      stand_by_turn ls n (with_state states a (state_left_at act)) (k + 1) rest (run_well P part m s mine) in_turn.3
      (run-rest P m part rest whole)
      on now in
      rw (moment_by m history part rest f.3) (λ b. record { stands = (last b).stands; began = omega (arith, (last b).began) })
  stand_by_turn (lines.Dump ∷ ls) m states k history s in_turn run f all =
      let rest : List Event = f.0 in
      let whole : RunFrom P m (Dumped ∷ rest) = rw f.1 at run in
      let last : AllStand (after_all P m rest) (states_after states ls) (k + length ls) =
      stand_by_turn ls m states k rest s in_turn whole.1 f.2 all in
      rw f.1 (λ b. record { stands = (last b).stands; began = omega (arith, (last b).began) })
  stand_by_turn (lines.Store counts ∷ ls) m states k history s in_turn run f all = absurd f
  stand_by_turn (lines.Sweep ∷ ls) m states k history s in_turn run f all = absurd f
  stand_by_turn (lines.Lose disk ∷ ls) m states k history s in_turn run f all = absurd f

  pub stands_by_state : StandsByState P
  stands_by_state counts ls history in_turn run f a =
      let last : Stands (states_after all_idle ls a) (0 + length ls) ((moment P counts history).actors a) =
      stand_by_turn ls (opening counts) all_idle 0 history (opening_well counts) in_turn run f (opening_stand counts) a in
      record { stands = last.stands; began = omega (arith, last.began) }
