-- the laws of every run
use Rattle.std.proofs.Common.{◌≡◌, ◌≢◌, ◌||◌, ℕ, List, [], ◌∷◌, true, false, take, is_some, Option, Some, None, refl}
use Rattle.std.proofs.Common.{subst, arith}
use Rattle.tect_ids.specs.declared.ids.Counts.{Counts}
use Rattle.tect_ids.specs.declared.ids.OpId.{OpId}
use Rattle.tect_ids.specs.declared.answer.Answer.{Answer}
use Rattle.tect_ids.specs.declared.answer.Answer.TheVariants as answers
use Rattle.store_rules.specs.Store.{Store}
use Rattle.program_forms.specs.declared.standing.Standing.{Standing}
use Rattle.program_forms.specs.declared.standing.Standing.TheVariants.{Goes, Left, NoRoom}
use Rattle.program_forms.specs.Memories.{Memory}
use Rattle.program_forms.specs.Kinds.{Does, Asks, Says, Programs, asked_by, said_by, next_does}
use Rattle.world_runs.specs.declared.event.Event.{Event}
use Rattle.world_runs.specs.declared.event.Event.TheVariants.{Own, Dumped}
use Rattle.world_runs.specs.Actors.{Running, program_answer, standing_does, asked_in, answer_in}
use Rattle.world_runs.specs.Moments.{WorldState, RunFrom, IsWorldRun, moment, after, after_all, opening, running}
use Rattle.whole_runs.proofs.Fronts.{front_runs}
use Rattle.whole_runs.proofs.Owns.{store_is_after}
use Rattle.claim_words.specs.Sound.{IsSoundStore}
use Rattle.store_pasts.specs.Worlds.{World, Ghost, opening_ghost}
use Rattle.store_world.specs.Sound.{Sound}
use Rattle.program_laws.specs.Known.{Deciding, Known, IsActor, is_odd}
use Rattle.program_laws.specs.Laws.{ProgramLaws}
use Rattle.run_laws.specs.Pasts.{ghosts_after, ghosts, ghost_after, world_of, world}
use Rattle.run_laws.specs.Known.{RunsSoundly, ActorSound, AllSound, WhatIsKnownIsSo}
use Rattle.run_laws.specs.Laws.{EveryMomentIsSound, NoRunAnswersOdd, RunningGoesOn, NumbersStaySmall, RunningIsLastBegun}
use Rattle.run_laws.proofs.Turns.{RunsAs, runs_as, says_it}
use Rattle.run_laws.proofs.MomentsKeep.{event_sound, opening_all_sound}

-- a sound world's store is sound
store_sound : (w : World) → Sound w → IsSoundStore w.store
store_sound w s = record {
  entries = record {
    in_dir = λ k e is. s.entries.in_dir k (rw is refl);
    listed = λ k e is. s.holds.set e.hold _ (s.entries.bound k e is) refl;
    bound_once = λ k l e d is it same. grind (arith, s.entries.bound k e is, s.entries.bound l d it);
    named_once = λ k l e d is it same. grind (arith, s.entries.at_home k e is, s.entries.at_home l d it);
  };
  tree = record {
    in_parent = λ k e d x is dir at. s.tree.named d x.parent k (rw at refl) (rw (← dir) (s.entries.at_home k e is));
    leads_to_root = λ d stands. s.tree.climbs d (grind arith);
    root_unnamed = λ k e is dir. grind (arith, s.entries.at_home k e is, s.tree.root_home);
  };
}

module _ {S : Type 0} (P : Programs S) (D : Deciding S Answer) (N : Known S Answer) (laws : ProgramLaws P D N) where
  -- a run keeps what is so at every moment
  pub run_keeps : (events : List Event) (m : WorldState S) (g : Ghost) → AllSound N m g → RunFrom P m events
      → AllSound N (after_all P m events) (ghosts_after P D m g events)
  run_keeps [] m g s run = s
  run_keeps (Own op h ∷ es) m g s run = run_keeps es (after P m (Own op h)) (ghost_after P D m g (Own op h))
      (event_sound P D N laws m g (Own op h) s run.0) run.1
  run_keeps (Dumped ∷ es) m g s run = run_keeps es m g s run.1

  -- what is so at every moment is so after the run
  pub what_is_known_is_so : WhatIsKnownIsSo P D N
  what_is_known_is_so counts events run = run_keeps events (opening counts) opening_ghost (opening_all_sound N counts) run

  -- the store beside its past is sound after the run
  pub run_world_sound : (counts : Counts) (events : List Event) → IsWorldRun P counts events → Sound (world P D counts events)
  run_world_sound counts events run = subst (λ (t : Store). Sound record { store = t; ghost = ghosts P D counts events })
      (store_is_after P (opening counts) events) (what_is_known_is_so counts events run).sound

  -- at each moment of a run the store is sound
  pub sound_at_each_moment : EveryMomentIsSound P
  sound_at_each_moment counts events run n =
      store_sound (world P D counts (take n events))
      (run_world_sound counts (take n events) (front_runs P n events (opening counts) run))

  -- an actor's numbers stay small
  pub numbers_stay_small : NumbersStaySmall P
  numbers_stay_small counts events run a =
      let all : AllSound N (moment P counts events) (ghosts P D counts events) = what_is_known_is_so counts events run in
      record { serial_small = (all.actors a).few_made; number_small = (all.actors a).few_begun }

  -- what the running command of an actor knows
  pub knows_of : (m : WorldState S) (g : Ghost) → AllSound N m g → (a : ℕ) (r : Running S) → (m.actors a).running ≡ Some r
      → RunsSoundly N (world_of m g) a (m.actors a).memory (m.actors a).number r
  knows_of m g s a r is = rw is at (s.actors a).running

  -- it is the last that the actor began
  pub running_is_last_begun : RunningIsLastBegun P
  running_is_last_begun counts events run a r is =
      let k : RunsSoundly N (world_of (moment P counts events) (ghosts P D counts events)) a ((moment P counts events).actors a).memory
      ((moment P counts events).actors a).number r
      = knows_of (moment P counts events) (ghosts P D counts events) (what_is_known_is_so counts events run) a r is in
      record { own = k.own; last = k.last; is_actor = k.is_actor }

  -- an answer that a command has come to is not odd
  module _ (m : WorldState S) (g : Ghost) (s : AllSound N m g) (op : OpId) (a : Answer) where
    standing_plain : (r : Running S) → RunsAs (m.actors op.actor).running op r → (at : Standing S)
        → RunsSoundly N (world_of m g) op.actor (m.actors op.actor).memory (m.actors op.actor).number record { op = op; at = at }
        → answer_in (standing_does P m.counts (m.actors op.actor).memory op at) ≡ Some a → is_odd a ≡ false
    standing_plain r runs (Goes st) k e =
        let part : ActorSound N (world_of m g) op.actor (m.actors op.actor) = s.actors op.actor in
        let is_actor : IsActor op (m.actors op.actor).memory
        = record { from = k.is_actor.0; few = omega (arith, part.few_made, part.few_begun) } in
        let says : next_does P.kind m.counts (m.actors op.actor).memory op st ≡ Says a
        = says_it (next_does P.kind m.counts (m.actors op.actor).memory op st) a e in
        laws.plain (world_of m g) a
        (rw says at (laws.kind.meets m.counts (world_of m g) op (m.actors op.actor).memory st part.remembers is_actor k.at))
    standing_plain r runs Left k e = absurd (let f : None ≡ Some a = e in cc)
    standing_plain r runs NoRoom k e = grind (arith, e)

    answered_plain : (o : Option (Running S)) → running m op ≡ o → program_answer P m.counts (m.actors op.actor).memory o ≡ Some a
        → is_odd a ≡ false
    answered_plain None e is = absurd (let f : None ≡ Some a = is in cc)
    answered_plain (Some r) e is =
        let runs : RunsAs (m.actors op.actor).running op r = runs_as (m.actors op.actor).running op r e in
        let k : RunsSoundly N (world_of m g) op.actor (m.actors op.actor).memory (m.actors op.actor).number r
        = knows_of m g s op.actor r runs.is in
        standing_plain r runs r.at
        (subst (λ (o : OpId). RunsSoundly N (world_of m g) op.actor (m.actors op.actor).memory (m.actors op.actor).number
        record { op = o; at = r.at }) runs.same k)
        (subst (λ (o : OpId). answer_in (standing_does P m.counts (m.actors op.actor).memory o r.at) ≡ Some a) runs.same is)

  -- no run answers that a reply was odd
  pub no_run_answers_odd : NoRunAnswersOdd P
  no_run_answers_odd counts events run op place e =
      let plain : is_odd (answers.Odd place) ≡ false = answered_plain (moment P counts events) (ghosts P D counts events)
      (what_is_known_is_so counts events run) op (answers.Odd place) (running (moment P counts events) op) refl e in
      grind (arith, plain)

-- ---- a running command goes on

one_of_both : (d : Does Answer) → (is_some (asked_by d) || is_some (said_by d)) ≡ true
one_of_both (Asks q) = refl
one_of_both (Says a) = refl

module _ {S : Type 0} (P : Programs S) where
  standing_goes : (counts : Counts) (mem : Memory) (op : OpId) (at : Standing S) → at ≢ Left
      → (is_some (asked_in (standing_does P counts mem op at)) || is_some (answer_in (standing_does P counts mem op at))) ≡ true
  standing_goes counts mem op (Goes s) heard = one_of_both _
  standing_goes counts mem op Left heard = absurd (heard refl)
  standing_goes counts mem op NoRoom heard = refl

  pub running_goes_on : RunningGoesOn P
  running_goes_on counts events run op r is heard =
      rw is (standing_goes (moment P counts events).counts ((moment P counts events).actors op.actor).memory r.op r.at heard)
