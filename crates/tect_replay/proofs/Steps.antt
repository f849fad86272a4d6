-- What the calls on an actor make of the world, as steps of a player.
use Rattle.std.proofs.Common.{◌≡◌, ℕ, ◌<◌, ◌≤◌, true, false, eqb, List, [], ◌∷◌, ◌++◌, refl, sym, ap}
use Rattle.std.proofs.Common.{subst, ◌∙◌, arith}
use Rattle.tect_ids.specs.declared.ids.OpId.{OpId}
use Rattle.tect_ids.specs.declared.answer.Answer.{Answer}
use Rattle.tect_ids.specs.declared.command.Command.{Command}
use Rattle.tect_ids.proofs.KeyTests.{num_eq_cases}
use Rattle.program_forms.specs.Kinds.{Programs}
use Rattle.world_runs.specs.declared.event.Event.{Event}
use Rattle.world_runs.specs.declared.event.Event.TheVariants.{Own, Dumped}
use Rattle.world_runs.specs.declared.event.Happening.{Happening}
use Rattle.world_runs.specs.declared.event.Happening.TheVariants.{Began, NotBegun, Acted, Ended, Stopped, Failed}
use Rattle.world_runs.specs.Actors.{has_ended}
use Rattle.world_runs.specs.Events.{own}
use Rattle.world_runs.specs.Follows.{Acts, IsActOf, IsBeginOf, IsEndOf}
use Rattle.world_runs.specs.Moments.{WorldState, after, running}
use Rattle.world_runs.specs.Smooth.{IsPrompt, EndIsNext, EndsAtOnce}
use Rattle.world_runs.specs.Races.{is_own}
use Rattle.world_runs.proofs.Actors.{own-append, own-here}
use Rattle.program_calls.specs.declared.turned.Turned.{Turned}
use Rattle.program_calls.specs.declared.turned.Turned.TheVariants.{Going, Done}
use Rattle.world_lives.specs.Life.{Life, present, grown, last_op, next_op, room_at}
use Rattle.world_lives.specs.Steps.{Stepped}
use Rattle.world_lives.specs.Steps as world_steps
use Rattle.world_lives.proofs.Grown.{present-grown}
use Rattle.world_lives.proofs.Running.{went_nearer}
use Rattle.players.specs.Players.{EndsWith, HasBegun, StepsOnce}
use Rattle.tect_replay.specs.declared.seat.Seat.{Seat}
use Rattle.replay_stories.specs.Plays.{IsKeptRun}
use Rattle.tect_replay.specs.Seats.{SeatGrew}

-- ---- whose the events are

same : (a : ℕ) → eqb a a ≡ true
same a = grind (arith, num_eq_cases a a)

same_own : (op other : OpId) (h : Happening) → other ≡ op → is_own op.actor (Own other h) ≡ true
same_own op other h is = ap (λ (p : OpId). eqb p.actor op.actor) is ∙ same op.actor

begin_own : (op : OpId) (c : Command) (e : Event) → IsBeginOf op c e → is_own op.actor e ≡ true
begin_own op c (Own o h) is = same_own op o h is.0
begin_own op c Dumped is = absurd is

end_own : (op : OpId) (e : Event) (a : Answer) → world_steps.EndsWith op e a → is_own op.actor e ≡ true
end_own op (Own o h) a is = same_own op o h is.0
end_own op Dumped a is = absurd is

act_own : (op : OpId) (e : Event) → IsActOf op e → is_own op.actor e ≡ true
act_own op (Own o h) is = same_own op o h is.0
act_own op Dumped is = absurd is

acts_own : (op : OpId) (n : ℕ) (es : List Event) → Acts op n es → own op.actor es ≡ es
acts_own op n [] acts = refl
acts_own op n (e ∷ es) (is, (rest, count, acts)) =
    own-here op.actor e es (act_own op e is) ∙ ap (λ (l : List Event). e ∷ l) (acts_own op rest es acts)

then_own : (op : OpId) (n : ℕ) (es : List Event) (end : Event) (a : Answer) → Acts op n es → world_steps.EndsWith op end a
    → own op.actor (es ++ end ∷ []) ≡ es ++ end ∷ []
then_own op n es end a acts ends =
    own-append op.actor es (end ∷ []) ∙ ap (λ (l : List Event). l ++ own op.actor (end ∷ [])) (acts_own op n es acts)
    ∙ ap (λ (l : List Event). es ++ l) (own-here op.actor end [] (end_own op end a ends))

-- ---- an end with an answer, in the words of players

ends_as : (op : OpId) (e : Event) (a : Answer) → world_steps.EndsWith op e a → EndsWith op e a
ends_as op (Own o (Ended x)) a is = is
ends_as op (Own o (Failed x)) a is = is
ends_as op (Own o (Began c)) a is = absurd is.1
ends_as op (Own o (NotBegun c)) a is = absurd is.1
ends_as op (Own o (Acted q x h)) a is = absurd is.1
ends_as op (Own o Stopped) a is = absurd is.1
ends_as op Dumped a is = absurd is

is_end : (op : OpId) (e : Event) (a : Answer) → world_steps.EndsWith op e a → IsEndOf op e
is_end op (Own o (Ended x)) a is = (is.0, tt)
is_end op (Own o (Failed x)) a is = (is.0, tt)
is_end op (Own o (Began c)) a is = absurd is.1
is_end op (Own o (NotBegun c)) a is = absurd is.1
is_end op (Own o (Acted q x h)) a is = absurd is.1
is_end op (Own o Stopped) a is = absurd is.1
is_end op Dumped a is = absurd is

-- ---- each command ends at once

module _ {S : Type 0} (P : Programs S) where
  begin_at_once : (m : WorldState S) (op : OpId) (c : Command) (e : Event) → IsBeginOf op c e → EndsAtOnce P m (e ∷ [])
  begin_at_once m op c (Own o (Began d)) is = (tt, tt)
  begin_at_once m op c (Own o (NotBegun d)) is = (tt, tt)
  begin_at_once m op c (Own o (Acted q x h)) is = absurd is.1
  begin_at_once m op c (Own o (Ended a)) is = absurd is.1
  begin_at_once m op c (Own o Stopped) is = absurd is.1
  begin_at_once m op c (Own o (Failed a)) is = absurd is.1
  begin_at_once m op c Dumped is = absurd is

  end_prompt : (m : WorldState S) (op : OpId) (e : Event) (a : Answer) → world_steps.EndsWith op e a → EndsAtOnce P m (e ∷ [])
  end_prompt m op (Own o (Ended x)) a is = (tt, tt)
  end_prompt m op (Own o (Failed x)) a is = (tt, tt)
  end_prompt m op (Own o (Began c)) a is = absurd is.1
  end_prompt m op (Own o (NotBegun c)) a is = absurd is.1
  end_prompt m op (Own o (Acted q x h)) a is = absurd is.1
  end_prompt m op (Own o Stopped) a is = absurd is.1
  end_prompt m op Dumped a is = absurd is

  -- a transaction is followed by its op's end, or did not end it
  act_prompt : (m : WorldState S) (op : OpId) (e : Event) (es : List Event) → IsActOf op e → EndIsNext op es → IsPrompt P m e es
  act_prompt m op (Own o (Acted q x h)) es is next = λ over. subst (λ (p : OpId). EndIsNext p es) (sym is.0) next
  act_prompt m op (Own o (Began c)) es is next = absurd is.1
  act_prompt m op (Own o (NotBegun c)) es is next = absurd is.1
  act_prompt m op (Own o (Ended a)) es is next = absurd is.1
  act_prompt m op (Own o Stopped) es is next = absurd is.1
  act_prompt m op (Own o (Failed a)) es is next = absurd is.1
  act_prompt m op Dumped es is next = absurd is

  going_prompt : (m : WorldState S) (op : OpId) (e : Event) → IsActOf op e
      → has_ended P m.counts (m.actors op.actor).memory (running m op) ≡ false → IsPrompt P m e []
  going_prompt m op (Own o (Acted q x h)) is goes = λ over.
      absurd (let none : has_ended P m.counts (m.actors o.actor).memory (running m o) ≡ false =
      subst (λ (p : OpId). has_ended P m.counts (m.actors p.actor).memory (running m p) ≡ false) (sym is.0) goes in
      let bad : true ≡ false = sym over ∙ none in cc)
  going_prompt m op (Own o (Began c)) is goes = absurd is.1
  going_prompt m op (Own o (NotBegun c)) is goes = absurd is.1
  going_prompt m op (Own o (Ended a)) is goes = absurd is.1
  going_prompt m op (Own o Stopped) is goes = absurd is.1
  going_prompt m op (Own o (Failed a)) is goes = absurd is.1
  going_prompt m op Dumped is goes = absurd is

  ends_prompt : (m : WorldState S) (op : OpId) (n : ℕ) (es : List Event) (end : Event) (a : Answer) → n ≤ 1 → Acts op n es
      → world_steps.EndsWith op end a → EndsAtOnce P m (es ++ end ∷ [])
  ends_prompt m op n [] end a few acts ends = end_prompt m op end a ends
  ends_prompt m op n (e ∷ []) end a few acts ends =
      (act_prompt (after P m e) op e (end ∷ []) acts.0 (is_end op end a ends), end_prompt (after P m e) op end a ends)
  ends_prompt m op n (e ∷ f ∷ es) end a few (is, (rest, count, (other, (more, counted, acts)))) ends =
      absurd (omega (arith, few, count, counted))

-- ---- the calls

module _ {S : Type 0} (P : Programs S) (s : Seat) (old new : Life) where
  abbrev op : OpId
  op = last_op (present P old) s.actor

  pub seat_begins : (c : Command) → world_steps.HasBegun old new (next_op (present P old) s.actor) c
      → HasBegun (SeatGrew P s old s new) (next_op (present P old) s.actor) c
  seat_begins c h = record {
    begin = h.begin;
    begins = h.begins;
    grown = record {
      seat = refl;
      history = h.history;
      mine = own-here s.actor h.begin [] (begin_own (next_op (present P old) s.actor) c h.begin h.begins);
      at_once = begin_at_once P (present P old) (next_op (present P old) s.actor) c h.begin h.begins;
    };
  }

  pub seat_stops : new ≡ grown old (Own op Stopped ∷ []) → SeatGrew P s old s new (Own op Stopped ∷ [])
  seat_stops grew = record { seat = refl; history = grew; mine = own-here s.actor (Own op Stopped) [] (same s.actor); at_once = (tt, tt) }

  pub seat_steps : (turned : Turned) → Stepped P old new op turned → StepsOnce (SeatGrew P s old s new) op turned
  seat_steps Going went = record {
    acts = went.act ∷ [];
    are_acts = (went.is_act, (0, refl, refl));
    grown = record {
      seat = refl;
      history = went.history;
      mine = own-here s.actor went.act [] (act_own op went.act went.is_act);
      at_once = (
        going_prompt P (after P (present P old) went.act) op went.act went.is_act
            (subst (λ (m : WorldState S). has_ended P m.counts (m.actors op.actor).memory (running m op) ≡ false)
            (ap (present P) went.history ∙ present-grown P old (went.act ∷ [])) went.goes),
        tt,
      );
    };
  }
  seat_steps (Done a) (ran, few) = record {
    comes = record {
      acts = ran.acts;
      count = ran.count;
      end = ran.end;
      are_acts = ran.are_acts;
      ends = ends_as op ran.end a ran.ends;
      grown = record {
        seat = refl;
        history = ran.history;
        mine = then_own op ran.count ran.acts ran.end a ran.are_acts ran.ends;
        at_once = ends_prompt P (present P old) op ran.count ran.acts ran.end a (omega (arith, few)) ran.are_acts ran.ends;
      };
    };
    few = few;
  }

  pub seat_nearer : IsKeptRun P new → Stepped P old new op Going → room_at new s.actor < room_at old s.actor
  seat_nearer now went = went_nearer P old new op went now.limits
