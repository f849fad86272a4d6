-- What each act leaves, from what the player's calls say.
use Rattle.std.proofs.Common.{◌≡◌, ℕ, ◌+◌, ◌≤◌, inl, inr, false, Option, Some, None, IsSome, List, [], ◌∷◌, ◌++◌, refl, sym, ap, subst, ◌∙◌}
use Rattle.std.proofs.Common.{append_assoc, arith}
use Rattle.tect_ids.specs.declared.ids.Counts.{Counts}
use Rattle.tect_ids.specs.declared.ids.OpId.{OpId}
use Rattle.tect_ids.specs.declared.answer.Answer.{Answer}
use Rattle.tect_ids.specs.declared.answer.Answer.TheVariants as answers
use Rattle.tect_ids.specs.declared.command.Command.{Command}
use Rattle.tect_ids.specs.declared.script.Act.{Act}
use Rattle.tect_ids.specs.declared.script.Act.TheVariants as acts
use Rattle.tect_ids.specs.declared.script.ReportLine.{ReportLine}
use Rattle.program_forms.specs.Kinds.{Programs}
use Rattle.world_runs.specs.declared.event.Event.{Event}
use Rattle.world_runs.specs.declared.event.Event.TheVariants.{Own}
use Rattle.world_runs.specs.declared.event.Happening.TheVariants.{Stopped}
use Rattle.world_runs.specs.Actors.{Actor, running_op}
use Rattle.world_runs.specs.Follows.{DoesLine, EndsAfter, RunsToEnd, EndsWithin, tries}
use Rattle.world_runs.specs.OwnRuns.{own_next}
use Rattle.world_runs.specs.Races.{own_lines}
use Rattle.world_runs.specs.Report.{answer_line}
use Rattle.whole_runs.specs.Standing.{IsInState}
use Rattle.whole_runs.specs.ClientStates.{state_left_at}
use Rattle.whole_runs.proofs.OwnLines.{own_lines-append}
use Rattle.program_calls.specs.declared.turned.Turned.TheVariants.{Going, Done}
use Rattle.players.specs.Players.{op_at, next_at, HasBegun, GoesOn, ComesToEnd, EndsIn, StepsUpTo, StepsOnce, IsPlayer, Played}
use Rattle.players.proofs.Transactions.{Keeps, Rests, acts-append, acts_keep, acts_then_rests, is_end, acts_show_nothing, acts_then_show}
use Rattle.players.proofs.Transactions.{stop_shows}
use Rattle.players.proofs.Starts.{Starts, begin_starts, begin_shows}

-- it did so many transactions of its command, which goes on
pub record HasStepped {S L A : Type 0} (counts : A → Counts) (fits : L → A → Type 0) (actor : L → ℕ) (state : L → A → Actor S)
    (grows : L → A → L → A → List Event → Type 0) (n : ℕ) (p : L) (a : A) (q : L) (b : A) : Type 0 where
  pub goes : GoesOn (grows p a q b) (op_at (actor p) (state p a)) n
  pub fit : fits q b
  pub running : IsSome (state q b).running
  pub same : op_at (actor q) (state q b) ≡ op_at (actor p) (state p a)
  pub kept : counts b ≡ counts a

module _ {S : Type 0} (P : Programs S) {L A : Type 0} (counts : A → Counts) (fits : L → A → Type 0) (actor : L → ℕ)
    (history : L → A → List Event) (state : L → A → Actor S) (grows : L → A → L → A → List Event → Type 0)
    (laws : IsPlayer P counts fits actor history state grows) where
  abbrev op : L → A → OpId
  op p a = op_at (actor p) (state p a)

  -- ---- a command that goes on

  module _ (p q : L) (a b : A) (n : ℕ) (goes : GoesOn (grows p a q b) (op p a) n) where
    on_keeps : Keeps (state p a) (state q b)
    on_keeps = subst (Keeps (state p a)) (sym (laws.next_state p q a b goes.acts goes.grown))
        (acts_keep P (counts a) (op p a) n (state p a) goes.acts goes.are_acts)

    on_op : op q b ≡ op p a
    on_op i = record { actor = laws.same_actor p q a b goes.acts goes.grown i; number = on_keeps.number i }

  goes_both : (p q r : L) (a b c : A) (o : OpId) (n k : ℕ) → GoesOn (grows p a q b) o n → GoesOn (grows q b r c) o k
      → GoesOn (grows p a r c) o (n + k)
  goes_both p q r a b c o n k first second = record {
    acts = first.acts ++ second.acts;
    are_acts = acts-append o n k first.acts second.acts first.are_acts second.are_acts;
    grown = laws.both p q r a b c first.acts second.acts first.grown second.grown;
  }

  -- ---- the loops

  pub stepped_none : (p : L) (a : A) → fits p a → IsSome (state p a).running → HasStepped counts fits actor state grows 0 p a p a
  stepped_none p a fit running = record
      { goes = record { acts = []; are_acts = refl; grown = laws.nothing p a fit }; fit = fit; running = running; same = refl; kept = refl }

  module _ (n : ℕ) (p q r : L) (a b c : A) (s : HasStepped counts fits actor state grows n p a q b) where
    pub stepped_more : StepsOnce (grows q b r c) (op q b) Going → fits r c → HasStepped counts fits actor state grows (n + 1) p a r c
    stepped_more step fit =
        let one : GoesOn (grows q b r c) (op p a) 1 = subst (λ (o : OpId). GoesOn (grows q b r c) o 1) s.same step in
        record {
          goes = goes_both p q r a b c (op p a) n 1 s.goes one;
          fit = fit;
          running = (on_keeps q r b c 1 step).running s.running;
          same = on_op q r b c 1 step ∙ s.same;
          kept = laws.same_counts q r b c step.acts step.grown ∙ s.kept;
        }

    pub stepped_end : (x : Answer) → StepsOnce (grows q b r c) (op q b) (Done x) → StepsUpTo (grows p a r c) (op p a) (n + 1) (Some x)
    stepped_end x step =
        let last : EndsIn (grows q b r c) (op p a) x 1 = subst (λ (o : OpId). EndsIn (grows q b r c) o x 1) s.same step in
        let end : ComesToEnd (grows q b r c) (op p a) x = last.comes in
        record {
          comes = record {
            acts = s.goes.acts ++ end.acts;
            count = n + end.count;
            end = end.end;
            are_acts = acts-append (op p a) n end.count s.goes.acts end.acts s.goes.are_acts end.are_acts;
            ends = end.ends;
            grown = subst (grows p a r c) (sym (append_assoc s.goes.acts end.acts (end.end ∷ [])))
                (laws.both p q r a b c s.goes.acts (end.acts ++ end.end ∷ []) s.goes.grown end.grown);
          };
          few = omega (arith, last.few);
        }

  -- fewer steps are as many at most
  pub steps_within : (p r : L) (a c : A) (o : OpId) (k n : ℕ) (x : Answer) → k ≤ n → StepsUpTo (grows p a r c) o k (Some x)
      → StepsUpTo (grows p a r c) o n (Some x)
  steps_within p r a c o k n x le end = record { comes = end.comes; few = omega (arith, le, end.few) }

  -- ---- a line

  abbrev Plays : List (List ℕ) → Act → L → A → L → A → Option ReportLine → Type 0
  Plays names act p a q b told = Played actor history state grows names act p a q b told

  -- nothing is done
  module _ (names : List (List ℕ)) (p : L) (a : A) (fit : fits p a) (none : (state p a).running ≡ None) where
    nothing_played : (act : Act) → DoesLine (actor p) (running_op (state p a).running) act [] (running_op (state p a).running)
        → IsInState (state_left_at act) (state p a) → Plays names act p a p a None
    nothing_played act does turn = record
        { part = []; grown = laws.nothing p a fit; does = does; turn = turn; few = omega arith; shows = refl }

    busy_none : running_op (state p a).running ≡ None
    busy_none = ap running_op none

    pub steps_nothing : (n : ℕ) → (state p a).stopped ≡ false → Plays names (acts.Step n) p a p a None
    steps_nothing n goes_on = nothing_played (acts.Step n)
        (subst (λ (o : Option OpId). DoesLine (actor p) o (acts.Step n) [] o) (sym busy_none) (refl, refl)) goes_on

    pub runs_nothing : (state p a).stopped ≡ false → Plays names acts.Run p a p a None
    runs_nothing goes_on = nothing_played acts.Run
        (subst (λ (o : Option OpId). DoesLine (actor p) o acts.Run [] o) (sym busy_none) (refl, refl)) (none, goes_on)

    pub stops_nothing : Plays names acts.Stop p a p a None
    stops_nothing = nothing_played acts.Stop (subst (λ (o : Option OpId). DoesLine (actor p) o acts.Stop [] o) (sym busy_none) (refl, refl))
        none

  -- the command goes on
  pub steps_on : (names : List (List ℕ)) (n : ℕ) (p q : L) (a b : A) → fits p a → fits q b → IsSome (state p a).running
      → (state p a).stopped ≡ false → GoesOn (grows p a q b) (op p a) n
      → Plays names (acts.Step n) p a q b None
  steps_on names n p q a b fit then running goes_on goes =
      let keeps = on_keeps p q a b n goes in
      let after : running_op (state q b).running ≡ Some (op p a) = laws.busy q b then (keeps.running running) ∙ ap Some
      (on_op p q a b n goes) in
      record {
        part = goes.acts;
        grown = goes.grown;
        does = subst (λ (o : Option OpId). DoesLine (actor p) o (acts.Step n) goes.acts (running_op (state q b).running))
            (sym (laws.busy p a fit running)) (inl (goes.are_acts, after));
        turn = keeps.stopped ∙ goes_on;
        few = omega (arith, keeps.number);
        shows = sym (acts_show_nothing names (actor p) (history p a) (op p a) n goes.acts goes.are_acts);
      }

  -- the command comes to its end
  module _ (names : List (List ℕ)) (p q : L) (a b : A) (x : Answer) (end : ComesToEnd (grows p a q b) (op p a) x) (line : ReportLine)
      (is : line ≡ answer_line names (history q b) (op q b) x) where
    abbrev part : List Event
    part = end.acts ++ end.end ∷ []

    rests : Rests (state p a) (state q b)
    rests = subst (Rests (state p a)) (sym (laws.next_state p q a b part end.grown))
        (acts_then_rests P (counts a) (op p a) end.count (state p a) end.acts end.end x end.are_acts end.ends)

    end_op : op q b ≡ op p a
    end_op i = record { actor = laws.same_actor p q a b part end.grown i; number = rests.number i }

    end_shows : line ∷ [] ≡ own_lines names (actor p) (history p a) part
    end_shows =
        ap (λ (l : ReportLine). l ∷ []) is ∙ ap (λ (o : OpId). answer_line names (history q b) o x ∷ []) end_op
        ∙ ap (λ (es : List Event). answer_line names es (op p a) x ∷ []) (laws.more_history p q a b part end.grown)
        ∙ sym (acts_then_show names (actor p) (history p a) (op p a) end.count end.acts end.end x end.are_acts end.ends refl)

    end_after : EndsAfter (op p a) end.count part
    end_after = (end.acts, end.end, refl, end.are_acts, is_end (op p a) end.end x end.ends)

    end_within : (n : ℕ) → end.count + tries end.end ≤ n → EndsWithin (op p a) n part
    end_within n few = (end.count, end.acts, end.end, refl, end.are_acts, is_end (op p a) end.end x end.ends, few)

    ended : running_op (state q b).running ≡ None
    ended = ap running_op rests.running

    module _ (fit : fits p a) (running : IsSome (state p a).running) (goes_on : (state p a).stopped ≡ false) where
      pub runs_on : Plays names acts.Run p a q b (Some line)
      runs_on = record {
        part = part;
        grown = end.grown;
        does = subst (λ (o : Option OpId). DoesLine (actor p) o acts.Run part (running_op (state q b).running))
            (sym (laws.busy p a fit running))
            ((end.count, end_after), ended);
        turn = (rests.running, rests.stopped ∙ goes_on);
        few = omega (arith, rests.number);
        shows = end_shows;
      }

      pub steps_to_end : (n : ℕ) → end.count + tries end.end ≤ n → Plays names (acts.Step n) p a q b (Some line)
      steps_to_end n few = record {
        part = part;
        grown = end.grown;
        does = subst (λ (o : Option OpId). DoesLine (actor p) o (acts.Step n) part (running_op (state q b).running))
            (sym (laws.busy p a fit running)) (inr (end_within n few, ended));
        turn = rests.stopped ∙ goes_on;
        few = omega (arith, rests.number);
        shows = end_shows;
      }

  -- a command begins
  module _ (names : List (List ℕ)) (p q : L) (a b : A) (c : Command) (begun : HasBegun (grows p a q b) (next_at (actor p) (state p a)) c)
      (none : (state p a).running ≡ None)
      (goes_on : (state p a).stopped ≡ false) where
    abbrev next : OpId
    next = next_at (actor p) (state p a)

    starts : Starts next (state p a) (state q b)
    starts = subst (Starts next (state p a)) (sym (laws.next_state p q a b (begun.begin ∷ []) begun.grown))
        (begin_starts P (counts a) next c (state p a) begun.begin begun.begins)

    pub begun_runs : IsSome (state q b).running
    begun_runs = starts.some

    begun_op : op q b ≡ next
    begun_op i = record { actor = laws.same_actor p q a b (begun.begin ∷ []) begun.grown i; number = starts.number i }

    begun_shows : own_lines names (actor p) (history p a) (begun.begin ∷ []) ≡ []
    begun_shows = begin_shows names (actor p) (history p a) next c begun.begin begun.begins

    pub begins : fits q b → Plays names (acts.Begin c) p a q b None
    begins fit = record {
      part = begun.begin ∷ [];
      grown = begun.grown;
      does = subst (λ (o : Option OpId). DoesLine (actor p) o (acts.Begin c) (begun.begin ∷ []) (running_op (state q b).running))
          (sym (ap running_op none))
          (next, begun.begin, refl, refl, begun.begins, laws.busy q b fit starts.some ∙ ap Some begun_op);
      turn = starts.stopped ∙ goes_on;
      few = omega (arith, starts.number);
      shows = sym begun_shows;
    }

    -- and comes to its end
    pub does_all : (r : L) (d : A) (x : Answer) (end : ComesToEnd (grows q b r d) (op q b) x) (line : ReportLine)
        → line ≡ answer_line names (history r d) (op r d) x → Plays names (acts.Do c) p a r d (Some line)
    does_all r d x end line is =
        let rest : List Event = end.acts ++ end.end ∷ [] in
        let after = rests names q r b d x end line is in
        let ends : RunsToEnd next rest = subst (λ (o : OpId). RunsToEnd o rest) begun_op (end.count, end_after names q r b d x end line is)
        in
        record {
          part = begun.begin ∷ rest;
          grown = laws.both p q r a b d (begun.begin ∷ []) rest begun.grown end.grown;
          does = subst (λ (o : Option OpId). DoesLine (actor p) o (acts.Do c) (begun.begin ∷ rest) (running_op (state r d).running))
              (sym (ap running_op none))
              ((next, begun.begin, rest, refl, refl, begun.begins, ends), ended names q r b d x end line is);
          turn = (after.running, after.stopped ∙ starts.stopped ∙ goes_on);
          few = omega (arith, after.number, starts.number);
          shows = end_shows names q r b d x end line is
              ∙ ap (λ (n : ℕ). own_lines names n (history q b) rest) (laws.same_actor p q a b (begun.begin ∷ []) begun.grown)
              ∙ ap (λ (es : List Event). own_lines names (actor p) es rest)
              (laws.more_history p q a b (begun.begin ∷ []) begun.grown)
              ∙ ap (λ (l : List ReportLine). l ++ own_lines names (actor p) (history p a ++ begun.begin ∷ []) rest)
              (sym begun_shows)
              ∙ sym (own_lines-append names (actor p) (history p a) (begun.begin ∷ []) rest);
        }

  -- the command is stopped
  pub stops : (names : List (List ℕ)) (p q : L) (a b : A) → fits p a → IsSome (state p a).running → grows p a q b
      (Own (op p a) Stopped ∷ [])
      → (line : ReportLine)
      → line ≡ answer_line names (history q b) (op q b) answers.Stopped → Plays names acts.Stop p a q b (Some line)
  stops names p q a b fit running grown line is =
      let state_is : state q b ≡ own_next P (counts a) (state p a) (Own (op p a) Stopped) = laws.next_state p q a b
      (Own (op p a) Stopped ∷ []) grown
      in
      let number : (state q b).number ≡ (state p a).number = ap (λ (s : Actor S). s.number) state_is in
      let none : (state q b).running ≡ None = ap (λ (s : Actor S). s.running) state_is in
      let same : op q b ≡ op p a = λ i. record { actor = laws.same_actor p q a b (Own (op p a) Stopped ∷ []) grown i; number = number i } in
      record {
        part = Own (op p a) Stopped ∷ [];
        grown = grown;
        does = subst (λ (o : Option OpId). DoesLine (actor p) o acts.Stop (Own (op p a) Stopped ∷ []) (running_op (state q b).running))
            (sym (laws.busy p a fit running)) (refl, ap running_op none);
        turn = none;
        few = omega (arith, number);
        shows = ap (λ (l : ReportLine). l ∷ []) is ∙ ap (λ (o : OpId). answer_line names (history q b) o answers.Stopped ∷ []) same
            ∙ ap (λ (es : List Event). answer_line names es (op p a) answers.Stopped ∷ [])
            (laws.more_history p q a b (Own (op p a) Stopped ∷ []) grown)
            ∙ sym (stop_shows names (actor p) (history p a) (op p a) refl);
      }
