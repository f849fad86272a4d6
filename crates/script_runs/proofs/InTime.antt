-- when what follows a script follows it in time
use Rattle.std.proofs.Common.{◌≡◌, ℕ, true, inl, inr, Option, Some, None, List, [], ◌∷◌, ◌++◌, refl, subst, arith}
use Rattle.tect_ids.specs.declared.ids.Counts.{Counts}
use Rattle.tect_ids.specs.declared.ids.OpId.{OpId}
use Rattle.tect_ids.specs.declared.answer.Answer.{Answer}
use Rattle.tect_ids.specs.declared.answer.Answer.TheVariants as answers
use Rattle.tect_ids.specs.declared.script.Act.{Act}
use Rattle.tect_ids.specs.declared.script.Act.TheVariants as acts
use Rattle.tect_ids.specs.declared.script.Line.{Line}
use Rattle.tect_ids.specs.declared.script.Line.TheVariants as lines
use Rattle.program_forms.specs.declared.standing.Standing.{Standing}
use Rattle.program_forms.specs.declared.standing.Standing.TheVariants.{Goes, Left, NoRoom}
use Rattle.program_forms.specs.Memories.{Memory}
use Rattle.program_forms.specs.Kinds.{Does, Asks, Says, said_by, Programs, next_does}
use Rattle.world_runs.specs.declared.event.Event.{Event}
use Rattle.world_runs.specs.declared.event.Event.TheVariants.{Own, Dumped}
use Rattle.world_runs.specs.declared.event.Happening.TheVariants.{Began, NotBegun, Acted, Ended, Stopped, Failed}
use Rattle.world_runs.specs.Actors.{Running, is_said, standing_does, standing_ended, has_ended, answer_in, program_answer}
use Rattle.world_runs.specs.Moments.{WorldState, after_all, running, answered}
use Rattle.world_runs.specs.Follows.{IsEndOf, EndsAfter, EndsWithin, tries, DoesLine, Busy, FollowsFrom}
use Rattle.whole_runs.specs.Standing.{busy_at}
use Rattle.world_runs.specs.Smooth.{IsNoStep}
use Rattle.script_runs.specs.InTime.{only_ends, EndsInTime, DoesInTime, FollowsInTime, LooksTellNoAnswer}
use Rattle.script_runs.proofs.Running.{AllWell, run_well}
use Rattle.script_runs.proofs.Lines.{IsDone, line_does, busy_after}
use Rattle.script_runs.proofs.Fine.{IsFine, AreFine, fine_run, fine-front, fine-rest}

module _ {S : Type 0} (P : Programs S) where
  pub in_time_after : (m : WorldState S) (op : OpId) (n : ℕ) (es : List Event) → EndsInTime P m op n es → (k : ℕ) × EndsAfter op k es
  in_time_after m op n es e = (e.0, (e.1, e.2, e.3, e.4, e.5))

  -- what a line's events do in time they do
  pub does_line : (m : WorldState S) (a : ℕ) (busy : Option OpId) (act : Act) (part : List Event) (next : Option OpId)
      → DoesInTime P m a busy act part next → DoesLine a busy act part next
  does_line m a None act part next d = d
  does_line m a (Some op) (acts.Do c) part next d = d
  does_line m a (Some op) (acts.Begin c) part next d = d
  does_line m a (Some op) (acts.Step n) part next (inl d) = inl d
  does_line m a (Some op) (acts.Step n) part next (inr d) =
      let e : EndsInTime P m op n part = d.0 in inr ((e.0, e.1, e.2, e.3, e.4, e.5, e.6), d.1)
  does_line m a (Some op) acts.Run part next d = d
  does_line m a (Some op) acts.Stop part next d = d

  -- ---- lines that are no steps

  pub aside_in_time : (m : WorldState S) (client : List ℕ) (a : ℕ) (busy : Option OpId) (act : Act) (part : List Event) (next : Option OpId)
      → IsNoStep (lines.Client client a act) → DoesLine a busy act part next → DoesInTime P m a busy act part next
  aside_in_time m client a None act part next aside d = d
  aside_in_time m client a (Some op) (acts.Do c) part next aside d = d
  aside_in_time m client a (Some op) (acts.Begin c) part next aside d = d
  aside_in_time m client a (Some op) (acts.Step n) part next aside d = absurd aside
  aside_in_time m client a (Some op) acts.Run part next aside d = d
  aside_in_time m client a (Some op) acts.Stop part next aside d = d

  -- ---- programs that come to no answer by a look-up

  module _ (looks : LooksTellNoAnswer P) where
    said_is : (d : Does Answer) (a : Answer) → said_by d ≡ Some a → is_said d ≡ true
    said_is (Asks q) a e = absurd (let k : None ≡ Some a = e in cc)
    said_is (Says b) a e = refl

    standing_answers : (c : Counts) (m : Memory) (op : OpId) (at : Standing S) (a : Answer) → answer_in (standing_does P c m op at) ≡ Some a
        → standing_ended P c m op at ≡ true
    standing_answers c m op (Goes s) a e = looks c m op s (said_is (next_does P.kind c m op s) a e)
    standing_answers c m op Left a e = refl
    standing_answers c m op NoRoom a e = refl

    program_answers : (c : Counts) (m : Memory) (r : Option (Running S)) (a : Answer) → program_answer P c m r ≡ Some a
        → has_ended P c m r ≡ true
    program_answers c m None a e = absurd (let k : None ≡ Some a = e in cc)
    program_answers c m (Some r) a e = standing_answers c m r.op r.at a e

    answered_ends : (m : WorldState S) (op : OpId) (a : Answer) → answered P m op ≡ Some a → only_ends P m op ≡ true
    answered_ends m op a e = program_answers m.counts (m.actors op.actor).memory (running m op) a e

    failed_ends : (before : List Event) (m : WorldState S) (op : OpId) (a : Answer) → IsFine P before m (Own op (Failed a))
        → tries (Own op (Failed a)) ≡ 0 → only_ends P m op ≡ true
    failed_ends before m op (answers.HistoryFull p) f none = absurd (omega (arith, none))
    failed_ends before m op answers.NoMemory f none = absurd f.memory
    failed_ends before m op _ f none = absurd ((f.may).0).0

    -- an end that is no try comes where nothing is left but the end
    end_ends : (before : List Event) (m : WorldState S) (op : OpId) (e : Event) → IsEndOf op e → IsFine P before m e → tries e ≡ 0
        → only_ends P m op ≡ true
    end_ends before m op (Own o (Ended a)) is f none =
        subst (λ (z : OpId). only_ends P m z ≡ true) is.0 (answered_ends m o a (f.may).0)
    end_ends before m op (Own o (Failed a)) is f none =
        subst (λ (z : OpId). only_ends P m z ≡ true) is.0 (failed_ends before m o a f none)
    end_ends before m op (Own o (Began c)) is f none = absurd is.1
    end_ends before m op (Own o (NotBegun c)) is f none = absurd is.1
    end_ends before m op (Own o (Acted q x h)) is f none = absurd is.1
    end_ends before m op (Own o Stopped) is f none = absurd is.1
    end_ends before m op Dumped is f none = absurd is

    ends_in_time : (before : List Event) (m : WorldState S) (op : OpId) (n : ℕ) (es : List Event) → AreFine P before m es
        → EndsWithin op n es → EndsInTime P m op n es
    ends_in_time before m op n es fine e =
        let whole : AreFine P before m (e.1 ++ e.2 ∷ []) = rw e.3 at fine in
        let last : IsFine P (before ++ e.1) (after_all P m e.1) e.2 = (fine-rest P before m e.1 (e.2 ∷ []) whole).0 in (
          e.0,
          e.1,
          e.2,
          e.3,
          e.4,
          e.5,
          e.6,
          λ all. end_ends (before ++ e.1) (after_all P m e.1) op e.2 e.5 last (omega (arith, all, e.6)),
        )

    line_in_time : (before : List Event) (m : WorldState S) (a : ℕ) (busy : Option OpId) (act : Act) (part : List Event)
        (next : Option OpId) → AreFine P before m part → DoesLine a busy act part next → DoesInTime P m a busy act part next
    line_in_time before m a None act part next fine d = d
    line_in_time before m a (Some op) (acts.Do c) part next fine d = d
    line_in_time before m a (Some op) (acts.Begin c) part next fine d = d
    line_in_time before m a (Some op) (acts.Step n) part next fine (inl d) = inl d
    line_in_time before m a (Some op) (acts.Step n) part next fine (inr d) = inr (ends_in_time before m op n part fine d.0, d.1)
    line_in_time before m a (Some op) acts.Run part next fine d = d
    line_in_time before m a (Some op) acts.Stop part next fine d = d

    pub follows_in_time : (ls : List Line) (before : List Event) (m : WorldState S) (es : List Event) → AllWell m → AreFine P before m es
        → FollowsFrom (busy_at m) ls es → FollowsInTime P m ls es
    follows_in_time [] before m es s fine f = f
    follows_in_time (lines.Client client a act ∷ ls) before m es s fine f =
        let part : List Event = f.0 in
        let rest : List Event = f.1 in
        let whole : AreFine P before m (part ++ rest) = rw f.3 at fine in
        let mine : AreFine P before m part = fine-front P before m part rest whole in
        let n : WorldState S = after_all P m part in
        let done : IsDone m n a act f.2 = line_does P m s a act part f.2 (fine_run P before m part mine) f.4 in
        let on : FollowsFrom (busy_at n) ls rest = subst (λ (b : Busy). FollowsFrom b ls rest) (busy_after m n a act f.2 done) f.5 in (
          part,
          rest,
          f.2,
          f.3,
          line_in_time before m a (busy_at m a) act part f.2 mine f.4,
          follows_in_time ls (before ++ part) n rest (run_well P part m s (fine_run P before m part mine))
              (fine-rest P before m part rest whole) on,
        )
    follows_in_time (lines.Dump ∷ ls) before m es s fine f =
        let whole : AreFine P before m (Dumped ∷ f.0) = rw f.1 at fine in
        (f.0, f.1, follows_in_time ls (before ++ Dumped ∷ []) m f.0 s whole.1 f.2)
    follows_in_time (lines.Store counts ∷ ls) before m es s fine f = absurd f
    follows_in_time (lines.Sweep ∷ ls) before m es s fine f = absurd f
    follows_in_time (lines.Lose disk ∷ ls) before m es s fine f = absurd f
