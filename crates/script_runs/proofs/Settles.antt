-- the end of an op that only ends after the last transaction of a step is the step's
use Rattle.std.proofs.Common.{◌≡◌, ◌≤◌, ℕ, Bool, true, false, inl, inr, ◌⊎◌, Option, Some, None, List, [], ◌∷◌, ◌++◌, refl, sym, ap}
use Rattle.std.proofs.Common.{subst, ◌∙◌, arith, append_assoc}
use Rattle.tect_ids.specs.declared.ids.OpId.{OpId}
use Rattle.tect_ids.specs.declared.answer.Answer.{Answer}
use Rattle.tect_ids.specs.declared.answer.Answer.TheVariants as answers
use Rattle.tect_ids.specs.declared.script.Act.{Act}
use Rattle.tect_ids.specs.declared.script.Act.TheVariants as acts
use Rattle.tect_ids.specs.declared.script.Line.{Line}
use Rattle.tect_ids.specs.declared.script.Line.TheVariants as lines
use Rattle.program_forms.specs.Kinds.{Programs}
use Rattle.world_runs.specs.declared.event.Event.{Event}
use Rattle.world_runs.specs.declared.event.Event.TheVariants.{Own, Dumped}
use Rattle.world_runs.specs.declared.event.Happening.TheVariants.{Began, NotBegun, Acted, Ended, Stopped, Failed}
use Rattle.world_runs.specs.Moments.{WorldState, after, after_all, RunFrom}
use Rattle.world_runs.specs.Follows.{Acts, IsEndOf, tries, Busy, FollowsFrom}
use Rattle.whole_runs.specs.Standing.{busy_at}
use Rattle.world_runs.specs.Smooth.{EndIsNext, IsPrompt, EndsAtOnce, StepsOn, AllStepOn, IsNoStep, NoneSteps}
use Rattle.whole_runs.proofs.Actors.{after_all-append}
use Rattle.script_runs.specs.InTime.{only_ends, DoesInTime, FollowsInTime}
use Rattle.script_runs.proofs.Histories.{run-front, run-rest, IsActed, act_is}
use Rattle.script_runs.proofs.Running.{AllWell, run_well}
use Rattle.script_runs.proofs.Lines.{IsDone, line_does, busy_after}
use Rattle.script_runs.proofs.AtOnce.{at_once-rest, only_ends_no_ask}
use Rattle.script_runs.proofs.Fine.{IsFine, AreFine, fine_run, fine-front, fine-rest}
use Rattle.script_runs.proofs.InTime.{does_line, aside_in_time}
use Rattle.script_runs.proofs.FirstEnds.{without_end}

module _ {S : Type 0} (P : Programs S) where
  -- ---- following so that no step leaves an op that only ends

  -- the step's op has more to do than to end, where it goes on
  abbrev pub IsSettled : WorldState S → Act → Option OpId → Type 0
  IsSettled n (acts.Step k) (Some op) = only_ends P n op ≡ false
  IsSettled n _ _ = Unit {0}

  -- each line's events in the order of the lines, from that moment on
  abbrev pub Settles : WorldState S → List Line → List Event → Type 0
  Settles m [] es = es ≡ []
  Settles m (lines.Client client a act ∷ ls) es =
      (part : List Event) × (rest : List Event) × (next : Option OpId) × (es ≡ part ++ rest) × DoesInTime P m a (busy_at m a) act part next
      × IsSettled (after_all P m part) act next
      × Settles (after_all P m part) ls rest
  Settles m (lines.Dump ∷ ls) es = (rest : List Event) × (es ≡ Dumped ∷ rest) × Settles m ls rest
  Settles m (lines.Store counts ∷ ls) es = ⊥
  Settles m (lines.Sweep ∷ ls) es = ⊥
  Settles m (lines.Lose disk ∷ ls) es = ⊥

  -- a step left an op that only ends
  record LeavesEnd (n : WorldState S) (act : Act) (next : Option OpId) : Type 0 where
    count : ℕ
    op : OpId
    step : act ≡ acts.Step count
    goes_on : next ≡ Some op
    ended : only_ends P n op ≡ true

  settled_or : (n : WorldState S) (act : Act) (next : Option OpId) → IsSettled n act next ⊎ LeavesEnd n act next
  settled_or n (acts.Step k) (Some op) = at (only_ends P n op) refl
    where
      at : (b : Bool) → only_ends P n op ≡ b → IsSettled n (acts.Step k) (Some op) ⊎ LeavesEnd n (acts.Step k) (Some op)
      at false is = inl is
      at true is = inr record { count = k; op = op; step = refl; goes_on = refl; ended = is }
  settled_or n (acts.Step k) None = inl tt
  settled_or n (acts.Do c) next = inl tt
  settled_or n (acts.Begin c) next = inl tt
  settled_or n acts.Run next = inl tt
  settled_or n acts.Stop next = inl tt

  -- after transactions of which the last left it so, its end is next
  end_follows_act : (m : WorldState S) (op : OpId) (e : Event) (rest : List Event) → (a : IsActed op e) → IsPrompt P m e rest
      → only_ends P m op ≡ true → EndIsNext op rest
  end_follows_act m op e rest a prompt ended =
      let here : IsPrompt P m (Own op (Acted a.req a.reply a.heard)) rest = subst (λ (z : Event). IsPrompt P m z rest) a.is prompt in
      here ended

  end_follows_acts : (m : WorldState S) (op : OpId) (n : ℕ) (es rest : List Event) → 1 ≤ n → Acts op n es
      → EndsAtOnce P m (es ++ rest) → only_ends P (after_all P m es) op ≡ true → EndIsNext op rest
  end_follows_acts m op n [] rest some acts all ended = absurd (omega (arith, some, acts))
  end_follows_acts m op n (e ∷ []) rest some acts all ended =
      end_follows_act (after P m e) op e rest (act_is op e acts.0) all.0 ended
  end_follows_acts m op n (e ∷ d ∷ ds) rest some acts all ended =
      let more : Acts op (acts.1).0 (d ∷ ds) = (acts.1).2 in
      end_follows_acts (after P m e) op (acts.1).0 (d ∷ ds) rest (omega (arith, (more.1).1)) more all.1 ended

  -- what a step that leaves its op running did
  step_acts : (m : WorldState S) (a : ℕ) (busy : Option OpId) (k : ℕ) (part : List Event) (op : OpId)
      → DoesInTime P m a busy (acts.Step k) part (Some op) → (busy ≡ Some op) × Acts op k part
  step_acts m a None k part op d = absurd (let z : Some op ≡ None = d.1 in cc)
  step_acts m a (Some o) k part op (inl d) =
      let z : Some op ≡ Some o = d.1 in
      let same : o ≡ op = cc in
      (ap (λ (u : OpId). Some u) same, subst (λ (u : OpId). Acts u k part) same d.0)
  step_acts m a (Some o) k part op (inr d) = absurd (let z : Some op ≡ None = d.1 in cc)

  -- an end for want of room comes where more is left
  failed_no_try : (before : List Event) (m : WorldState S) (op : OpId) (a : Answer) → only_ends P m op ≡ true
      → IsFine P before m (Own op (Failed a)) → tries (Own op (Failed a)) ≡ 0
  failed_no_try before m op (answers.HistoryFull p) ended f =
      absurd (only_ends_no_ask P m op ((f.room).1).0 ended ((f.room).1).1)
  failed_no_try before m op _ ended f = refl

  end_no_try : (before : List Event) (m : WorldState S) (op : OpId) (e : Event) → IsEndOf op e → only_ends P m op ≡ true
      → IsFine P before m e → tries e ≡ 0
  end_no_try before m op (Own o (Ended a)) is ended f = refl
  end_no_try before m op (Own o (Failed a)) is ended f =
      failed_no_try before m o a (subst (λ (z : OpId). only_ends P m z ≡ true) (sym is.0) ended) f
  end_no_try before m op (Own o (Began c)) is ended f = absurd is.1
  end_no_try before m op (Own o (NotBegun c)) is ended f = absurd is.1
  end_no_try before m op (Own o (Acted q x h)) is ended f = absurd is.1
  end_no_try before m op (Own o Stopped) is ended f = absurd is.1
  end_no_try before m op Dumped is ended f = absurd is

  -- all lines of a list can be settled
  abbrev CanSettle : List Line → Type 0
  CanSettle ls = (before : List Event) (m : WorldState S) (es : List Event) → AllWell m → AreFine P before m es → EndsAtOnce P m es
      → FollowsInTime P m ls es → Settles m ls es

  module _ (client : List ℕ) (ls : List Line) (some : AllStepOn ls) (others : CanSettle ls) (before : List Event) (m : WorldState S)
      (s : AllWell m) (a k : ℕ) (steps : 1 ≤ k) where
    -- the end that comes next is the step's
    takes_end : (part rest : List Event) (op : OpId) → AreFine P before m (part ++ rest) → EndsAtOnce P m (part ++ rest)
        → DoesInTime P m a (busy_at m a) (acts.Step k) part (Some op)
        → FollowsInTime P (after_all P m part) ls rest → busy_at (after_all P m part) a ≡ Some op
        → only_ends P (after_all P m part) op ≡ true → EndIsNext op rest
        → Settles m (lines.Client client a (acts.Step k) ∷ ls) (part ++ rest)
    takes_end part [] op fine all does more busy ended next = absurd next
    takes_end part (e ∷ rest) op fine all does more busy ended next =
        let did : (busy_at m a ≡ Some op) × Acts op k part = step_acts m a (busy_at m a) k part op does in
        let n : WorldState S = after_all P m part in
        let there : AllWell n = run_well P part m s (fine_run P before m part (fine-front P before m part (e ∷ rest) fine)) in
        let last_fine : IsFine P (before ++ part) n e = (fine-rest P before m part (e ∷ rest) fine).0 in
        let whole : List Event = part ++ e ∷ [] in
        let parts : part ++ e ∷ rest ≡ whole ++ rest = sym (append_assoc part (e ∷ []) rest) in
        let last : after_all P m whole ≡ after P n e = after_all-append P m part (e ∷ []) in
        let all_fine : AreFine P before m (whole ++ rest) = subst (λ (l : List Event). AreFine P before m l) parts fine in
        let at_once : EndsAtOnce P m (whole ++ rest) = subst (λ (l : List Event). EndsAtOnce P m l) parts all in
        let on : FollowsInTime P (after_all P m whole) ls rest =
        subst (λ (z : WorldState S). FollowsInTime P z ls rest) (sym last) (without_end P n there a op busy e next ls some rest more) in
        let mine : RunFrom P m whole = fine_run P before m whole (fine-front P before m whole rest all_fine) in
        let settled : Settles (after_all P m whole) ls rest =
        others (before ++ whole) (after_all P m whole) rest (run_well P whole m s mine) (fine-rest P before m whole rest all_fine)
        (at_once-rest P m whole rest at_once) on in
        let none : tries e ≡ 0 = end_no_try (before ++ part) n op e next ended last_fine in (
          whole,
          rest,
          None,
          parts,
          subst (λ (o : Option OpId). DoesInTime P m a o (acts.Step k) whole None) (sym did.0)
              (inr ((k, part, e, refl, did.1, next, omega (arith, none), λ same. ended), refl)),
          tt,
          settled,
        )

    leaves_end : (part rest : List Event) (op : OpId) → AreFine P before m (part ++ rest) → EndsAtOnce P m (part ++ rest)
        → DoesInTime P m a (busy_at m a) (acts.Step k) part (Some op)
        → only_ends P (after_all P m part) op ≡ true → FollowsInTime P (after_all P m part) ls rest
        → busy_at (after_all P m part) a ≡ Some op
        → Settles m (lines.Client client a (acts.Step k) ∷ ls) (part ++ rest)
    leaves_end part rest op fine all does ended more busy =
        takes_end part rest op fine all does more busy ended
        (end_follows_acts m op k part rest steps (step_acts m a (busy_at m a) k part op does).1 all ended)

  -- a line
  module _ (client : List ℕ) (a : ℕ) (act : Act) (ls : List Line) (some : AllStepOn (lines.Client client a act ∷ ls))
      (others : CanSettle ls) (before : List Event) (m : WorldState S) (s : AllWell m) where
    line_settles : (part rest : List Event) (next : Option OpId) → AreFine P before m (part ++ rest) → EndsAtOnce P m (part ++ rest)
        → DoesInTime P m a (busy_at m a) act part next
        → FollowsInTime P (after_all P m part) ls rest → Settles m (lines.Client client a act ∷ ls) (part ++ rest)
    line_settles part rest next fine all does more =
        let mine : RunFrom P m part = fine_run P before m part (fine-front P before m part rest fine) in
        let n : WorldState S = after_all P m part in
        let done : IsDone m n a act next = line_does P m s a act part next mine (does_line P m a (busy_at m a) act part next does) in
        elim (settled_or n act next) [
          | inl settled ↦ (
            part,
            rest,
            next,
            refl,
            does,
            settled,
            others (before ++ part) n rest (run_well P part m s mine) (fine-rest P before m part rest fine)
                (at_once-rest P m part rest all) more,
          )
          | inr l ↦
              let steps : 1 ≤ l.count = subst (λ (z : Act). StepsOn (lines.Client client a z)) l.step some.0 in
              let step : DoesInTime P m a (busy_at m a) (acts.Step l.count) part (Some l.op) =
              subst (λ (z : Act). DoesInTime P m a (busy_at m a) z part (Some l.op)) l.step
              (subst (λ (o : Option OpId). DoesInTime P m a (busy_at m a) act part o) l.goes_on does) in
              subst (λ (z : Act). Settles m (lines.Client client a z ∷ ls) (part ++ rest)) (sym l.step)
              (leaves_end client ls some.1 others before m s a l.count steps part rest l.op fine all step l.ended more
              (done.busy ∙ l.goes_on))
        ]

  pub follows_settled : (ls : List Line) → AllStepOn ls → CanSettle ls
  follows_settled [] some before m es s fine all f = f
  follows_settled (lines.Client client a act ∷ ls) some before m es s fine all f =
      subst (λ (l : List Event). Settles m (lines.Client client a act ∷ ls) l) (sym f.3)
      (line_settles client a act ls some (follows_settled ls some.1) before m s f.0 f.1 f.2 (rw f.3 at fine) (rw f.3 at all) f.4 f.5)
  follows_settled (lines.Dump ∷ ls) some before m es s fine all f =
      let whole : AreFine P before m (Dumped ∷ f.0) = rw f.1 at fine in
      let at_once : EndsAtOnce P m (Dumped ∷ f.0) = rw f.1 at all in
      (f.0, f.1, follows_settled ls some.1 (before ++ Dumped ∷ []) m f.0 s whole.1 at_once.1 f.2)
  follows_settled (lines.Store counts ∷ ls) some before m es s fine all f = absurd f
  follows_settled (lines.Sweep ∷ ls) some before m es s fine all f = absurd f
  follows_settled (lines.Lose disk ∷ ls) some before m es s fine all f = absurd f

  -- ---- a script without steps

  settled_aside : (n : WorldState S) (client : List ℕ) (a : ℕ) (act : Act) (next : Option OpId) → IsNoStep (lines.Client client a act)
      → IsSettled n act next
  settled_aside n client a (acts.Step k) next aside = absurd aside
  settled_aside n client a (acts.Do c) next aside = tt
  settled_aside n client a (acts.Begin c) next aside = tt
  settled_aside n client a acts.Run next aside = tt
  settled_aside n client a acts.Stop next aside = tt

  pub settled_without_steps : (ls : List Line) → NoneSteps ls → (m : WorldState S) (es : List Event) → AllWell m → RunFrom P m es
      → FollowsFrom (busy_at m) ls es → Settles m ls es
  settled_without_steps [] aside m es s run f = f
  settled_without_steps (lines.Client client a act ∷ ls) aside m es s run f =
      let part : List Event = f.0 in
      let rest : List Event = f.1 in
      let whole : RunFrom P m (part ++ rest) = rw f.3 at run in
      let mine : RunFrom P m part = run-front P m part rest whole in
      let n : WorldState S = after_all P m part in
      let done : IsDone m n a act f.2 = line_does P m s a act part f.2 mine f.4 in
      let on : FollowsFrom (busy_at n) ls rest = subst (λ (b : Busy). FollowsFrom b ls rest) (busy_after m n a act f.2 done) f.5 in (
        part,
        rest,
        f.2,
        f.3,
        aside_in_time P m client a (busy_at m a) act part f.2 aside.0 f.4,
        settled_aside n client a act f.2 aside.0,
        settled_without_steps ls aside.1 n rest (run_well P part m s mine) (run-rest P m part rest whole) on,
      )
  settled_without_steps (lines.Dump ∷ ls) aside m es s run f =
      let whole : RunFrom P m (Dumped ∷ f.0) = rw f.1 at run in
      (f.0, f.1, settled_without_steps ls aside.1 m f.0 s whole.1 f.2)
  settled_without_steps (lines.Store counts ∷ ls) aside m es s run f = absurd f
  settled_without_steps (lines.Sweep ∷ ls) aside m es s run f = absurd f
  settled_without_steps (lines.Lose disk ∷ ls) aside m es s run f = absurd f
