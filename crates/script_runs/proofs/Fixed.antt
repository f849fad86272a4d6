-- a script fixes its smooth run
use Rattle.std.proofs.Common.{◌≡◌, ℕ, inl, inr, Option, Some, None, List, [], ◌∷◌, ◌++◌, sym, ap, subst, ◌∙◌}
use Rattle.tect_ids.specs.declared.ids.Counts.{Counts}
use Rattle.tect_ids.specs.declared.ids.OpId.{OpId}
use Rattle.tect_ids.specs.declared.command.Command.{Command}
use Rattle.tect_ids.specs.declared.script.Act.{Act}
use Rattle.tect_ids.specs.declared.script.Act.TheVariants as acts
use Rattle.tect_ids.specs.declared.script.Line.{Line}
use Rattle.tect_ids.specs.declared.script.Line.TheVariants as lines
use Rattle.program_forms.specs.Kinds.{Programs}
use Rattle.world_runs.specs.declared.event.Event.{Event}
use Rattle.world_runs.specs.declared.event.Event.TheVariants.{Dumped}
use Rattle.world_runs.specs.Moments.{WorldState, opening, after, after_all}
use Rattle.world_runs.specs.Follows.{EndsAfter, IsBeginOf, BeginsAndEnds}
use Rattle.whole_runs.specs.Standing.{busy_at}
use Rattle.world_runs.specs.Smooth.{IsSmoothRun}
use Rattle.script_runs.specs.InTime.{EndsInTime, DoesInTime}
use Rattle.script_runs.specs.Laws.{ScriptFixesRun, ScriptFixesRunWithoutLooks, ScriptWithoutStepsFixesRun}
use Rattle.script_runs.proofs.Running.{opening_well}
use Rattle.script_runs.proofs.Fine.{AreFine, fine-front, fine-rest, run_is_fine}
use Rattle.script_runs.proofs.InTime.{in_time_after, follows_in_time}
use Rattle.script_runs.proofs.SameEnds.{begins_same, fine_behind, ends_same, acts_same, acts_not_ends}
use Rattle.script_runs.proofs.Settles.{IsSettled, Settles, follows_settled, settled_without_steps}

module _ {S : Type 0} (P : Programs S) where
  -- ---- a line

  -- what an actor does at a line
  module _ (before : List Event) (m : WorldState S) (a : ℕ) (d e : List Event) (f : AreFine P before m d) (g : AreFine P before m e) where
    -- the same op's begin or refusal, and then the same
    does_same : (c : Command) → BeginsAndEnds a c d → BeginsAndEnds a c e → d ≡ e
    does_same c one other =
        let fine : AreFine P before m (one.1 ∷ one.2) = rw one.4 at f in
        let good : AreFine P before m (other.1 ∷ other.2) = rw other.4 at g in
        let same : (one.0 ≡ other.0) × (one.1 ≡ other.1) =
        begins_same P before m a c one.0 other.0 one.1 other.1 one.3 other.3 one.5 other.5 fine.0 good.0 in
        let ends : EndsAfter one.0 (other.6).0 other.2 = subst (λ (o : OpId). EndsAfter o (other.6).0 other.2) (sym same.0) (other.6).1 in
        let rest : one.2 ≡ other.2 =
        ends_same P one.0 (before ++ one.1 ∷ []) (after P m one.1) (one.6).0 (other.6).0 one.2 other.2 (one.6).1 ends fine.1
        (fine_behind P before m one.1 other.1 other.2 same.1 good.1) in
        let whole : one.1 ∷ one.2 ≡ other.1 ∷ other.2 = λ i. (same.1) i ∷ rest i in
        one.4 ∙ whole ∙ sym other.4

    -- the op's begin or refusal alone
    begins_alone : (c : Command) (op o : OpId) (x y : Event) → op.actor ≡ a → o.actor ≡ a → d ≡ x ∷ [] → e ≡ y ∷ [] → IsBeginOf op c x
        → IsBeginOf o c y → d ≡ e
    begins_alone c op o x y own its first second one other =
        let fine : AreFine P before m (x ∷ []) = rw first at f in
        let good : AreFine P before m (y ∷ []) = rw second at g in
        let same : (op ≡ o) × (x ≡ y) = begins_same P before m a c op o x y own its one other fine.0 good.0 in
        first ∙ ap (λ (z : Event). z ∷ []) same.1 ∙ sym second

    line_same : (act : Act) (busy next last : Option OpId) → DoesInTime P m a busy act d next → DoesInTime P m a busy act e last
        → IsSettled P (after_all P m d) act next → IsSettled P (after_all P m e) act last → d ≡ e
    line_same (acts.Do c) None next last first second settled also = does_same c first.0 second.0
    line_same (acts.Begin c) None next last first second settled also =
        begins_alone c first.0 second.0 first.1 second.1 first.2 second.2 first.3 second.3 first.4 second.4
    line_same (acts.Step n) None next last first second settled also = first.0 ∙ sym second.0
    line_same acts.Run None next last first second settled also = first.0 ∙ sym second.0
    line_same acts.Stop None next last first second settled also = first.0 ∙ sym second.0
    line_same (acts.Do c) (Some op) next last first second settled also = absurd first
    line_same (acts.Begin c) (Some op) next last first second settled also = absurd first
    line_same (acts.Step n) (Some op) next last (inl first) (inl second) settled also =
        acts_same P op before m n d e first.0 second.0 f g
    line_same (acts.Step n) (Some op) next last (inr first) (inr second) settled also =
        let one : (k : ℕ) × EndsAfter op k d = in_time_after P m op n d first.0 in
        let other : (k : ℕ) × EndsAfter op k e = in_time_after P m op n e second.0 in
        ends_same P op before m one.0 other.0 d e one.1 other.1 f g
    line_same (acts.Step n) (Some op) next last (inl first) (inr second) settled also =
        let t : EndsInTime P m op n e = second.0 in
        absurd
        (acts_not_ends P op before m n t.0 d t.1 t.2 first.0 t.4 t.5 f (rw t.3 at g) t.6
        (subst (λ (o : Option OpId). IsSettled P (after_all P m d) (acts.Step n) o) first.1 settled) t.7)
    line_same (acts.Step n) (Some op) next last (inr first) (inl second) settled also =
        let t : EndsInTime P m op n d = first.0 in
        absurd
        (acts_not_ends P op before m n t.0 e t.1 t.2 second.0 t.4 t.5 g (rw t.3 at f) t.6
        (subst (λ (o : Option OpId). IsSettled P (after_all P m e) (acts.Step n) o) second.1 also) t.7)
    line_same acts.Run (Some op) next last first second settled also =
        ends_same P op before m (first.0).0 (second.0).0 d e (first.0).1 (second.0).1 f g
    line_same acts.Stop (Some op) next last first second settled also = first.0 ∙ sym second.0

  -- ---- all lines

  -- from one moment the lines fix what follows them
  abbrev IsFixed : List Line → Type 0
  IsFixed ls = (before : List Event) (m : WorldState S) (d e : List Event) → AreFine P before m d → AreFine P before m e → Settles P m ls d
      → Settles P m ls e → d ≡ e

  module _ (a : ℕ) (act : Act) (ls : List Line) (others : IsFixed ls) (before : List Event) (m : WorldState S) where
    rest_fixed : (part other d e : List Event) → part ≡ other → AreFine P (before ++ part) (after_all P m part) d
        → AreFine P (before ++ other) (after_all P m other) e
        → Settles P (after_all P m part) ls d → Settles P (after_all P m other) ls e → part ++ d ≡ other ++ e
    rest_fixed part other d e same f g first second =
        let rest : d ≡ e =
        others (before ++ part) (after_all P m part) d e f
        (subst (λ (l : List Event). AreFine P (before ++ l) (after_all P m l) e) (sym same) g) first
        (subst (λ (l : List Event). Settles P (after_all P m l) ls e) (sym same) second) in
        λ i. same i ++ rest i

    line_fixed : (part other d e : List Event) (next last : Option OpId) → AreFine P before m (part ++ d) → AreFine P before m (other ++ e)
        → DoesInTime P m a (busy_at m a) act part next → DoesInTime P m a (busy_at m a) act other last
        → IsSettled P (after_all P m part) act next → IsSettled P (after_all P m other) act last
        → Settles P (after_all P m part) ls d → Settles P (after_all P m other) ls e → part ++ d ≡ other ++ e
    line_fixed part other d e next last f g does also settled as_well first second =
        let same : part ≡ other =
        line_same before m a part other (fine-front P before m part d f) (fine-front P before m other e g) act (busy_at m a) next last
        does also settled as_well in
        rest_fixed part other d e same (fine-rest P before m part d f) (fine-rest P before m other e g) first second

  lines_fixed : (ls : List Line) → IsFixed ls
  lines_fixed [] before m d e f g first second = first ∙ sym second
  lines_fixed (lines.Client client a act ∷ ls) before m d e f g first second =
      let parts : first.0 ++ first.1 ≡ second.0 ++ second.1 =
      line_fixed a act ls (lines_fixed ls) before m first.0 second.0 first.1 second.1 first.2 second.2 (rw first.3 at f)
      (rw second.3 at g) first.4 second.4 first.5 second.5 first.6 second.6 in
      first.3 ∙ parts ∙ sym second.3
  lines_fixed (lines.Dump ∷ ls) before m d e f g first second =
      let fine : AreFine P before m (Dumped ∷ first.0) = rw first.1 at f in
      let good : AreFine P before m (Dumped ∷ second.0) = rw second.1 at g in
      let rest : first.0 ≡ second.0 = lines_fixed ls (before ++ Dumped ∷ []) m first.0 second.0 fine.1 good.1 first.2 second.2 in
      let whole : Dumped ∷ first.0 ≡ Dumped ∷ second.0 = ap (λ l. Dumped ∷ l) rest in
      first.1 ∙ whole ∙ sym second.1
  lines_fixed (lines.Store counts ∷ ls) before m d e f g first second = absurd first
  lines_fixed (lines.Sweep ∷ ls) before m d e f g first second = absurd first
  lines_fixed (lines.Lose disk ∷ ls) before m d e f g first second = absurd first

  smooth_fine : (counts : Counts) (history : List Event) → IsSmoothRun P counts history → AreFine P [] (opening counts) history
  smooth_fine counts history smooth = run_is_fine P counts history smooth.run smooth.limits smooth.memory

  pub script_fixes_run : ScriptFixesRun P
  script_fixes_run counts ls one other steps smooth also first second =
      let f : AreFine P [] (opening counts) one = smooth_fine counts one smooth in
      let g : AreFine P [] (opening counts) other = smooth_fine counts other also in
      let settled : Settles P (opening counts) ls one =
      follows_settled P ls steps [] (opening counts) one (opening_well counts) f smooth.at_once first in
      let as_well : Settles P (opening counts) ls other =
      follows_settled P ls steps [] (opening counts) other (opening_well counts) g also.at_once second in
      lines_fixed ls [] (opening counts) one other f g settled as_well

  pub script_fixes_run_without_looks : ScriptFixesRunWithoutLooks P
  script_fixes_run_without_looks looks counts ls one other steps smooth also first second =
      script_fixes_run counts ls one other steps smooth also
      (follows_in_time P looks ls [] (opening counts) one (opening_well counts) (smooth_fine counts one smooth) first)
      (follows_in_time P looks ls [] (opening counts) other (opening_well counts) (smooth_fine counts other also) second)

  pub script_without_steps_fixes_run : ScriptWithoutStepsFixesRun P
  script_without_steps_fixes_run counts ls one other aside run also limits keeps memory finds first second =
      let settled : Settles P (opening counts) ls one =
      settled_without_steps P ls aside (opening counts) one (opening_well counts) run first in
      let as_well : Settles P (opening counts) ls other =
      settled_without_steps P ls aside (opening counts) other (opening_well counts) also second in
      lines_fixed ls [] (opening counts) one other (run_is_fine P counts one run limits memory)
      (run_is_fine P counts other also keeps finds) settled as_well
