-- The lines of a plan that can be raced.
use Rattle.std.proofs.Common.{ℕ, List, [], ◌∷◌, length}
use Rattle.std.specs.List.{AllByRecursion}
use Rattle.std.proofs.lemmas.List.Elements.{All-from_recursion}
use Rattle.tect_ids.specs.declared.script.Line.{Line}
use Rattle.tect_ids.specs.declared.script.Line.TheVariants as lines
use Rattle.tect_ids.specs.declared.script.Plan.{Plan}
use Rattle.program_forms.specs.Kinds.{Programs}
use Rattle.whole_runs.specs.ClientStates.{ClientStates, FitStatesFrom, with_state, state_left_at, all_idle}
use Rattle.race_runs.specs.Gathered.{IsLineOf}
use Rattle.racer_stories.specs.Done.{IsScript}
use Rattle.whole_runs.specs.Playable.{IsWithin, IsPlayable}

asked : {S : Type 0} (P : Programs S) (n : ℕ) (states : ClientStates) (ls : List Line) → FitStatesFrom P states ls
    → AllByRecursion (IsWithin n) ls
    → AllByRecursion (IsLineOf n) ls
asked P n states [] t w = tt
asked P n states (lines.Client client actor act ∷ ls) t w =
    ((t.0, (w.0).0), asked P n (with_state states actor (state_left_at act)) ls t.3 w.1)
asked P n states (lines.Dump ∷ ls) t w = (tt, asked P n states ls t w.1)
asked P n states (lines.Store counts ∷ ls) t w = absurd t
asked P n states (lines.Sweep ∷ ls) t w = absurd t
asked P n states (lines.Lose disk ∷ ls) t w = absurd t

pub script_of : {S : Type 0} (P : Programs S) (plan : Plan) → IsPlayable P plan → IsScript P (length plan.clients) plan.lines
script_of P plan is = record {
  in_turn = is.in_turn;
  few = is.few;
  asked = All-from_recursion (IsLineOf (length plan.clients)) plan.lines
      (asked P (length plan.clients) all_idle plan.lines is.in_turn is.within);
}
