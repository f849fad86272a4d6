-- The clauses of reading a script, from what reading gives.
use Rattle.std.proofs.Common.{◌≡◌, ℕ, List, Result, Ok, Err, refl, sym, subst, ◌∙◌}
use Rattle.std.specs.Prelude.{IfOk, IfErr}
use Rattle.tect_ids.specs.declared.script.Plan.{Plan}
use Rattle.script_forms.specs.declared.faults.ScriptFault.{ScriptFault}
use Rattle.script_forms.specs.declared.faults.ScriptFault.TheVariants as faults
use Rattle.script_forms.specs.Reading.{script_read}
use Rattle.script_forms.specs.Spelling.{Spells, IsPlan, IsSmall, script_text}
use Rattle.script_forms.specs.FirstFault.{IsFirstFault}
use Rattle.script_reader.specs.GivesPlan.{GivesRead, IsUnlessMemory}
use Rattle.script_laws.proofs.ScriptLaws.{faulty, right_same, faulty_right}
use Rattle.script_laws.proofs.PlanLaws.{script_sound, script_complete}
use Rattle.script_laws.proofs.FaultLaws.{script_wrong}
use Rattle.script_laws.proofs.WrittenLaws.{script_written}

pub result_spelled : (bytes : List ℕ) (result : Result Plan ScriptFault) → GivesRead result (script_read bytes)
    → IfOk result (λ plan. Spells bytes plan)
result_spelled bytes (Ok plan) gives = script_sound bytes plan gives
result_spelled bytes (Err fault) gives = tt

pub result_complete : (bytes : List ℕ) (plan : Plan) (result : Result Plan ScriptFault) → GivesRead result (script_read bytes)
    → Spells bytes plan → IsUnlessMemory plan result
result_complete bytes plan (Ok found) gives spells = right_same found plan (sym gives ∙ script_complete bytes plan spells)
result_complete bytes plan (Err faults.NoMemory) gives spells = refl
result_complete bytes plan (Err (faults.Bad line column)) gives spells = faulty_right (faults.Bad line column) plan
    (sym gives ∙ script_complete bytes plan spells)
result_complete bytes plan (Err (faults.TooLarge what limit)) gives spells = faulty_right (faults.TooLarge what limit) plan
    (sym gives ∙ script_complete bytes plan spells)

pub result_written : (bytes : List ℕ) (plan : Plan) (result : Result Plan ScriptFault) → GivesRead result (script_read bytes) → IsPlan plan
    → IsSmall plan → bytes ≡ script_text plan → IsUnlessMemory plan result
result_written bytes plan result gives is small text = result_complete bytes plan result gives
    (subst (λ (bs : List ℕ). Spells bs plan) (sym text) (script_written plan is small))

fault_first : (bytes : List ℕ) (fault : ScriptFault) → GivesRead (faulty Plan fault) (script_read bytes) → IsFirstFault bytes fault
fault_first bytes faults.NoMemory gives = tt
fault_first bytes (faults.Bad line column) gives = script_wrong bytes (faults.Bad line column) gives
fault_first bytes (faults.TooLarge what limit) gives = script_wrong bytes (faults.TooLarge what limit) gives

pub result_first : (bytes : List ℕ) (result : Result Plan ScriptFault) → GivesRead result (script_read bytes)
    → IfErr result (λ fault. IsFirstFault bytes fault)
result_first bytes (Ok plan) gives = tt
result_first bytes (Err fault) gives = fault_first bytes fault gives
