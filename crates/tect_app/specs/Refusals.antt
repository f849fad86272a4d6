-- Why an input is refused, and the line that says so.
use Rattle.std.specs.Prelude.{ℕ, List, [], ◌++◌, Option, IfSome, codes}
use Rattle.std.specs.Fmt.{decimal}
use Rattle.tect_ids.specs.declared.script.Plan.{Plan}
use Rattle.script_words.specs.LimitText.{limit_word}
use Rattle.script_forms.specs.declared.faults.ScriptFault.{ScriptFault}
use Rattle.script_forms.specs.declared.faults.ScriptFault.TheVariants as faults
use Rattle.script_forms.specs.Spelling.{Spells}
use Rattle.script_forms.specs.FirstFault.{IsFirstFault}
use Rattle.tect_app.specs.declared.status.Status.{Status}
use Rattle.tect_app.specs.declared.status.Status.TheVariants as status
use Rattle.tect_app.specs.declared.input.InputFault.{InputFault}
use Rattle.tect_app.specs.declared.input.InputFault.TheVariants as input_faults

-- the line of the first wrong place, or of the limit that is passed
abbrev pub fault_text : ScriptFault → List ℕ
fault_text (faults.Bad line column) = codes "bad line " ++ decimal line ++ codes " column " ++ decimal column ++ codes "\n"
fault_text (faults.TooLarge what limit) = codes "too large " ++ limit_word what ++ codes " " ++ decimal limit ++ codes "\n"
fault_text faults.NoMemory = []

abbrev pub fault_status : ScriptFault → Status
fault_status (faults.Bad line column) = status.BadScript
fault_status (faults.TooLarge what limit) = status.TooLarge
fault_status faults.NoMemory = status.NoMemory

-- The input spells no plan, and this is its first fault.
pub record IsNoScript (fault : ScriptFault) (input : List ℕ) : Type 0 where
  pub spells_none : (plan : Plan) → Spells input plan → ⊥
  pub first : IsFirstFault input fault

-- want of memory may come at any input
abbrev pub IsScriptFault : Option (List ℕ) → ScriptFault → Type 0
IsScriptFault left faults.NoMemory = Unit {0}
IsScriptFault left fault = IfSome left (IsNoScript fault)

abbrev pub IsInputFault : Option (List ℕ) → InputFault → Type 0
IsInputFault left input_faults.Failed = Unit {0}
IsInputFault left (input_faults.Script fault) = IsScriptFault left fault
