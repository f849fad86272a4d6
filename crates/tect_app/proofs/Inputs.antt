-- Why an input spells no plan.
use Rattle.std.proofs.Common.{◌≡◌, ℕ, ◌+◌, ◌<◌, Option, Some, None, List, length, length-append, refl, ap, inl, arith}
use Rattle.std.specs.Prelude.{Err}
use Rattle.std.specs.Io.KnownBytes.{Consumes, IsAtEnd}
use Rattle.std.proofs.KnownBytes.{Consumes-whole}
use Rattle.tect_ids.specs.declared.script.Plan.{Plan}
use Rattle.script_words.specs.declared.limits.Limit.TheVariants as limits
use Rattle.script_forms.specs.declared.faults.ScriptFault.{ScriptFault}
use Rattle.script_forms.specs.declared.faults.ScriptFault.TheVariants as faults
use Rattle.script_forms.specs.Spelling.{Spells}
use Rattle.script_reader.specs.GivesPlan.{IsUnlessMemory}
use Rattle.script_forms.specs.FirstFault.{IsFirstFault}
use Rattle.tect_app.specs.Refusals.{IsNoScript, IsScriptFault}

-- a fault of reading the whole input
pub read_fault : (left rest : Option (List ℕ)) (bytes : List ℕ) (fault : ScriptFault) → Consumes left rest bytes → IsAtEnd rest
    → ((plan : Plan) → Spells bytes plan → IsUnlessMemory plan (Err fault))
    → IsFirstFault bytes fault → IsScriptFault left fault
read_fault left rest bytes faults.NoMemory taken at_end complete first = tt
read_fault left rest bytes (faults.Bad line column) taken at_end complete first =
    Consumes-whole left rest bytes (IsNoScript (faults.Bad line column)) taken at_end
    (record {
      spells_none = λ plan spells. (let wrong : faults.Bad line column ≡ faults.NoMemory = complete plan spells in cc);
      first = first;
    })
read_fault left rest bytes (faults.TooLarge what limit) taken at_end complete first =
    Consumes-whole left rest bytes (IsNoScript (faults.TooLarge what limit)) taken at_end
    (record {
      spells_none = λ plan spells. (let wrong : faults.TooLarge what limit ≡ faults.NoMemory = complete plan spells in cc);
      first = first;
    })
