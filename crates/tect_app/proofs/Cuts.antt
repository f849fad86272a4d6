-- A script whose output was cut off.
use Rattle.std.proofs.Common.{ℕ, List, Option, Some, None}
use Rattle.std.specs.Prelude.{IfSome}
use Rattle.tect_ids.specs.declared.script.Plan.{Plan}
use Rattle.script_forms.specs.Spelling.{Spells}
use Rattle.tect_app.specs.declared.mode.Mode.{Mode}
use Rattle.tect_app.specs.Headline.{IsCutShort, IsScriptCut}

pub cut_script : (mode : Mode) (plan : Plan) (left old new : Option (List ℕ)) → IfSome left (λ input. Spells input plan)
    → IsCutShort mode plan old new
    → IfSome left (IsScriptCut mode old new)
cut_script mode plan (Some input) old new spells cut = (plan, spells, cut)
cut_script mode plan None old new spells cut = tt
