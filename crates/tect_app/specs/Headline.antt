-- When the program ends with each status, and what it then has read and written. The words are those of the command line.
-- The bytes left before and after, and those written before and after, are told or not by the source and the sink.
use Rattle.std.specs.Prelude.{ℕ, ◌≡◌, ◌+◌, ◌≤◌, [], ◌⊎◌, List, Option, IfSome, length, codes}
use Rattle.std.specs.Io.KnownBytes.{Appends, Consumes, IsAtEnd}
use Rattle.tect_ids.specs.declared.script.Plan.{Plan}
use Rattle.script_forms.specs.declared.faults.ScriptFault.{ScriptFault}
use Rattle.script_forms.specs.Spelling.{Spells}
use Rattle.tect_edge.specs.Prefixes.{AppendsProperPrefix}
use Rattle.tect_app.specs.declared.mode.Mode.{Mode}
use Rattle.tect_app.specs.declared.mode.Mode.TheVariants as modes
use Rattle.tect_app.specs.declared.status.Status.{Status}
use Rattle.tect_app.specs.Modes.{SpellsMode, SpellsNone}
use Rattle.tect_app.specs.RaceEnds.{IsRaceShown, IsRaceCut, IsSplitLine}
use Rattle.tect_app.specs.Refusals.{fault_text, fault_status, IsNoScript}
use Rattle.replay_claims.specs.Claimed.{IsReplayShown, IsReplayCut}

abbrev pub usage_text : List ℕ
usage_text = codes "usage: tect replay, race, make or judge\n"

abbrev pub read_fault_text : List ℕ
read_fault_text = codes "read fault\n"

-- ---- what each mode claims

-- the plan was played, and the whole output of its history was written
abbrev pub IsShown : Mode → Plan → Option (List ℕ) → Option (List ℕ) → Type 0
IsShown modes.Replay plan old new = IsReplayShown plan old new
IsShown (modes.Race workers) plan old new = IsRaceShown plan old new

-- a front of the output of a history of the plan was written, and not all
abbrev pub IsCutShort : Mode → Plan → Option (List ℕ) → Option (List ℕ) → Type 0
IsCutShort modes.Replay plan old new = IsReplayCut plan old new
IsCutShort (modes.Race workers) plan old new = IsRaceCut plan old new

-- ---- what each status says

-- At most one byte beyond the limit was read, and at least one by each call of the source but the last.
abbrev pub IsReadWithin : ℕ → Option (List ℕ) → Option (List ℕ) → ℕ → ℕ → Type 0
IsReadWithin limit left rest calls later =
    (front : List ℕ) × Consumes left rest front × (length front ≤ limit + 1) × (later ≤ calls + length front + 1)

-- the input spells a plan, whose whole output was written
abbrev pub IsScriptShown : Mode → Option (List ℕ) → Option (List ℕ) → List ℕ → Type 0
IsScriptShown mode old new input = (plan : Plan) × Spells input plan × IsShown mode plan old new

-- the input spells a plan, whose output was cut off
abbrev pub IsScriptCut : Mode → Option (List ℕ) → Option (List ℕ) → List ℕ → Type 0
IsScriptCut mode old new input = (plan : Plan) × Spells input plan × IsCutShort mode plan old new

-- 0: the whole input was read, and the output of the plan that it spells was written
pub record IsReported (mode : Mode) (left rest old new : Option (List ℕ)) : Type 0 where
  pub read : IsAtEnd rest
  pub written : IfSome left (IsScriptShown mode old new)

-- 2: the words are no mode
pub record IsUsage (words : List (List ℕ)) (old new : Option (List ℕ)) : Type 0 where
  pub words_wrong : SpellsNone words
  pub written : Appends old new usage_text

-- 3 and 8: the input is no script, and the line of its first fault was written, which has that status
pub record IsRefused (left old new : Option (List ℕ)) (status : Status) : Type 0 where
  pub fault : ScriptFault
  pub no_script : IfSome left (IsNoScript fault)
  pub status_is : status ≡ fault_status fault
  pub written : Appends old new (fault_text fault)

-- 4: the source failed
pub record IsReadFault (rose : Type 0) (old new : Option (List ℕ)) : Type 0 where
  pub failed : rose
  pub written : Appends old new read_fault_text

-- the line of a refused input was cut off
abbrev pub IsCutRefusal : Option (List ℕ) → Option (List ℕ) → Option (List ℕ) → Type 0
IsCutRefusal left old new = (fault : ScriptFault) × IfSome left (IsNoScript fault) × AppendsProperPrefix old new (fault_text fault)

-- the input spells a plan, and the line names a fault of its race
abbrev pub IsScriptSplit : List ℕ → List ℕ → Type 0
IsScriptSplit line input = (plan : Plan) × Spells input plan × IsSplitLine plan line

-- the line of such a fault was cut off, which a replay does not write
abbrev pub IsCutSplit : Mode → Option (List ℕ) → Option (List ℕ) → Option (List ℕ) → Type 0
IsCutSplit modes.Replay left old new = ⊥
IsCutSplit (modes.Race workers) left old new = (line : List ℕ) × IfSome left (IsScriptSplit line) × AppendsProperPrefix old new line

-- 5, once the words are a mode: what was to be written by its cause was cut off
abbrev pub IsCut : Mode → Type 0 → Option (List ℕ) → Option (List ℕ) → Option (List ℕ) → Type 0
IsCut mode read_failed left old new =
    (read_failed × AppendsProperPrefix old new read_fault_text)
    ⊎ (IsCutRefusal left old new ⊎ (IfSome left (IsScriptCut mode old new) ⊎ IsCutSplit mode left old new))

-- 6: nothing was written, or a report was cut off
abbrev pub IsStarved : Mode → Option (List ℕ) → Option (List ℕ) → Option (List ℕ) → Type 0
IsStarved mode left old new = Appends old new [] ⊎ IfSome left (IsScriptCut mode old new)

-- 7: the whole input was read, and it spells a plan; two kept entries, or two labels, differ, and the line that names them was written
pub record IsSplitEnd (left rest old new : Option (List ℕ)) : Type 0 where
  pub read : IsAtEnd rest
  pub line : List ℕ
  pub cause : IfSome left (IsScriptSplit line)
  pub written : Appends old new line

-- ---- by the words

-- the words ask for a mode of which that holds
pub record InMode (words : List (List ℕ)) (claim : Mode → Type 0) : Type 0 where
  pub mode : Mode
  pub spelled : SpellsMode words mode
  pub holds : claim mode

-- 5: a line or a report was cut off
abbrev pub IsCutOff : List (List ℕ) → Type 0 → Option (List ℕ) → Option (List ℕ) → Option (List ℕ) → Type 0
IsCutOff words read_failed left old new =
    (SpellsNone words × AppendsProperPrefix old new usage_text) ⊎ InMode words (λ mode. IsCut mode read_failed left old new)
