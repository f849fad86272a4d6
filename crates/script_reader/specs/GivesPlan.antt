-- What a function returned is what reading gives, unless memory ran out.
use Rattle.std.specs.Prelude.{ℕ, ◌≡◌, ◌+◌, ◌-◌, ◌<◌, ◌≤◌, ◌==◌, Bool, false, List, length, Option, Some, None, Result, Ok, Err}
use Rattle.std.specs.Borrow.{Bor}
use Rattle.script_words.specs.declared.limits.Limit.TheVariants as limits
use Rattle.script_reader.specs.declared.faults.LineFault.{LineFault}
use Rattle.script_reader.specs.declared.faults.LineFault.TheVariants as line_faults
use Rattle.script_forms.specs.declared.faults.ScriptFault.{ScriptFault}
use Rattle.script_forms.specs.declared.faults.ScriptFault.TheVariants as faults
use Rattle.script_forms.specs.Reading.{too_large}

abbrev pub GivesRead : {A : Type 0} → Result A ScriptFault → Result A ScriptFault → Type 0
GivesRead (Ok value) read = read ≡ Ok value
GivesRead (Err faults.NoMemory) read = Unit {0}
GivesRead (Err (faults.Bad line column)) read = read ≡ Err (faults.Bad line column)
GivesRead (Err (faults.TooLarge what limit)) read = read ≡ Err (faults.TooLarge what limit)

-- the fault of a line at its place
abbrev pub IsFaultAt : ℕ → List ℕ → LineFault → ScriptFault → Type 0
IsFaultAt number line line_faults.NoMemory fault = fault ≡ faults.NoMemory
IsFaultAt number line (line_faults.Wrong bytes) fault = fault ≡ faults.Bad number (length line + 1 - bytes)
IsFaultAt number line (line_faults.Large limit) fault = fault ≡ too_large limit

-- the limits of lines
abbrev pub IsMeasured : ℕ → List ℕ → Result (Unit {0}) ScriptFault → Type 0
IsMeasured number line (Ok unit) = (number ≤ 65536) × (length line ≤ 70000)
IsMeasured number line (Err faults.NoMemory) = ⊥
IsMeasured number line (Err (faults.Bad at column)) = ⊥
IsMeasured number line (Err (faults.TooLarge limits.Lines limit)) = (65536 < number) × (limit ≡ 65536)
IsMeasured number line (Err (faults.TooLarge limits.Line limit)) = (number ≤ 65536) × (70000 < length line) × (limit ≡ 70000)
IsMeasured number line (Err (faults.TooLarge what limit)) = ⊥

abbrev pub EndsLine : ℕ → List ℕ → Option (Bor (List ℕ)) → Result (Bor (List ℕ)) ScriptFault → Type 0
EndsLine number line (Some more) result = result ≡ Ok more
EndsLine number line None result = result ≡ Err (faults.Bad number (length line + 1))

-- nothing stands behind the last line feed
abbrev pub ends_script : List ℕ → Option (Bor (List ℕ)) → Bool
ends_script line None = length line == 0
ends_script line (Some more) = false

-- this value, unless memory ran out
abbrev pub IsUnlessMemory : {A : Type 0} → A → Result A ScriptFault → Type 0
IsUnlessMemory value (Ok found) = found ≡ value
IsUnlessMemory value (Err fault) = fault ≡ faults.NoMemory
