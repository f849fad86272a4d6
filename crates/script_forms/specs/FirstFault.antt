-- The first fault of a script.
use Rattle.std.specs.Prelude.{ℕ, ◌≡◌, ◌<◌, ◌≤◌, ◌+◌, ◌-◌, true, false, List, [], ◌∷◌, ◌++◌, length, map, filter, ◌⊎◌}
use Rattle.std.specs.List.{AllByRecursion}
use Rattle.script_words.specs.declared.limits.Limit.{Limit}
use Rattle.script_words.specs.declared.limits.Limit.TheVariants as limits
use Rattle.script_words.specs.Splitting.{parts}
use Rattle.script_words.specs.WordList.{spaced_length}
use Rattle.tect_ids.specs.declared.ids.Counts.{Counts}
use Rattle.tect_ids.specs.declared.script.Line.{Line}
use Rattle.tect_ids.specs.declared.script.Line.TheVariants as lines
use Rattle.script_forms.specs.declared.faults.ScriptFault.{ScriptFault}
use Rattle.script_forms.specs.declared.faults.ScriptFault.TheVariants as faults
use Rattle.script_forms.specs.Form.{Wrong, Large, read, ended}
use Rattle.script_forms.specs.Grammar.{store_form}
use Rattle.script_forms.specs.LineText.{line_text}
use Rattle.script_forms.specs.LineForms.{AreCounts}
use Rattle.script_forms.specs.Clients.{Seen}
use Rattle.script_forms.specs.Reading.{is_comment, too_large}
use Rattle.script_forms.specs.Spelling.{is_told, AreLines, MayStand, seen_of}
use Rattle.script_forms.specs.FirstWrong.{IsWrongLine, IsLargeLine}

-- the column of the first of these words, or behind the line where there is none
abbrev pub column_of : List ℕ → List (List ℕ) → ℕ
column_of text rest = length text + 1 - spaced_length rest

-- A text that is none of a line that may stand there. The others are the parts behind it; without one its line feed is missing.
abbrev pub IsTextFault : Counts → Seen → ℕ → List ℕ → List (List ℕ) → ScriptFault → Type 0
IsTextFault counts seen number text others fault =
    (((is_comment text ≡ true) ⊎ ((line : Line) × MayStand counts seen line × (text ≡ line_text line))) × (others ≡ [])
    × (fault ≡ faults.Bad number (length text + 1)))
    ⊎ (((is_comment text ≡ false)
    × ((rest : List (List ℕ)) × IsWrongLine counts seen (parts 32 text) rest × (fault ≡ faults.Bad number (column_of text rest))))
    ⊎ ((is_comment text ≡ false)
    × ((limit : Limit) × (rest : List (List ℕ)) × IsLargeLine counts seen (parts 32 text) limit rest × (fault ≡ too_large limit))))

-- A text that is none of a store line: the form of store lines says its first wrong or too large word.
abbrev pub IsStoreFault : ℕ → List ℕ → List (List ℕ) → ScriptFault → Type 0
IsStoreFault number text others fault =
    (((is_comment text ≡ true) ⊎ ((counts : Counts) × AreCounts counts × (text ≡ line_text (lines.Store counts)))) × (others ≡ [])
    × (fault ≡ faults.Bad number (length text + 1)))
    ⊎ (((is_comment text ≡ false)
    × ((rest : List (List ℕ)) × (ended (read true store_form (parts 32 text)) ≡ Wrong rest)
    × (fault ≡ faults.Bad number (column_of text rest))))
    ⊎ ((is_comment text ≡ false)
    × ((limit : Limit) × (rest : List (List ℕ)) × (ended (read true store_form (parts 32 text)) ≡ Large limit rest)
    × (fault ≡ too_large limit))))

-- the limits of lines come first
abbrev pub IsMeasuredFault : ℕ → List ℕ → ScriptFault → Type 0 → Type 0
IsMeasuredFault number text fault words =
    ((65536 < number) × (fault ≡ too_large limits.Lines))
    ⊎ (((number ≤ 65536) × (70000 < length text) × (fault ≡ too_large limits.Line))
    ⊎ ((number ≤ 65536) × (length text ≤ 70000) × words))

-- an empty part behind the last line feed is no line: the script ends there
abbrev pub IsEnd : List ℕ → List (List ℕ) → Type 0
IsEnd text others = (text ≡ []) × (others ≡ [])

-- With no store line before. The script ends there, behind as many lines as it may have at most; or a line stands there that is
-- none of a store line.
abbrev pub IsEarlyFault : ℕ → List ℕ → List (List ℕ) → ScriptFault → Type 0
IsEarlyFault number text others fault = (IsEnd text others × (number ≤ 65537) × (fault ≡ faults.Bad number 1))
    ⊎ ((¬ IsEnd text others) × IsMeasuredFault number text fault (IsStoreFault number text others fault))

-- Behind a store line and further lines. A line stands there, and is none that may.
abbrev pub IsLateFault : Counts → Seen → ℕ → List ℕ → List (List ℕ) → ScriptFault → Type 0
IsLateFault counts seen number text others fault = (¬ IsEnd text others)
    × IsMeasuredFault number text fault (IsTextFault counts seen number text others fault)

-- The lines before are right; this one is not, or the script ends there without a store line.
abbrev pub IsFaultBehind : List (List ℕ) → List ℕ → List (List ℕ) → ScriptFault → Type 0
IsFaultBehind before text others fault =
    ((filter is_told before ≡ []) × IsEarlyFault (length before + 1) text others fault)
    ⊎ ((counts : Counts) × (ls : List Line) × (filter is_told before ≡ map line_text (lines.Store counts ∷ ls)) × AreCounts counts
    × AreLines counts [] ls × IsLateFault counts (seen_of [] ls) (length before + 1) text others fault)

pub record IsFaultAt (bytes : List ℕ) (fault : ScriptFault) : Type 0 where
  pub size : length bytes ≤ 67108864
  pub before : List (List ℕ)
  pub text : List ℕ
  pub others : List (List ℕ)
  pub whole : parts 10 bytes ≡ before ++ text ∷ others
  pub short : AllByRecursion (λ (text : List ℕ). length text ≤ 70000) before
  pub fault_is : IsFaultBehind before text others fault

abbrev pub IsFirstFault : List ℕ → ScriptFault → Type 0
IsFirstFault bytes faults.NoMemory = Unit {0}
IsFirstFault bytes fault = ((67108864 < length bytes) × (fault ≡ too_large limits.Script)) ⊎ IsFaultAt bytes fault
