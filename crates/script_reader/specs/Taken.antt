-- What a reading function took from the words of a line, as the forms say it.
use Rattle.std.specs.Prelude.{ℕ, ◌≡◌, List, [], ◌∷◌, Result, Ok, Err, Option, Some, None, ◌⊎◌}
use Rattle.std.specs.Borrow.{Bor}
use Rattle.script_words.specs.declared.limits.Fit.{Fit}
use Rattle.script_words.specs.declared.limits.Fit.TheVariants.{Fits, Over, Unfit}
use Rattle.script_words.specs.WordList.{spaced_length}
use Rattle.script_reader.specs.declared.faults.LineFault.{LineFault}
use Rattle.script_reader.specs.declared.faults.LineFault.TheVariants as faults
use Rattle.script_forms.specs.Form.{Outcome, Got, Wrong, Large}

-- want of memory may come anywhere
abbrev pub Gives : {A : Type 0} → Result A LineFault → List (List ℕ) → Outcome A → Type 0
Gives (Ok value) left outcome = outcome ≡ Got value left
Gives (Err faults.NoMemory) left outcome = Unit {0}
Gives (Err (faults.Wrong bytes)) left outcome = (words : List (List ℕ)) × (outcome ≡ Wrong words) × (bytes ≡ spaced_length words)
Gives (Err (faults.Large limit)) left outcome = (words : List (List ℕ)) × (outcome ≡ Large limit words)

-- one word was taken, which fits
abbrev pub TakesWord : (List ℕ → Fit) → Result (Bor (List ℕ)) LineFault → List (List ℕ) → List (List ℕ) → Type 0
TakesWord fit (Ok w) old new = (old ≡ w.now ∷ new) × (fit w.now ≡ Fits)
TakesWord fit (Err faults.NoMemory) old new = ⊥
TakesWord fit (Err (faults.Wrong bytes)) old new = (bytes ≡ spaced_length old)
    × ((old ≡ []) ⊎ ((w : List ℕ) × (words : List (List ℕ)) × (old ≡ w ∷ words) × (fit w ≡ Unfit)))
TakesWord fit (Err (faults.Large limit)) old new = (w : List ℕ) × (words : List (List ℕ)) × (old ≡ w ∷ words) × (fit w ≡ Over limit)

-- what one word comes to
abbrev pub IsJudged : ℕ → Bor (List ℕ) → Fit → Result (Bor (List ℕ)) LineFault → Type 0
IsJudged bytes w Fits result = result ≡ Ok w
IsJudged bytes w (Over limit) result = result ≡ Err (faults.Large limit)
IsJudged bytes w Unfit result = result ≡ Err (faults.Wrong bytes)

-- one word was taken, which says this
abbrev pub TakesChoice : {X : Type 0} → (List ℕ → Option X) → Result X LineFault → List (List ℕ) → List (List ℕ) → Type 0
TakesChoice of (Ok x) old new = (w : List ℕ) × (old ≡ w ∷ new) × (of w ≡ Some x)
TakesChoice of (Err faults.NoMemory) old new = ⊥
TakesChoice of (Err (faults.Wrong bytes)) old new = (bytes ≡ spaced_length old)
    × ((old ≡ []) ⊎ ((w : List ℕ) × (words : List (List ℕ)) × (old ≡ w ∷ words) × (of w ≡ None)))
TakesChoice of (Err (faults.Large limit)) old new = ⊥

-- no word is left
abbrev pub TakesEnd : Result (Unit {0}) LineFault → List (List ℕ) → Type 0
TakesEnd (Ok unit) old = old ≡ []
TakesEnd (Err faults.NoMemory) old = ⊥
TakesEnd (Err (faults.Wrong bytes)) old = (w : List ℕ) × (words : List (List ℕ)) × (old ≡ w ∷ words) × (bytes ≡ spaced_length old)
TakesEnd (Err (faults.Large limit)) old = ⊥
