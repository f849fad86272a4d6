-- Forms of word lists: what may stand, word after word.
use Rattle.std.specs.Prelude.{ℕ, Bool, true, false, List, [], ◌∷◌}
use Rattle.script_words.specs.declared.limits.Limit.{Limit}
use Rattle.script_words.specs.declared.limits.Fit.{Fit}
use Rattle.script_words.specs.declared.limits.Fit.TheVariants.{Fits, Over, Unfit}

-- Either nothing more is owed for a value; or a word that fits, and then what stands behind that word.
pub data Form (A : Type 0) : Type 0 where
  done : A → Form A
  word : (List ℕ → Fit) → (List ℕ → Form A) → Form A

-- What a front of the words comes to: a value and the words behind it; or the words from the first wrong one on, none where
-- one is missing; or those from the first too large one on.
pub data Outcome (A : Type 0) : Type 0 where
  Got : A → List (List ℕ) → Outcome A
  Wrong : List (List ℕ) → Outcome A
  Large : Limit → List (List ℕ) → Outcome A

abbrev pub by_fit : {A : Type 0} → Bool → Fit → List (List ℕ) → Outcome A → Outcome A
by_fit limited Fits words more = more
by_fit false (Over limit) words more = more
by_fit true (Over limit) words more = Large limit words
by_fit limited Unfit words more = Wrong words

-- reading words by a form, where limits count or do not
abbrev pub read : {A : Type 0} → Bool → Form A → List (List ℕ) → Outcome A
read limited (done value) words = Got value words
read limited (word fit next) [] = Wrong []
read limited (word fit next) (w ∷ words) = by_fit limited (fit w) (w ∷ words) (read limited (next w) words)

-- a value with a word behind it that is one too many
abbrev pub ended : {A : Type 0} → Outcome A → Outcome A
ended (Got value []) = Got value []
ended (Got value (w ∷ words)) = Wrong (w ∷ words)
ended (Wrong words) = Wrong words
ended (Large limit words) = Large limit words

-- a form, and behind it another one that may depend on its value
abbrev pub and_then : {A B : Type 0} → Form A → (A → Form B) → Form B
and_then (done value) go = go value
and_then (word fit next) go = word fit (λ w. and_then (next w) go)

abbrev pub passes : Bool → Fit → Type 0
passes limited Fits = Unit {0}
passes false (Over limit) = Unit {0}
passes true (Over limit) = ⊥
passes limited Unfit = ⊥

abbrev pub IsAlive : {A : Type 0} → Bool → Form A → Type 0
IsAlive limited (done value) = Unit {0}
IsAlive limited (word fit next) = ((w : List ℕ) × passes limited (fit w))
    × ((w : List ℕ) → passes limited (fit w) → IsAlive limited (next w))
