-- The words of the command line, and the mode that they ask for.
use Rattle.std.specs.Prelude.{ℕ, ◌≡◌, ◌≤◌, ◌∷◌, [], List, codes}
use Rattle.std.specs.Fmt.{decimal}
use Rattle.tect_app.specs.declared.mode.Mode.{Mode}
use Rattle.tect_app.specs.declared.mode.Mode.TheVariants as modes

-- the mode alone
abbrev pub SpellsReplay : List (List ℕ) → Type 0
SpellsReplay words = words ≡ codes "replay" ∷ []

-- a number of workers in decimal
abbrev pub SpellsWorkers : List ℕ → ℕ → Type 0
SpellsWorkers word workers = (word ≡ decimal workers) × (1 ≤ workers) × (workers ≤ 64)

-- the mode, and for how many workers
pub record SpellsRace (words : List (List ℕ)) (workers : ℕ) : Type 0 where
  pub words_are : words ≡ codes "race" ∷ codes "--workers" ∷ decimal workers ∷ []
  pub some : 1 ≤ workers
  pub few : workers ≤ 64

abbrev pub SpellsMode : List (List ℕ) → Mode → Type 0
SpellsMode words modes.Replay = SpellsReplay words
SpellsMode words (modes.Race workers) = SpellsRace words workers

abbrev pub SpellsNone : List (List ℕ) → Type 0
SpellsNone words = (mode : Mode) → SpellsMode words mode → ⊥
