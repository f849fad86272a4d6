-- The first wrong word of a line, and the first that is too large, in terms of the lines that a script may have.
use Rattle.std.specs.Prelude.{ℕ, ◌≡◌, ◌<◌, true, false, List, [], ◌∷◌, ◌++◌, length, ◌⊎◌}
use Rattle.script_words.specs.declared.limits.Limit.{Limit}
use Rattle.script_words.specs.declared.limits.Limit.TheVariants as limits
use Rattle.script_words.specs.declared.limits.Fit.TheVariants.{Fits, Over}
use Rattle.script_words.specs.WordForm.{is_path_form, path_names, names_fit, are_hex_pairs, is_client_name}
use Rattle.tect_ids.specs.declared.ids.Counts.{Counts}
use Rattle.tect_ids.specs.declared.script.Line.{Line}
use Rattle.script_forms.specs.LineText.{line_words}
use Rattle.script_forms.specs.LineForms.{IsLine, line_limit}
use Rattle.script_forms.specs.Clients.{Seen, is_one_too_many}
use Rattle.script_forms.specs.Reading.{out_of_state}

-- a line within the limits begins with these words
pub record Begins (counts : Counts) (words : List (List ℕ)) : Type 0 where
  pub line : Line
  pub more : List (List ℕ)
  pub form : IsLine counts line
  pub within : line_limit line ≡ Fits
  pub text : line_words line ≡ words ++ more

-- a line begins with these words, whatever limits it passes
pub record BeginsForm (counts : Counts) (words : List (List ℕ)) : Type 0 where
  pub line : Line
  pub more : List (List ℕ)
  pub form : IsLine counts line
  pub text : line_words line ≡ words ++ more

-- a line has just these words, whatever limits it passes
pub record IsWholeForm (counts : Counts) (words : List (List ℕ)) : Type 0 where
  pub line : Line
  pub form : IsLine counts line
  pub text : line_words line ≡ words

-- no line has just these words, if none stands behind them; else none begins with them and the next one
abbrev pub IsDead : Counts → List (List ℕ) → List (List ℕ) → Type 0
IsDead counts front [] = IsWholeForm counts front → ⊥
IsDead counts front (w ∷ others) = BeginsForm counts (front ++ w ∷ []) → ⊥

-- The rest begins with the first wrong word; it is empty where a word is missing.
pub record IsWrongWords (counts : Counts) (words rest : List (List ℕ)) : Type 0 where
  pub front : List (List ℕ)
  pub split : words ≡ front ++ rest
  pub begins : Begins counts front
  pub dead : IsDead counts front rest

-- a path whose names pass that limit first, or bytes that are too many for a block
abbrev pub PassesLimit : List ℕ → Limit → Type 0
PassesLimit w limit = ((is_path_form w ≡ true) × (names_fit 0 (path_names w) ≡ Over limit))
    ⊎ ((are_hex_pairs w ≡ true) × (65536 < length w) × (limit ≡ limits.Block))

-- The rest begins with the first word that is too large.
pub record IsLargeWords (counts : Counts) (words : List (List ℕ)) (limit : Limit) (rest : List (List ℕ)) : Type 0 where
  pub front : List (List ℕ)
  pub w : List ℕ
  pub others : List (List ℕ)
  pub split : words ≡ front ++ rest
  pub rest_is : rest ≡ w ∷ others
  pub begins : Begins counts front
  pub form : BeginsForm counts (front ++ w ∷ [])
  pub over : PassesLimit w limit

-- ---- with the clients' states

-- a client's name, and behind it no word that its state forbids; and the client is one of 64
abbrev pub IsInState : Seen → List (List ℕ) → Type 0
IsInState seen [] = Unit {0}
IsInState seen (first ∷ others) = is_client_name first ≡ true → (out_of_state seen first others ≡ false)
    × (is_one_too_many seen first ≡ false)

-- the first word is a client whose state forbids the second
abbrev pub IsOutOfState : Seen → List (List ℕ) → Type 0
IsOutOfState seen [] = ⊥
IsOutOfState seen (client ∷ others) = (is_client_name client ≡ true) × (out_of_state seen client others ≡ true)

-- the first word is one client too many
abbrev pub IsTooMany : Seen → List (List ℕ) → Type 0
IsTooMany seen [] = ⊥
IsTooMany seen (client ∷ others) = (is_client_name client ≡ true) × (out_of_state seen client others ≡ false)
    × (is_one_too_many seen client ≡ true)

abbrev pub IsWrongLine : Counts → Seen → List (List ℕ) → List (List ℕ) → Type 0
IsWrongLine counts seen words rest = (IsOutOfState seen words × (rest ≡ words)) ⊎ (IsInState seen words × IsWrongWords counts words rest)

abbrev pub IsLargeLine : Counts → Seen → List (List ℕ) → Limit → List (List ℕ) → Type 0
IsLargeLine counts seen words limit rest = (IsTooMany seen words × (limit ≡ limits.Clients))
    ⊎ (IsInState seen words × IsLargeWords counts words limit rest)
