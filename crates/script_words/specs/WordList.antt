-- The words of a line that are still to be read.
use Rattle.std.specs.Prelude.{ℕ, ◌+◌, List, [], ◌∷◌, length}
use Rattle.script_words.specs.Splitting.{parts_behind}
use Rattle.script_words.specs.declared.words.Words.{Words}

abbrev pub words_left : Words → List (List ℕ)
words_left words = parts_behind 32 words.rest

-- how many bytes these words take, each behind a space
abbrev pub behind_length : List (List ℕ) → ℕ
behind_length [] = 0
behind_length (word ∷ words) = 1 + length word + behind_length words

-- how many bytes these words take, with a space between each two
abbrev pub spaced_length : List (List ℕ) → ℕ
spaced_length [] = 0
spaced_length (word ∷ words) = length word + behind_length words
