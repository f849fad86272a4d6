-- The parts of bytes round a separator.
use Rattle.std.specs.Prelude.{ℕ, ◌≡◌, ◌+◌, ◌==◌, Bool, List, [], ◌∷◌, length, Option, Some, None}
use Rattle.std.specs.Borrow.{Bor}
use Rattle.std.specs.List.{slice_split}

abbrev pub splits : ℕ → ℕ → Bool
splits separator b = b == separator

abbrev pub parts : ℕ → List ℕ → List (List ℕ)
parts separator bytes = slice_split (splits separator) bytes

-- the parts behind a separator, if there is one
abbrev pub parts_behind : ℕ → Option (Bor (List ℕ)) → List (List ℕ)
parts_behind separator None = []
parts_behind separator (Some rest) = parts separator rest.now

-- how many bytes stand behind a part: the separator and what follows it
abbrev pub length_behind : Option (Bor (List ℕ)) → ℕ
length_behind None = 0
length_behind (Some rest) = length rest.now + 1

pub record IsFirstPart (separator : ℕ) (bytes part : List ℕ) (more : Option (Bor (List ℕ))) : Type 0 where
  pub parts_are : parts separator bytes ≡ part ∷ parts_behind separator more
  pub size : length bytes ≡ length part + length_behind more
