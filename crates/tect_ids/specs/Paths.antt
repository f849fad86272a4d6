-- The names of a path.
use Rattle.std.specs.Prelude.{ℕ, List, [], ◌∷◌}

-- all names but the last
abbrev pub but_last : List (List ℕ) → List (List ℕ)
but_last [] = []
but_last (n ∷ []) = []
but_last (n ∷ m ∷ ns) = n ∷ but_last (m ∷ ns)

-- the last name; of the root's path no name
abbrev pub last_name : List (List ℕ) → List ℕ
last_name [] = []
last_name (n ∷ []) = n
last_name (n ∷ m ∷ ns) = last_name (m ∷ ns)
