-- How the words of a script are spelled.
use Rattle.std.specs.Prelude.{ℕ, ◌+◌, ◌/◌, ◌%◌, nat_lt, List, [], ◌∷◌, ◌++◌, if◌then◌else◌, codes}
use Rattle.std.specs.List.{flat_map}
use Rattle.tect_ids.specs.declared.ids.Layer.{Layer}
use Rattle.tect_ids.specs.declared.ids.Layer.TheVariants.{Names, Files, Blocks, Disks}

-- a slash before each name; without a name it is the root
abbrev pub names_text : List (List ℕ) → List ℕ
names_text names = flat_map (λ name. 47 ∷ name) names

abbrev pub path_text : List (List ℕ) → List ℕ
path_text [] = 47 ∷ []
path_text (name ∷ names) = names_text (name ∷ names)

-- the lower-case digit of a number below 16
abbrev pub hex_digit : ℕ → ℕ
hex_digit n = if nat_lt n 10 then n + 48 else n + 87

-- two digits for each byte, the higher one first
abbrev pub hex_text : List ℕ → List ℕ
hex_text bytes = flat_map (λ byte. hex_digit (byte / 16) ∷ hex_digit (byte % 16) ∷ []) bytes

abbrev pub layer_word : Layer → List ℕ
layer_word Names = codes "name"
layer_word Files = codes "file"
layer_word Blocks = codes "block"
layer_word Disks = codes "disk"
