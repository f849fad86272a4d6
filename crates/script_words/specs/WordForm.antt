-- The form of each kind of word, and what it says.
use Rattle.std.specs.Prelude.{ℕ, ◌+◌, ◌-◌, ◌*◌, ◌==◌, nat_le, nat_lt, Bool, true, false, not, ◌&&◌, ◌||◌, List, [], ◌∷◌, length, take}
use Rattle.std.specs.Prelude.{if◌then◌else◌, codes, Option, Some, None, slice_index}
use Rattle.std.specs.List.{list_all}
use Rattle.std.specs.Str.{bytes_eq}
use Rattle.tect_ids.specs.declared.ids.Layer.{Layer}
use Rattle.tect_ids.specs.declared.ids.Layer.TheVariants.{Names, Files, Blocks, Disks}
use Rattle.script_words.specs.declared.limits.Limit.{Limit}
use Rattle.script_words.specs.declared.limits.Limit.TheVariants as limits
use Rattle.script_words.specs.declared.limits.Fit.{Fit}
use Rattle.script_words.specs.declared.limits.Fit.TheVariants.{Fits, Over, Unfit}
use Rattle.script_words.specs.Splitting.{parts}

-- ---- paths

-- a visible character of ASCII other than the slash
abbrev pub is_name_byte : ℕ → Bool
is_name_byte b = nat_le 33 b && nat_le b 126 && not (b == 47)

-- a name of any length
abbrev pub is_name_form : List ℕ → Bool
is_name_form name = nat_lt 0 (length name) && list_all is_name_byte name

-- the names of a path, each behind its slash; a slash alone is the root
abbrev pub path_names : List ℕ → List (List ℕ)
path_names [] = []
path_names (slash ∷ []) = []
path_names (slash ∷ byte ∷ bytes) = parts 47 (byte ∷ bytes)

abbrev pub are_name_forms : List (List ℕ) → Bool
are_name_forms names = list_all is_name_form names

abbrev pub is_path_form : List ℕ → Bool
is_path_form [] = false
is_path_form (byte ∷ bytes) = byte == 47 && are_name_forms (path_names (byte ∷ bytes))

-- where the text up to the last slash ends, from a place on, if it ended there before
abbrev pub folder_end : ℕ → ℕ → List ℕ → ℕ
folder_end end at [] = end
folder_end end at (byte ∷ bytes) = folder_end (if byte == 47 then at + 1 else end) (at + 1) bytes

-- the text up to the last slash
abbrev pub folder_text : List ℕ → List ℕ
folder_text word = take (folder_end 0 0 word) word

-- the first limit that the names pass, from the left, behind so many others
abbrev pub names_fit : ℕ → List (List ℕ) → Fit
names_fit before [] = Fits
names_fit before (name ∷ names) = if nat_le 256 before then Over limits.Depth else if nat_lt 255 (length name) then Over limits.Name else
    names_fit (before + 1) names

abbrev pub path_fit : List ℕ → Fit
path_fit word = if is_path_form word then names_fit 0 (path_names word) else Unfit

-- a path that has the same text before its last name as another one
abbrev pub sibling_fit : List ℕ → List ℕ → Fit
sibling_fit other word = if bytes_eq (folder_text word) (folder_text other) then path_fit word else Unfit

-- ---- bytes in hexadecimal

abbrev pub is_hex_digit : ℕ → Bool
is_hex_digit b = nat_le 48 b && nat_le b 57 || nat_le 97 b && nat_le b 102

abbrev pub hex_value : ℕ → ℕ
hex_value b = if nat_le b 57 then b - 48 else b - 87

-- an even number of lower-case digits
abbrev pub are_hex_pairs : List ℕ → Bool
are_hex_pairs [] = true
are_hex_pairs (high ∷ []) = false
are_hex_pairs (high ∷ low ∷ more) = (is_hex_digit high && is_hex_digit low) && are_hex_pairs more

abbrev pub hex_bytes : List ℕ → List ℕ
hex_bytes [] = []
hex_bytes (high ∷ []) = []
hex_bytes (high ∷ low ∷ more) = (hex_value high * 16 + hex_value low) ∷ hex_bytes more

abbrev pub hex_fit : List ℕ → Fit
hex_fit word = if nat_lt 0 (length word) && are_hex_pairs word then (if nat_lt 65536 (length word) then Over limits.Block else Fits) else
    Unfit

-- ---- numbers

abbrev pub is_digit : ℕ → Bool
is_digit b = nat_le 48 b && nat_le b 57

-- decimal digits, without a leading zero unless it is the only digit
abbrev pub is_numeral : List ℕ → Bool
is_numeral word = (nat_lt 0 (length word) && list_all is_digit word) && (not (slice_index word 0 == 48) || length word == 1)

-- the number that the digits write behind a number's own
abbrev pub number_after : ℕ → List ℕ → ℕ
number_after n [] = n
number_after n (digit ∷ digits) = number_after (10 * n + (digit - 48)) digits

abbrev pub number_of : List ℕ → ℕ
number_of word = number_after 0 word

-- a number from low up to high; any other one is no such word
abbrev pub number_fit : ℕ → ℕ → List ℕ → Fit
number_fit low high word = if is_numeral word && (nat_le low (number_of word) && nat_le (number_of word) high) then Fits else Unfit

-- a number from 1 on, which may pass that limit
abbrev pub count_fit : Limit → ℕ → List ℕ → Fit
count_fit limit most word = if is_numeral word && nat_le 1 (number_of word) then (if nat_le (number_of word) most then Fits else Over limit)
    else Unfit

-- ---- names

abbrev pub is_letter : ℕ → Bool
is_letter b = nat_le 97 b && nat_le b 122

abbrev pub is_world_word : List ℕ → Bool
is_world_word word = (bytes_eq word (codes "store") || bytes_eq word (codes "sweep"))
    || (bytes_eq word (codes "lose") || bytes_eq word (codes "dump"))

-- 1 to 16 lower-case letters and digits, beginning with a letter, and no first word of another line
abbrev pub is_client_name : List ℕ → Bool
is_client_name word = ((nat_le (length word) 16 && is_letter (slice_index word 0)) && list_all (λ b. is_letter b || is_digit b) word) && not
    (is_world_word word)

abbrev pub layer_of : List ℕ → Option Layer
layer_of word =
    if bytes_eq word (codes "name") then Some Names
    else if bytes_eq word (codes "file") then Some Files
    else if bytes_eq word (codes "block") then Some Blocks
    else if bytes_eq word (codes "disk") then Some Disks
    else None
