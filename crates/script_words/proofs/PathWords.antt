-- Paths and their words.
use Rattle.std.proofs.Common.{◌≡◌, ℕ, Bool, true, false, ◌&&◌, not, List, [], ◌∷◌, ◌++◌, refl, sym, ap, ◌∙◌, arith, nat_lt, length}
use Rattle.std.specs.List.{list_all, join_with_byte}
use Rattle.std.proofs.lemmas.Bool.{eqb-true}
use Rattle.std.proofs.lemmas.List.{append-nil}
use Rattle.std.proofs.lemmas.List.Splits.{join_with_byte-slice_split}
use Rattle.script_words.specs.Splitting.{splits, parts}
use Rattle.script_words.specs.WordText.{names_text, path_text}
use Rattle.script_words.specs.WordForm.{is_name_byte, is_name_form, are_name_forms, path_names, is_path_form}
use Rattle.script_words.proofs.Parts.{parts_some}
use Rattle.script_words.proofs.Apart.{both, joined, parts_one, parts_first}

names_join : (name : List ℕ) (names : List (List ℕ)) → names_text (name ∷ names) ≡ 47 ∷ join_with_byte 47 (name ∷ names)
names_join name [] = ap (λ (bs : List ℕ). 47 ∷ bs) (append-nil name)
names_join name (next ∷ names) = ap (λ (bs : List ℕ). 47 ∷ (name ++ bs)) (names_join next names)

path_of_parts : (bytes : List ℕ) (names : List (List ℕ)) (name : List ℕ) (others : List (List ℕ)) → parts 47 bytes ≡ names → names ≡ name
    ∷ others → path_text names ≡ 47 ∷ bytes
path_of_parts bytes names name others is some =
    rw some (names_join name others ∙ ap (λ (bs : List ℕ). 47 ∷ bs)
    (ap (λ (ps : List (List ℕ)). join_with_byte 47 ps) (sym (is ∙ some)) ∙ join_with_byte-slice_split 47 bytes))

-- a word of the form is the text of its names
pub path_spelled : (word : List ℕ) → is_path_form word ≡ true → path_text (path_names word) ≡ word
path_spelled [] is = absurd (let h : false ≡ true = is in cc)
path_spelled (slash ∷ []) is = ap (λ (b : ℕ). b ∷ []) (sym (eqb-true slash 47 (both _ _ is).0))
path_spelled (slash ∷ byte ∷ bytes) is =
    let some = parts_some 47 (byte ∷ bytes) in
    path_of_parts (byte ∷ bytes) (parts 47 (byte ∷ bytes)) some.0 some.1 refl some.2 ∙ ap (λ (b : ℕ). b ∷ byte ∷ bytes)
    (sym (eqb-true slash 47 (both _ _ is).0))

pub path_names_are : (word : List ℕ) → is_path_form word ≡ true → are_name_forms (path_names word) ≡ true
path_names_are [] is = refl
path_names_are (byte ∷ bytes) is = (both _ _ is).1

no_slash : (b : ℕ) → is_name_byte b ≡ true → splits 47 b ≡ false
no_slash b is = off (splits 47 b) (both _ _ is).1
  where
    off : (t : Bool) → not t ≡ true → t ≡ false
    off true h = absurd (let g : false ≡ true = h in cc)
    off false h = refl

names_parts : (name : List ℕ) (names : List (List ℕ)) → are_name_forms (name ∷ names) ≡ true → parts 47 (name ++ names_text names) ≡ name
    ∷ names
names_parts name [] is = rw (append-nil name) (parts_one 47 is_name_byte no_slash name (both _ _ (both _ _ is).0).1)
names_parts name (next ∷ names) is =
    let p = both (is_name_form name) (are_name_forms (next ∷ names)) is in
    parts_first 47 is_name_byte no_slash refl name (next ++ names_text names) (both _ _ p.0).1 ∙ ap (λ (ps : List (List ℕ)). name ∷ ps)
    (names_parts next names p.1)

-- the names that a path's text has
pub names_of_text : (names : List (List ℕ)) → are_name_forms names ≡ true → path_names (path_text names) ≡ names
names_of_text [] is = refl
names_of_text ([] ∷ names) is = absurd (let h : false ≡ true = is in cc)
names_of_text ((byte ∷ bytes) ∷ names) is = names_parts (byte ∷ bytes) names is

pub path_text_form : (names : List (List ℕ)) → are_name_forms names ≡ true → is_path_form (path_text names) ≡ true
path_text_form [] is = refl
path_text_form ([] ∷ names) is = absurd (let h : false ≡ true = is in cc)
path_text_form ((byte ∷ bytes) ∷ names) is = rw (names_parts (byte ∷ bytes) names is) is
