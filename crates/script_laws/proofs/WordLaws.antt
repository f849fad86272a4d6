-- What a word that passes says.
use Rattle.std.proofs.Common.{◌≡◌, ℕ, ◌*◌, ◌<◌, ◌≤◌, ◌^◌, Bool, true, false, ◌&&◌, nat_le, nat_lt, List, length, refl, sym, ap, subst, ◌∙◌}
use Rattle.std.proofs.Common.{arith, inl, inr}
use Rattle.std.specs.List.{AllByRecursion}
use Rattle.std.specs.Str.{bytes_eq}
use Rattle.std.specs.Fmt.{decimal}
use Rattle.std.proofs.lemmas.Bool.{cases_Bool, ltb-true, leb-true, le-leb, lt-ltb, le-ltb, cases_lt, false≢true}
use Rattle.std.proofs.lemmas.Slice.Eq.{bytes_eq-Decides}
use Rattle.script_words.specs.declared.limits.Fit.{Fit}
use Rattle.script_words.specs.declared.limits.Fit.TheVariants.{Fits, Over, Unfit}
use Rattle.script_words.specs.WordText.{path_text, hex_text}
use Rattle.script_words.specs.WordForm.{is_path_form, path_names, path_fit, folder_text, sibling_fit, are_hex_pairs, hex_bytes, hex_fit}
use Rattle.script_words.specs.WordForm.{is_numeral, number_of, number_fit}
use Rattle.script_words.proofs.Apart.{both}
use Rattle.script_words.proofs.PathWords.{path_spelled, path_names_are, names_of_text, path_text_form}
use Rattle.script_words.proofs.HexWords.{hex_spelled, hex_bytes_small, bytes_of_text, length-hex_text}
use Rattle.script_words.proofs.NumberWords.{number_spelled, number_of_text, number_text_form}
use Rattle.script_forms.specs.Form.{passes}
use Rattle.script_forms.specs.Grammar.{fits_if}
use Rattle.script_forms.specs.LineForms.{IsPath, path_limit, block_limit}

-- what does not fit does not pass
pub unfit_stops : {P : Type 0} (limited : Bool) (k : Fit) → k ≡ Unfit → passes limited k → P
unfit_stops limited Fits is p = absurd cc
unfit_stops limited (Over limit) is p = absurd cc
unfit_stops limited Unfit is p = absurd p

pub passes_same : (limited : Bool) (j k : Fit) → j ≡ k → passes limited j → passes limited k
passes_same limited j k is p = subst (λ (f : Fit). passes limited f) is p

pub if_passes : (limited : Bool) (b : Bool) → passes limited (fits_if b) → b ≡ true
if_passes limited true p = refl
if_passes limited false p = absurd p

pub passes_if : (limited : Bool) (b : Bool) → b ≡ true → passes limited (fits_if b)
passes_if limited true is = tt
passes_if limited false is = absurd (false≢true is)

-- ---- paths

pub record PathWord (limited : Bool) (w : List ℕ) : Type 0 where
  pub text : path_text (path_names w) ≡ w
  pub form : IsPath (path_names w)
  pub within : passes limited (path_limit (path_names w))

pub path_word : (limited : Bool) (w : List ℕ) → passes limited (path_fit w) → PathWord limited w
path_word limited w p = elim (cases_Bool (is_path_form w)) [
  | inl hit ↦
      let e : path_fit w ≡ path_limit (path_names w) = rw hit refl in
      record { text = path_spelled w hit; form = path_names_are w hit; within = passes_same limited _ _ e p }
  | inr miss ↦ unfit_stops limited (path_fit w) (rw miss refl) p
]

pub path_fit_of_text : (path : List (List ℕ)) → IsPath path → path_fit (path_text path) ≡ path_limit path
path_fit_of_text path is = rw (path_text_form path is, names_of_text path is) refl

pub sibling_word : (limited : Bool) (other w : List ℕ) → passes limited (sibling_fit other w) → (folder_text w ≡ folder_text other)
    × passes limited (path_fit w)
sibling_word limited other w p = elim (cases_Bool (bytes_eq (folder_text w) (folder_text other))) [
  | inl hit ↦ (
    (bytes_eq-Decides (folder_text w) (folder_text other)).0 hit,
    passes_same limited _ _
        (let e : sibling_fit other w ≡ path_fit w = rw hit refl in e) p,
  )
  | inr miss ↦ unfit_stops limited (sibling_fit other w) (rw miss refl) p
]

pub sibling_fit_of : (other w : List ℕ) → folder_text w ≡ folder_text other → sibling_fit other w ≡ path_fit w
sibling_fit_of other w is = rw ((bytes_eq-Decides (folder_text w) (folder_text other)).1 is) refl

-- ---- bytes

pub record HexWord (limited : Bool) (w : List ℕ) : Type 0 where
  pub text : hex_text (hex_bytes w) ≡ w
  pub some : 0 < length (hex_bytes w)
  pub small : AllByRecursion (λ (b : ℕ). b < 256) (hex_bytes w)
  pub within : passes limited (block_limit (hex_bytes w))

block_of_length : (w : List ℕ) (bytes : List ℕ) → length w ≡ 2 * length bytes → nat_lt 65536 (length w) ≡ nat_lt 32768 (length bytes)
block_of_length w bytes is = elim (cases_lt 32768 (length bytes)) [
  | inl big ↦ let more : 65536 < length w = omega arith in lt-ltb 65536 (length w) more ∙ sym (lt-ltb 32768 (length bytes) big)
  | inr few ↦ let less : length w ≤ 65536 = omega arith in le-ltb 65536 (length w) less ∙ sym (le-ltb 32768 (length bytes) few)
]

hex_fit_is : (w bytes : List ℕ) → 0 < length bytes → are_hex_pairs w ≡ true → length w ≡ 2 * length bytes → hex_fit w ≡ block_limit bytes
hex_fit_is w bytes some pairs size =
    let long : 0 < length w = omega arith in
    rw (lt-ltb 0 (length w) long, pairs, block_of_length w bytes size) refl

pub hex_word : (limited : Bool) (w : List ℕ) → passes limited (hex_fit w) → HexWord limited w
hex_word limited w p = elim (cases_Bool (nat_lt 0 (length w) && are_hex_pairs w)) [
  | inl hit ↦
      let parts = both (nat_lt 0 (length w)) (are_hex_pairs w) hit in
      let text = hex_spelled w parts.1 in
      let size : length w ≡ 2 * length (hex_bytes w) = sym (ap (λ (bs : List ℕ). length bs) text) ∙ length-hex_text (hex_bytes w) in
      let long = ltb-true 0 (length w) parts.0 in
      let some : 0 < length (hex_bytes w) = omega arith in
      record {
        text = text;
        some = some;
        small = hex_bytes_small w parts.1;
        within = passes_same limited _ _ (hex_fit_is w (hex_bytes w) some parts.1 size) p;
      }
  | inr miss ↦ unfit_stops limited (hex_fit w) (rw miss refl) p
]

pub hex_fit_of_text : (bytes : List ℕ) → 0 < length bytes → AllByRecursion (λ (b : ℕ). b < 256) bytes
    → hex_fit (hex_text bytes) ≡ block_limit bytes
hex_fit_of_text bytes some small = hex_fit_is (hex_text bytes) bytes some (bytes_of_text bytes small).0 (length-hex_text bytes)

-- ---- numbers

pub record NumberWord (low high : ℕ) (w : List ℕ) : Type 0 where
  pub numeral : is_numeral w ≡ true
  pub from : low ≤ number_of w
  pub to : number_of w ≤ high

pub number_word : (limited : Bool) (low high : ℕ) (w : List ℕ) → passes limited (number_fit low high w) → NumberWord low high w
number_word limited low high w p = elim (cases_Bool (is_numeral w && (nat_le low (number_of w) && nat_le (number_of w) high))) [
  | inl hit ↦
      let a = both (is_numeral w) (nat_le low (number_of w) && nat_le (number_of w) high) hit in
      let b = both (nat_le low (number_of w)) (nat_le (number_of w) high) a.1 in
      record { numeral = a.0; from = leb-true low (number_of w) b.0; to = leb-true (number_of w) high b.1 }
  | inr miss ↦ unfit_stops limited (number_fit low high w) (rw miss refl) p
]

pub number_text : (low high : ℕ) (w : List ℕ) → high < 2 ^ 64 → NumberWord low high w → decimal (number_of w) ≡ w
number_text low high w small n = let to = n.to in let less : number_of w < 2 ^ 64 = omega arith in number_spelled w n.numeral less

pub number_fit_of_text : (low high n : ℕ) → n < 2 ^ 64 → low ≤ n → n ≤ high → number_fit low high (decimal n) ≡ Fits
number_fit_of_text low high n small from to =
    rw (number_of_text n small, number_text_form n small, le-leb low n from, le-leb n high to) refl
