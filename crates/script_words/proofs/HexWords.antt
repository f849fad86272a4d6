-- Bytes and their words in hexadecimal.
use Rattle.std.proofs.Common.{◌≡◌, ℕ, ◌+◌, ◌*◌, ◌/◌, ◌%◌, ◌-◌, ◌<◌, ◌≤◌, Bool, true, false, ◌&&◌, ◌||◌, nat_le, nat_lt, List, [], ◌∷◌}
use Rattle.std.proofs.Common.{length, refl, sym, ap, ◌∙◌, arith, rules, tests, inl, inr}
use Rattle.std.specs.List.{AllByRecursion}
use Rattle.script_words.specs.WordText.{hex_digit, hex_text}
use Rattle.script_words.specs.WordForm.{is_hex_digit, hex_value, are_hex_pairs, hex_bytes}
use Rattle.script_words.proofs.Apart.{both, joined}

value_small : (d : ℕ) → is_hex_digit d ≡ true → hex_value d < 16
value_small d is = grind (arith, tests)

digit_back : (d : ℕ) → is_hex_digit d ≡ true → hex_digit (hex_value d) ≡ d
digit_back d is = grind (arith, tests)

value_back : (n : ℕ) → n < 16 → hex_value (hex_digit n) ≡ n
value_back n small = grind (arith, tests)

digit_is : (n : ℕ) → n < 16 → is_hex_digit (hex_digit n) ≡ true
digit_is n small = grind (arith, tests)

-- a word of the form is the text of its bytes
pub hex_spelled : (word : List ℕ) → are_hex_pairs word ≡ true → hex_text (hex_bytes word) ≡ word
hex_spelled [] is = refl
hex_spelled (high ∷ []) is = absurd (let h : false ≡ true = is in cc)
hex_spelled (high ∷ low ∷ more) is =
    let p = both (is_hex_digit high && is_hex_digit low) (are_hex_pairs more) is in
    let q = both (is_hex_digit high) (is_hex_digit low) p.0 in
    let hs = value_small high q.0 in
    let ls = value_small low q.1 in
    let hd : (hex_value high * 16 + hex_value low) / 16 ≡ hex_value high = omega arith in
    let lm : (hex_value high * 16 + hex_value low) % 16 ≡ hex_value low = omega arith in
    rw (hd, lm, digit_back high q.0, digit_back low q.1, hex_spelled more p.1) refl

pub hex_bytes_small : (word : List ℕ) → are_hex_pairs word ≡ true → AllByRecursion (λ (b : ℕ). b < 256) (hex_bytes word)
hex_bytes_small [] is = tt
hex_bytes_small (high ∷ []) is = tt
hex_bytes_small (high ∷ low ∷ more) is =
    let p = both (is_hex_digit high && is_hex_digit low) (are_hex_pairs more) is in
    let q = both (is_hex_digit high) (is_hex_digit low) p.0 in
    let hs = value_small high q.0 in
    let ls = value_small low q.1 in
    let small : hex_value high * 16 + hex_value low < 256 = omega arith in
    (small, hex_bytes_small more p.1)

-- the bytes that a text has
pub bytes_of_text : (bytes : List ℕ) → AllByRecursion (λ (b : ℕ). b < 256) bytes → (are_hex_pairs (hex_text bytes) ≡ true)
    × (hex_bytes (hex_text bytes) ≡ bytes)
bytes_of_text [] small = (refl, refl)
bytes_of_text (byte ∷ bytes) small =
    let b : byte < 256 = small.0 in
    let h : byte / 16 < 16 = omega arith in
    let l : byte % 16 < 16 = omega arith in
    let back : byte / 16 * 16 + byte % 16 ≡ byte = omega arith in
    let rest = bytes_of_text bytes small.1 in (
      rw (digit_is (byte / 16) h, digit_is (byte % 16) l, rest.0) refl,
      rw (value_back (byte / 16) h, value_back (byte % 16) l, back, rest.1)
          refl,
    )

pub length-hex_text : (bytes : List ℕ) → length (hex_text bytes) ≡ 2 * length bytes
length-hex_text [] = refl
length-hex_text (byte ∷ bytes) = omega (arith, length-hex_text bytes)
