-- Numbers and their words.
use Rattle.std.proofs.Common.{◌≡◌, ℕ, zero, suc, ◌+◌, ◌*◌, ◌-◌, ◌<◌, ◌≤◌, ◌^◌, Bool, true, false, ◌&&◌, ◌||◌, ◌==◌, not, nat_le, nat_lt}
use Rattle.std.proofs.Common.{List, [], ◌∷◌, length, get_or, refl, sym, ap, ◌∙◌, arith, rules, tests, inl, inr}
use Rattle.std.specs.List.{list_all}
use Rattle.std.specs.Fmt.{decimal}
use Rattle.std.proofs.lemmas.Bool.{ltb-true, lt-ltb, eqb-true, cases_Bool}
use Rattle.std.proofs.lemmas.Fmt.{decimal_is_IsNumeral, digits_decimal, digits_value-decimal, decimal-digits_value, decimal_nonempty}
use Rattle.std.proofs.lemmas.Fmt.{first_decimal, decimal_digit}
use Rattle.std.proofs.lemmas.Str.Parse.{IsNumeralModel, numerals_by_fold}
use Rattle.script_words.specs.WordForm.{is_digit, is_numeral, number_after, number_of}
use Rattle.script_words.proofs.Apart.{both, joined}

own : IsNumeralModel (λ ds. list_all is_digit ds ≡ true) (number_after 0)
own = numerals_by_fold _ (search (rules, tests)) number_after (search (rules, tests))

no_leading_zero : (word : List ℕ) → (not (get_or word 0 0 == 48) || length word == 1) ≡ true → get_or word 0 0 ≡ 48 → length word ≡ 1
no_leading_zero word is first = grind (arith, tests)

-- a word of the form is the text of its number
pub number_spelled : (word : List ℕ) → is_numeral word ≡ true → number_of word < 2 ^ 64 → decimal (number_of word) ≡ word
number_spelled word is small =
    let p = both (nat_lt 0 (length word) && list_all is_digit word) (not (get_or word 0 0 == 48) || length word == 1) is in
    let q = both (nat_lt 0 (length word)) (list_all is_digit word) p.0 in
    decimal-digits_value own word q.1 (ltb-true 0 (length word) q.0) (no_leading_zero word p.1) small

pub number_of_text : (n : ℕ) → n < 2 ^ 64 → number_of (decimal n) ≡ n
number_of_text n small = digits_value-decimal own n small

leading : (n : ℕ) → n < 2 ^ 64 → (not (get_or (decimal n) 0 0 == 48) || length (decimal n) == 1) ≡ true
leading zero small = rw (decimal_digit 0 (omega arith)) refl
leading (suc n) small = let big = first_decimal (suc n) (omega arith) small in grind (arith, tests)

pub number_text_form : (n : ℕ) → n < 2 ^ 64 → is_numeral (decimal n) ≡ true
number_text_form n small = joined _ _ (joined _ _ (lt-ltb 0 (length (decimal n)) (decimal_nonempty n small)) (digits_decimal own n small))
    (leading n small)
