-- Numbers, digit by digit.
use Rattle.std.proofs.Common.{◌≡◌, ℕ, ◌+◌, ◌-◌, ◌*◌, List, [], ◌∷◌, ◌++◌, refl, arith}
use Rattle.script_words.specs.WordForm.{number_after}

pub number_more : (n : ℕ) (digits : List ℕ) (digit : ℕ) → number_after n (digits ++ digit ∷ []) ≡ 10 * number_after n digits + (digit - 48)
number_more n [] digit = refl
number_more n (first ∷ digits) digit = number_more (10 * n + (first - 48)) digits digit
