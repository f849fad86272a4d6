-- A text that begins with another one begins with the front of that.
use Rattle.std.proofs.Common.{◌≡◌, ℕ, List, [], ◌∷◌, ◌++◌, refl, arith}
use Rattle.std.specs.Io.{StartsWith}

starts_with_first : (old added new : List ℕ) → StartsWith new (old ++ added) → StartsWith new old
starts_with_first [] added new starts = refl
starts_with_first (byte ∷ old) added [] starts = grind arith
starts_with_first (byte ∷ old) added (first ∷ new) starts = grind (arith, starts_with_first old added new)

pub starts_with_front : (old added text new : List ℕ) → text ≡ old ++ added → StartsWith new text → StartsWith new old
starts_with_front old added text new is starts = starts_with_first old added new (rw is at starts)
