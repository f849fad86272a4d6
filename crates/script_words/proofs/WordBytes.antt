-- How many bytes the words of a line take.
use Rattle.std.proofs.Common.{◌≡◌, ℕ, ◌+◌, Bool, true, false, cond, List, [], ◌∷◌, length, refl, arith, inl, inr}
use Rattle.std.specs.List.{slice_split, onto_first}
use Rattle.std.proofs.lemmas.Bool.{cases_Bool}
use Rattle.script_words.specs.Splitting.{splits, parts}
use Rattle.script_words.specs.WordList.{behind_length, spaced_length}

onto_longer : (b : ℕ) (words : List (List ℕ)) → spaced_length (onto_first b words) ≡ 1 + spaced_length words
onto_longer b [] = refl
onto_longer b (word ∷ words) = omega arith

split_behind : (line : List ℕ) → behind_length (parts 32 line) ≡ 1 + spaced_length (parts 32 line)
split_behind line = by (parts 32 line) (some line)
  where
    some : (l : List ℕ) → (y : List ℕ) × (ys : List (List ℕ)) × (parts 32 l ≡ y ∷ ys)
    some [] = ([], [], refl)
    some (b ∷ l) = elim (cases_Bool (splits 32 b)) [
      | inl hit ↦ ([], parts 32 l, rw hit refl)
      | inr miss ↦ onto (parts 32 l) b miss l refl
    ]
      where
        onto : (ps : List (List ℕ)) (b : ℕ) → splits 32 b ≡ false → (l : List ℕ) → parts 32 l ≡ ps → (y : List ℕ) × (ys : List (List ℕ))
            × (parts 32 (b ∷ l) ≡ y ∷ ys)
        onto [] b miss l is = (b ∷ [], [], rw (miss, is) refl)
        onto (p ∷ ps) b miss l is = (b ∷ p, ps, rw (miss, is) refl)

    by : (words : List (List ℕ)) → ((y : List ℕ) × (ys : List (List ℕ)) × (words ≡ y ∷ ys)) → behind_length words ≡ 1 + spaced_length words
    by words (y, ys, is) = rw is (omega arith)

pub length-words : (line : List ℕ) → length line ≡ spaced_length (parts 32 line)
length-words [] = refl
length-words (b ∷ line) = elim (cases_Bool (splits 32 b)) [
  | inl hit ↦ rw hit (omega (arith, length-words line, split_behind line))
  | inr miss ↦ rw (miss, onto_longer b (parts 32 line)) (omega (arith, length-words line))
]
