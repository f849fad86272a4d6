-- The words of a line, one after another.
use Rattle.std.proofs.Common.{◌≡◌, ℕ, ◌+◌, ◌<◌, ◌≤◌, Bool, List, [], ◌∷◌, ◌++◌, Option, Some, None, length, take, drop, map, refl, sym, ap}
use Rattle.std.proofs.Common.{◌∙◌, append_assoc, arith, inl, inr, ◌⊎◌, length-take, length-drop}
use Rattle.std.specs.List.{slice_split, onto_first, position, position_or_len}
use Rattle.std.specs.Borrow.{Bor}
use Rattle.std.proofs.lemmas.Bool.{cases_lt, lt-ltb, le-ltb, cases_Bool}
use Rattle.std.proofs.lemmas.List.{take_all}
use Rattle.std.proofs.lemmas.List.Splits.{slice_split_first}
use Rattle.script_words.specs.Splitting.{splits, parts, parts_behind, length_behind, IsFirstPart}

module _ (separator : ℕ) where
  split_none : (line : List ℕ) → length line ≤ position_or_len (splits separator) line → slice_split (splits separator) line ≡ line ∷ []
  split_none [] le = refl
  split_none (b ∷ line) le = grind (arith, split_none line)

  position_cases : (line : List ℕ) (o : Option ℕ) → o ≡ position (splits separator) line
      → ((o ≡ None) × (length line ≤ position_or_len (splits separator) line))
      ⊎ ((o ≡ Some (position_or_len (splits separator) line)) × (position_or_len (splits separator) line < length line))
  position_cases line o is = elim (cases_lt (position_or_len (splits separator) line) (length line)) [
    | inl lt ↦ inr (is ∙ rw (lt-ltb (position_or_len (splits separator) line) (length line) lt) refl, lt)
    | inr le ↦ inl (is ∙ rw (le-ltb (position_or_len (splits separator) line) (length line) le) refl, le)
  ]

  pub part_none : (line : List ℕ) → None ≡ position (splits separator) line → IsFirstPart separator line line None
  part_none line is = elim (position_cases line None is) [
    | inl none ↦ record { parts_are = split_none line none.1; size = omega arith }
    | inr some ↦ absurd (let h = some.0 in cc)
  ]

  pub part_some : (line word : List ℕ) (more : Bor (List ℕ)) (end : ℕ) → Some end ≡ position (splits separator) line → word ≡ take end line
      → more.now ≡ drop (end + 1) line → IsFirstPart separator line word (Some more)
  part_some line word more end is word-is more-is = elim (position_cases line (Some end) is) [
    | inl none ↦ absurd (let h = none.0 in cc)
    | inr some ↦
        let at : end ≡ position_or_len (splits separator) line = (let h = some.0 in cc) in
        record {
          parts_are = rw (word-is, more-is, at) (slice_split_first (splits separator) line 0 some.1);
          size = rw (word-is, more-is) (omega (arith, some.1, at, length-take end line, length-drop (end + 1) line));
        }
  ]

-- there is always a first part
pub parts_some : (separator : ℕ) (bytes : List ℕ) → (first : List ℕ) × (others : List (List ℕ)) × (parts separator bytes ≡ first ∷ others)
parts_some separator [] = ([], [], refl)
parts_some separator (b ∷ bytes) = elim (cases_Bool (splits separator b)) [
  | inl hit ↦ ([], parts separator bytes, rw hit refl)
  | inr miss ↦ let some = onto_some b (parts separator bytes) in (some.0, some.1, rw miss some.2)
]
  where
    onto_some : (b : ℕ) (ps : List (List ℕ)) → (y : List ℕ) × (ys : List (List ℕ)) × (onto_first b ps ≡ y ∷ ys)
    onto_some b [] = (b ∷ [], [], refl)
    onto_some b (part ∷ ps) = (b ∷ part, ps, refl)
