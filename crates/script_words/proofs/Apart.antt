-- Parts that a separator keeps apart.
use Rattle.std.proofs.Common.{◌≡◌, ℕ, Bool, true, false, ◌&&◌, List, [], ◌∷◌, ◌++◌, refl, ap, ◌∙◌}
use Rattle.std.specs.List.{list_all}
use Rattle.script_words.specs.Splitting.{splits, parts}

-- both tests are true
pub both : (a b : Bool) → (a && b) ≡ true → (a ≡ true) × (b ≡ true)
both true b is = (refl, is)
both false b is = absurd (let h : false ≡ true = is in cc)

pub joined : (a b : Bool) → a ≡ true → b ≡ true → (a && b) ≡ true
joined a b p q = rw (p, q) refl

-- bytes that pass a test which no separator passes
module _ (separator : ℕ) (test : ℕ → Bool) (apart : (b : ℕ) → test b ≡ true → splits separator b ≡ false) where
  pub parts_one : (bytes : List ℕ) → list_all test bytes ≡ true → parts separator bytes ≡ bytes ∷ []
  parts_one [] is = refl
  parts_one (b ∷ bytes) is =
      let p = both (test b) (list_all test bytes) is in
      rw (apart b p.0, parts_one bytes p.1) refl

  pub parts_first : (at : splits separator separator ≡ true) (bytes more : List ℕ) → list_all test bytes ≡ true
      → parts separator (bytes ++ separator ∷ more) ≡ bytes ∷ parts separator more
  parts_first at [] more is = rw at refl
  parts_first at (b ∷ bytes) more is =
      let p = both (test b) (list_all test bytes) is in
      rw (apart b p.0, parts_first at bytes more p.1) refl
