-- pairs whose values are changed one after another
use Rattle.std.proofs.Common.{◌≡◌, ℕ, zero, suc, ◌<◌, List, [], ◌∷◌, ◌++◌, T, map, length, get_or, set, take, drop, refl, ap, ◌∙◌, arith}
use Rattle.std.specs.declared.cmp.Ordering.{Ordering}
use Rattle.std.specs.FinMap.Entries.{below_all}
use Rattle.std.proofs.lemmas.List.{append-nil, drop_all, take_all}
use Rattle.map_words.specs.Pairs.{IsRising, with_values}

module _ {K V : Type 0} where
  abbrev pub keys : List (K × V) → List K
  keys rows = map (λ pair. pair.0) rows

  -- the first pairs, so many of them, with the values that f makes of theirs
  pub changed : (V → V) → ℕ → List (K × V) → List (K × V)
  changed f zero rows = rows
  changed f (suc n) [] = []
  changed f (suc n) (e ∷ rows) = (e.0, f e.1) ∷ changed f n rows

  pub changed_start : (f : V → V) (rows : List (K × V)) → rows ≡ changed f 0 rows
  unfolding changed
  changed_start f rows = refl

  pub changed_next : (f : V → V) (n : ℕ) (rows : List (K × V)) (e : K × V) → n < length rows → e ≡ get_or (changed f n rows) n e
      → set (changed f n rows) n (e.0, f e.1) ≡ changed f (suc n) rows
  unfolding changed
  changed_next f n [] e lt is = absurd (omega arith)
  changed_next f zero (x ∷ rows) e lt is = ap (λ (y : K × V). (y.0, f y.1) ∷ rows) is
  changed_next f (suc n) (x ∷ rows) e lt is = ap (λ rest. (x.0, f x.1) ∷ rest) (changed_next f n rows e (omega (arith, lt)) is)

  pub changed_all : (f : V → V) (rows : List (K × V)) → changed f (length rows) rows ≡ with_values f rows
  unfolding changed
  changed_all f [] = refl
  changed_all f (e ∷ rows) = ap (λ rest. (e.0, f e.1) ∷ rest) (changed_all f rows)

  pub keys_set : (rows : List (K × V)) (i : ℕ) (e : K × V) (v : V) → e ≡ get_or rows i e → keys (set rows i (e.0, v)) ≡ keys rows
  keys_set [] i e v is = refl
  keys_set (x ∷ rows) zero e v is = ap (λ (y : K × V). y.0 ∷ keys rows) is
  keys_set (x ∷ rows) (suc i) e v is = ap (λ rest. x.0 ∷ rest) (keys_set rows i e v is)

  module _ (R : K → K → Ordering) where
    below_keys : (x : K) (a b : List (K × V)) → keys a ≡ keys b → T (below_all R x a) → T (below_all R x b)
    below_keys x a [] same below = tt
    below_keys x [] (f ∷ b) same below = absurd (cc)
    below_keys x (e ∷ a) (f ∷ b) same below = grind (arith, same, below_keys x a b)

    -- pairs with the same keys rise alike
    pub rising_keys : (a b : List (K × V)) → keys a ≡ keys b → IsRising R a → IsRising R b
    rising_keys a [] same rising = tt
    rising_keys [] (f ∷ b) same rising = absurd (cc)
    rising_keys (e ∷ a) (f ∷ b) same rising = grind (arith, same, below_keys e.0 a b, rising_keys a b)

-- what is seen of a list of that length once as many items stand in its place
pub all_seen : {X : Type 0} (n : ℕ) (new old : List X) → length new ≡ n → length old ≡ n → take n (new ++ drop (length new) old) ≡ new
all_seen n new old now was =
    ap (λ rest. take n (new ++ rest)) (drop_all (length new) old (omega (arith, now, was))) ∙ ap (take n) (append-nil new)
    ∙ take_all n new (omega (arith, now))
